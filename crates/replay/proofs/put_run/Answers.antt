-- The opening, the stem, `round` and the cycle, each behind the one before. The cycle starts at the vertex where the stem ends.
use Rattle.std.proofs.Common.{◌≡◌, List, ℕ, ◌+◌, ◌-◌, ◌*◌, ◌≤◌, ◌++◌, length, take, drop, ap, arith, ◌∙◌}
use Rattle.sheet.specs.declared.Sheet.{Sheet}
use Rattle.sheet.specs.Struct.{sheet_of}
use Rattle.append.specs.Appends.{Appends}
use Rattle.append.proofs.Appended.{room_front, append_more, append_room}
use Rattle.replay.specs.Run.{Vertex, start_of, after, steps_text, opening_text, round_text, stem_of, cycle_of, run_text}
use Rattle.replay.specs.Struct.{choice_in, vertex_of}
use Rattle.replay.proofs.StructIsVertex.{same_vertex}
use Rattle.replay.proofs.put_run.Goals as goal
use Rattle.replay.proofs.put_run.Goals.{After-put_steps-reached, After-put_round-turned}

-- ---- the parts, and the room for each behind those before it
module _ (sheet : Sheet) (tables path : List ℕ) (stem cycle : ℕ) where
  -- the vertex where the stem ends
  abbrev turn : Vertex
  turn = let s = sheet_of sheet in after s (choice_in sheet tables) (start_of s) (stem_of stem path)

  abbrev one : List ℕ
  one = opening_text (sheet_of sheet) (choice_in sheet tables) stem cycle

  abbrev two : List ℕ
  two = let s = sheet_of sheet in one ++ steps_text s (choice_in sheet tables) (start_of s) (stem_of stem path)

  abbrev all : List ℕ
  all = (two ++ round_text) ++ steps_text (sheet_of sheet) (choice_in sheet tables) turn (cycle_of stem cycle path)

  module _ (n : ℕ) (room : length (run_text (sheet_of sheet) (choice_in sheet tables) stem cycle path) ≤ n) where
    room-all : 0 + length all ≤ n
    unfolding run_text
    room-all = omega arith

    room-three : 0 + length (two ++ round_text) ≤ n
    room-three = room_front _ _ (two ++ round_text) _ room-all

    room-two : 0 + length two ≤ n
    room-two = room_front _ _ two _ room-three

-- the bytes of the cycle
cycle_is : (stem cycle : ℕ) (path : List ℕ) → take (2 * stem + 2 * cycle - 2 * stem) (drop (2 * stem) path) ≡ cycle_of stem cycle path
cycle_is stem cycle path = let e : 2 * stem + 2 * cycle - 2 * stem ≡ 2 * cycle = omega arith in rw e

-- ---- the text so far, and where the run has come to
stemmed : (c : After-put_steps-reached) → let a = c.args in
    Appends a.text.now 0 (two a.sheet a.tables.now a.path.now a.stem a.cycle) c.put_steps-reached.result.at c.put_steps-reached.new.text
stemmed c = append_more c.put_opening-opened.ensures.appends (rw c.put_opening-opened.ensures.reaches at c.put_steps-reached.ensures.appends)

turns : (c : After-put_round-turned) → let a = c.args in vertex_of a.sheet.architecture c.put_round-turned.result ≡ turn a.sheet a.tables.now a.path.now a.stem a.cycle
turns c =
    let a = c.args in
    let kept = c.put_round-turned.ensures.vertex_stays in
    same_vertex a.sheet.architecture kept.0 kept.1
    ∙ c.put_steps-reached.ensures.reaches
    ∙ ap (λ (v : Vertex). after (sheet_of a.sheet) (choice_in a.sheet a.tables.now) v (stem_of a.stem a.path.now)) c.put_opening-opened.ensures.reaches

-- ---- the goals
pub put_opening-opened-requires-clause-cycle_in_bounds : goal.put_opening-opened-requires-clause-cycle_in_bounds
put_opening-opened-requires-clause-cycle_in_bounds c =
    let a = c.args in
    omega (arith, room_front 0 _ (one a.sheet a.tables.now a.path.now a.stem a.cycle) _ (room-two a.sheet a.tables.now a.path.now a.stem a.cycle _ c.requires.path_in_bounds))

pub put_steps-reached-requires-clause-steps_in_bounds : goal.put_steps-reached-requires-clause-steps_in_bounds
put_steps-reached-requires-clause-steps_in_bounds c =
    let a = c.args in
    let o = c.put_opening-opened.ensures in
    rw o.reaches (append_room o.appends _ (room-two a.sheet a.tables.now a.path.now a.stem a.cycle _ c.requires.path_in_bounds))

pub put_round-turned-requires : goal.put_round-turned-requires
put_round-turned-requires c =
    let a = c.args in
    append_room (stemmed (goal.at.put_round-turned-requires c).After-put_steps-reached) round_text (room-three a.sheet a.tables.now a.path.now a.stem a.cycle _ c.requires.path_in_bounds)

pub put_steps-closed-requires-clause-steps_in_bounds : goal.put_steps-closed-requires-clause-steps_in_bounds
put_steps-closed-requires-clause-steps_in_bounds c =
    let a = c.args in
    let p = goal.at.put_steps-closed-requires-clause-steps_in_bounds c in
    rw (cycle_is a.stem a.cycle a.path.now, turns p.After-put_round-turned)
    (append_room (append_more (stemmed p.After-put_steps-reached) c.put_round-turned.ensures.appends) _ (room-all a.sheet a.tables.now a.path.now a.stem a.cycle _ c.requires.path_in_bounds))

pub returns : goal.returns
unfolding run_text
returns c =
    let a = c.args in
    let p = goal.at.returns c in
    append_more (append_more (stemmed p.After-put_steps-reached) c.put_round-turned.ensures.appends)
    (rw (cycle_is a.stem a.cycle a.path.now, turns p.After-put_round-turned) at c.put_steps-closed.ensures.appends)

-- Leaders and followers are each filled by their own function, and then they stand one behind the other.
use Rattle.std.proofs.Common.{◌≡◌, ℕ, ◌+◌, ◌≤◌, List, ◌++◌, length, get_or, take, ap, ◌∙◌, subst, arith, get_or-take, length-append}
use Rattle.std.proofs.lemmas.List.{take-append-le, get_or-append-add}
use Rattle.model.specs.Choice.{entries}
use Rattle.architecture.specs.declared.Architecture.{Architecture}
use Rattle.architecture.specs.Struct.{IsProper, architecture_of}
use Rattle.architecture.proofs.ProcessesOfArrays.{entries_are, start_few}
use Rattle.ties.specs.Leaders.{entry_leaders}
use Rattle.ties.specs.Groups.{FollowersAre}
use Rattle.ties.proofs.Entries.{leader_low}
use Rattle.ties.proofs.LeadersOfArrays.{leaders_inside}
use Rattle.search.specs.Choices.{Grouped}
use Rattle.search.proofs.put_groups.Goals as goal

entries_few : (a : Architecture) → IsProper a → length (entries (architecture_of a)) ≤ 272
entries_few a z = omega (arith, entries_are a, start_few a z a.processes (omega arith), z.arrays.few_processes)

are_grouped : (a : Architecture) → IsProper a → (leaders followers : List ℕ) → length leaders ≡ 272 → length followers ≡ 272
    → take (length (entries (architecture_of a))) leaders ≡ entry_leaders (architecture_of a) → FollowersAre (length (entries (architecture_of a))) leaders followers
    → Grouped (architecture_of a) (leaders ++ followers)
are_grouped a z leaders followers leaders_long followers_long led next =
    let n = length (entries (architecture_of a)) in
    let few : n ≤ 272 = entries_few a z in
    let taken : take n (leaders ++ followers) ≡ take n leaders = take-append-le n leaders followers (omega (arith, few)) in
    let follower_at : (k : ℕ) → get_or (leaders ++ followers) (272 + k) 0 ≡ get_or followers k 0 = λ k. rw (← leaders_long) (get_or-append-add leaders followers k 0) in
    record {
      chains = record {
        few = few;
        long = omega (arith, length-append leaders followers);
        low = λ k h. omega (arith, leader_low (architecture_of a) z.proper.front.ties_proper k h, ap (λ (x : List ℕ). get_or x k 0) (taken ∙ led), get_or-take n (leaders ++ followers) k 0 h);
        next = λ k h. rw (taken, follower_at k) (next k h);
      };
      are = taken ∙ led;
    }

pub fill_followers-requires-clause-followers_len :
    goal.fill_followers-requires-clause-followers_len
fill_followers-requires-clause-followers_len c = omega (arith, c.requires.groups_len.1, entries_few c.args.a c.requires.proper)

pub fill_followers-requires-clause-leaders_inside :
    goal.fill_followers-requires-clause-leaders_inside
fill_followers-requires-clause-leaders_inside c k h =
    leaders_inside c.args.a c.requires.proper c.fill_leaders.new.leaders c.fill_leaders.ensures.leaders_after k (omega (arith, h, c.requires.groups_len.1))

pub returns : goal.returns
returns c =
    let leaders = c.fill_leaders.new.leaders in
    let followers = c.fill_followers.new.followers in
    rw (c.copy_from_slice.ensures.after, c.copy_from_slice-2.ensures.after)
    (are_grouped c.args.a c.requires.proper leaders followers (omega arith) (omega arith) c.fill_leaders.ensures.leaders_after
    (subst (λ (n : ℕ). FollowersAre n leaders followers) c.requires.groups_len.1 c.fill_followers.ensures.followers_are))

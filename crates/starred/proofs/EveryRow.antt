-- Every row of the table holds, by computation.
use mathlib.Core.Path.{refl}
use Rattle.model.specs.Calls.{check_of, find_of, judge_of, annotate_of}
use Rattle.starred.specs.Table.{Every, done, ◌and◌, Holds, row_i, starred}
use Rattle.starred.proofs.CaseA.{case_A}

-- I: A and one more byte, whichever
one_more_byte : Holds row_i
unfolding check_of
one_more_byte x = refl

pub every_row : Every starred
unfolding check_of find_of judge_of annotate_of
every_row =
    -- A
    case_A and refl
    -- B and C
    and refl and refl and refl and refl
    -- D and E
    and refl and refl
    -- F and G
    and refl and refl and refl
    -- H
    and refl and refl and refl
    and refl and refl and refl
    -- I
    and refl and refl and one_more_byte
    -- S
    and refl and refl and refl and refl
    -- P
    and refl and refl and refl
    and done

-- What annotate's answer stands for, with the path buffer as the call leaves it. These are definitions.
use Rattle.std.specs.Prelude.{List, ℕ, Result, Ok, Err}
use Rattle.model.specs.declared.Refusal.{Refusal}
use Rattle.model.specs.declared.Finding.{Finding}
use Rattle.model.specs.declared.Finding.TheVariants.{Yes, No}
use Rattle.model.specs.Calls.{AfterPath, path_left}
use Rattle.judging.specs.declared.Annotated.{Annotated}
use Rattle.judging.specs.declared.Annotated.TheVariants.{Keeps, Loop}

-- the finding, or the refusal
abbrev pub verdict_of : Result Annotated Refusal → Result Finding Refusal
verdict_of (Ok Keeps) = Ok Yes
verdict_of (Ok (Loop lengths)) = Ok No
verdict_of (Err r) = Err r

-- the two lengths, which are 0 but on `loop`, and the path
abbrev pub after_path : Result Annotated Refusal → List ℕ → AfterPath
after_path (Ok Keeps) path = path_left path
after_path (Ok (Loop lengths)) path = record { stem = lengths.stem; cycle = lengths.cycle; path = path }
after_path (Err r) path = path_left path

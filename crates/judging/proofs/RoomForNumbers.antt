-- Whether there is room for the annotation goes by its length and the number of vertices, which the code takes from the shape of the tables.
use mathlib.Core.Path.{◌≡◌}
use mathlib.Core.List.{List}
use Prim.Native.Nat.{ℕ, ◌<◌, ◌≤◌}
use borrow.Author.Tests.{lt-ltb, le-ltb}
use lib.ListN.{length}
use Rattle.model.specs.declared.Refusal.TheVariants.{AnnotationBufferTooShort}
use Rattle.model.specs.Sheet.{Sheet}
use Rattle.model.specs.Reading.{refused, proper}
use Rattle.model.specs.RunGraph.{vertices}
use Rattle.model.specs.Calls.{annotation_short, room_for}
use Rattle.model.proofs.Refusing.{stop, go}

module _ (s : Sheet) (c ann : List ℕ) (size : ℕ) (is : size ≡ vertices s) where
  pub too_short : length ann < size → room_for s c ann ≡ refused AnnotationBufferTooShort
  unfolding room_for annotation_short
  too_short h = stop _ _ (lt-ltb _ _ (rw is at h))

  pub long_enough : size ≤ length ann → room_for s c ann ≡ proper record { sheet = s; choice = c }
  unfolding room_for annotation_short
  long_enough h = go _ _ (le-ltb _ _ (rw is at h))

-- What is copied is written over a part of the list.
use Rattle.std.proofs.Common.{refl}
use Rattle.append.proofs.Appended.{append_part}
use Rattle.append.proofs.put_all.Goals as goal

pub returns : goal.returns
returns g c = let a = c.args in rw c.copy_from_slice.ensures.after (append_part a.list.now a.copied.now a.at _ _ refl refl c.requires)

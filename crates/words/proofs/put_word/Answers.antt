-- A copy of two bytes appends them.
use Rattle.std.proofs.Common.{rules}
use Rattle.std.proofs.lemmas.Slice.{overwrites}
use Rattle.words.specs.Words.{bytes_of}
use Rattle.words.proofs.put_word.Goals as goal

pub returns : goal.returns
unfolding bytes_of
returns c = record { is = search (rules, overwrites); ends = search rules; behind = search (rules, overwrites) }

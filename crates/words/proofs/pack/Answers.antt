-- `words::pack` meets its contract. Assumes nothing.
use Rattle.std.proofs.Common.{rules}
use Rattle.words.proofs.Words.{packed_4}
use Rattle.words.proofs.pack.Goals as goal

pub returns : goal.returns
returns c = search (rules, packed_4)

-- `words::pack_eight` meets its contract. Assumes nothing.
use Rattle.std.proofs.Common.{rules}
use Rattle.words.proofs.Words.{packed_8}
use Rattle.words.proofs.pack_eight.Goals as goal

pub returns : goal.returns
returns c = search (rules, packed_8)

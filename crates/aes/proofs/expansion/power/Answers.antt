-- `aes::expansion::power` meets its contract: the ten constants are the table of the powers, computed once. Assumes nothing.
use Rattle.std.proofs.Common.{refl, arith}
use Rattle.lists.specs.Table.{table_from}
use Rattle.lists.proofs.Table.{at}
use Rattle.aes.specs.Expansion.{power}
use Rattle.aes.proofs.expansion.power.Goals as goal

pub returns : goal.returns
unfolding power table_from
returns c = at power 10 _ refl c.args.n (omega arith)

-- `lists::blank` meets its contract, by computing. Assumes nothing.
use Rattle.std.proofs.Common.{refl}
use Rattle.lists.specs.Zeros.{zeros}
use Rattle.lists.proofs.blank.Goals as goal

pub returns : goal.returns
unfolding zeros
returns g c = refl

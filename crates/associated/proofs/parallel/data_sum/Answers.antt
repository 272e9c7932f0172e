-- One block more goes by the definition of the sum, and as many blocks are handed to the cipher as there are.
use Rattle.std.proofs.Common.{arith, rules}
use Rattle.aes.specs.Under.{cipher_under}
use Rattle.mode.specs.Masks.{doubles}
use Rattle.mode.specs.Data.{data_sum}
use Rattle.mode.proofs.Data.{data_sum_step, doubles_step}
use Rattle.mode.proofs.Runs.{length-sum_inputs}
use Rattle.associated.proofs.parallel.data_sum.Goals as goal

pub loop-i-init : goal.loop-i-init
unfolding data_sum doubles
loop-i-init c = search rules

pub loop-i-preserved : goal.loop-i-preserved
loop-i-preserved c =
    let step = data_sum_step (cipher_under c.args.e.now) c.args.first c.loop-i.i c.args.a.now in
    let next = doubles_step c.loop-i.i c.args.first in
    record { sum = cc; q = cc; runs = omega arith }

pub returns-clause-runs_value : goal.returns-clause-runs_value
returns-clause-runs_value c = omega (arith, length-sum_inputs c.args.first c.args.n c.args.a.now)

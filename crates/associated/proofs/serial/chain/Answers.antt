-- One block more goes by the definition of the chain, and as many blocks are handed to the cipher as there are.
use Rattle.std.proofs.Common.{arith, rules}
use Rattle.aes.specs.Under.{cipher_under}
use Rattle.mode.specs.Data.{chain}
use Rattle.mode.proofs.Data.{chain_step}
use Rattle.mode.proofs.Runs.{length-chain_inputs}
use Rattle.associated.proofs.serial.chain.Goals as goal

pub loop-i-init : goal.loop-i-init
unfolding chain
loop-i-init c = search rules

pub loop-i-preserved : goal.loop-i-preserved
loop-i-preserved c =
    let step = chain_step (cipher_under c.args.e.now) c.loop-i.i c.args.a.now in
    record { front = cc; runs = omega arith }

pub returns-clause-runs_value : goal.returns-clause-runs_value
returns-clause-runs_value c = omega (arith, length-chain_inputs (cipher_under c.args.e.now) c.args.n c.args.a.now)

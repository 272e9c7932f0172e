-- No more runs than blocks.
use Rattle.std.proofs.Common.{arith}
use Rattle.aes.specs.Under.{cipher_under}
use Rattle.mode.proofs.Runs.{length-chain_inputs}
use Rattle.associated.proofs.serial.ta.Goals as goal

pub ta-requires : goal.ta-requires
ta-requires c =
    record {
      n_value = (
        c.before_last-n.ensures,
        omega (arith, length-chain_inputs (cipher_under c.args.e.now) c.before_last-n.result c.args.a.now),
      );
    }

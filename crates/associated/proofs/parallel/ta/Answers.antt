-- No more runs than blocks.
use Rattle.std.proofs.Common.{arith}
use Rattle.mode.proofs.Runs.{length-sum_inputs}
use Rattle.associated.proofs.parallel.ta.Goals as goal

pub ta-requires : goal.ta-requires
ta-requires c =
    record {
      n_value = (c.before_last-n.ensures, omega (arith, length-sum_inputs c.start_q.result c.before_last-n.result c.args.a.now));
    }

-- `sealer::check::feed` meets its contract: what is due is so little that it fits. Assumes nothing.
use Rattle.std.proofs.Common.{arith}
use Rattle.mode.proofs.Counts.{pairs-within}
use Rattle.sealer.proofs.Verdicts.{keeps_most}
use Rattle.sealer.proofs.check.feed.Goals as goal

pub overflow_mul-due : goal.overflow_mul-due
overflow_mul-due c = omega (arith, pairs-within, keeps_most)

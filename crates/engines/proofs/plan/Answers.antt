-- `engines::plan` meets its promise: a message within its limit has no more pairs than the planner takes. Assumes nothing.
use Rattle.std.proofs.Common.{arith}
use Rattle.mode.proofs.Counts.{pairs_are}
use Rattle.engines.proofs.plan.Goals as goal

pub overflow_mul-n : goal.overflow_mul-n
overflow_mul-n c = omega (arith, pairs_are c.args.message)

pub put_plan-requires : goal.put_plan-requires
put_plan-requires c = (omega (arith, pairs_are c.args.message), omega arith)

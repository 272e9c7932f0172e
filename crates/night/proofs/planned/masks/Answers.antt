-- There are fewer pairs than bytes, so that one pair more does not wrap.
use Rattle.std.proofs.Common.{arith, length}
use Rattle.mode.proofs.Counts.{pairs-within}
use Rattle.night.proofs.planned.masks.Goals as goal

pub overflow_add-count : goal.overflow_add-count
overflow_add-count c = record { fits = omega (arith, c.pairs_of.ensures, pairs-within (length c.args.strings.message.now)) }

-- What is left of the chunk gets shorter with each line.
use Rattle.std.proofs.Common.{length}
use Rattle.console.proofs.take.Given as goal

abbrev pub decreases-loop-end : goal.decreases-loop-end
decreases-loop-end g l = length l.rest

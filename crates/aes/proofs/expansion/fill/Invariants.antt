-- The loop's invariant: k words stand behind the key.
use Rattle.std.proofs.Common.{◌≡◌, ◌*◌, take}
use Rattle.lists.specs.Lay.{lay}
use Rattle.aes.specs.Expansion.{words}
use Rattle.aes.proofs.expansion.fill.Given as goal

abbrev pub invariant-loop-k : goal.invariant-loop-k
invariant-loop-k l = l.w ≡ lay 0 (words l.nk (take (4 * l.nk) l.fn.w) l.k) l.fn.w

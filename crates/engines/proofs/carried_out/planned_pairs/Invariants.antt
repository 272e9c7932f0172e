-- The pairs of the first j entries are written, and the cipher ran twice for each.
use Rattle.std.proofs.Common.{◌≡◌, ◌*◌}
use Rattle.aes.specs.Under.{cipher_under}
use Rattle.block.specs.Wide.{bytes_of}
use Rattle.mode.specs.Masks.{third}
use Rattle.plans.specs.Plan.{pair_at}
use Rattle.engines.proofs.Orders.{written, pair_of}
use Rattle.engines.proofs.carried_out.planned_pairs.Given as goal

abbrev pub invariant-loop-j : goal.invariant-loop-j
invariant-loop-j l =
    record {
      laid : l.out ≡ written (pair_of (cipher_under l.e) (third (bytes_of l.u)) l.m) l.fn.out (pair_at l.plan) l.j;
      runs : l.runs ≡ 2 * l.j;
    }

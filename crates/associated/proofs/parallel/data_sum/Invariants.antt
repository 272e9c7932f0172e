-- The sum of the first i blocks, the first Q doubled i times, and i runs of the cipher.
use Rattle.std.proofs.Common.{◌≡◌}
use Rattle.aes.specs.Under.{cipher_under}
use Rattle.mode.specs.Masks.{doubles}
use Rattle.mode.specs.Data.{data_sum}
use Rattle.associated.proofs.parallel.data_sum.Given as goal

abbrev pub invariant-loop-i : goal.invariant-loop-i
invariant-loop-i l =
    record {
      sum : l.sum ≡ data_sum (cipher_under l.e) l.fn.first l.i l.a;
      q : l.q ≡ doubles l.i l.fn.first;
      runs : l.runs ≡ l.i;
    }

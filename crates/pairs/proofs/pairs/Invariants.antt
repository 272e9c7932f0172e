-- `pairs::pairs` meets its contract. Assumes nothing.
use Rattle.std.proofs.Common.{◌≡◌, ◌*◌}
use Rattle.aes.specs.Under.{cipher_under}
use Rattle.block.specs.Wide.{bytes_of}
use Rattle.pairs.proofs.Carried.{Laid}
use Rattle.pairs.proofs.pairs.Given as goal

abbrev pub invariant-loop-i : goal.invariant-loop-i
invariant-loop-i l = record {
  pairs :
      Laid (cipher_under l.e) l.fn.first.left l.fn.step.left l.fn.first.right l.fn.step.right l.src l.fn.out (2 * l.i) l.out
      (bytes_of l.now.left) (bytes_of l.now.right);
  runs : l.runs ≡ 4 * l.i;
}

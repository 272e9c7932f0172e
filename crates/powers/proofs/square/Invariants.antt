-- `powers::square`: what Horner's rule makes of the bits that are left is the product.
use Rattle.std.proofs.Common.{◌≡◌}
use Rattle.lists.specs.Zeros.{zeros}
use Rattle.block.specs.Wide.{big_of}
use Rattle.powers.specs.Field.{horner, product}
use Rattle.powers.proofs.square.Given as goal

abbrev pub invariant-loop-left : goal.invariant-loop-left
invariant-loop-left l = horner l.left (big_of l.rest) (big_of l.a) (zeros 16) ≡ product (big_of l.a) (big_of l.a)

abbrev pub decreases-loop-left : goal.decreases-loop-left
decreases-loop-left l = l.left

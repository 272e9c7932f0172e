-- `powers::horner`: what Horner's rule makes of the bits that are left is the same.
use Rattle.std.proofs.Common.{◌≡◌, ◌-◌}
use Rattle.lists.specs.Zeros.{zeros}
use Rattle.block.specs.Wide.{big_of}
use Rattle.powers.specs.Field.{horner}
use Rattle.powers.proofs.horner.Given as goal

abbrev pub invariant-loop : goal.invariant-loop
invariant-loop l =
    horner (l.n - l.counter) (big_of l.rest) (big_of l.b) (big_of l.sum) ≡ horner l.n (big_of l.fn.a) (big_of l.b) (zeros 16)

-- `lists::equal`: what its loop keeps.
use Rattle.std.proofs.Common.{◌≡◌, length}
use mathlib.Core.Bool.{◌&&◌}
use lib.Dec.{eqb}
use Rattle.lists.specs.Same.{same}
use Rattle.lists.proofs.equal.Given as goal

-- the answer is what the bytes so far say, and what is left of the two strings
abbrev pub invariant-loop-x : goal.invariant-loop-x
invariant-loop-x l =
    let rest-a = l.x-iterator.a.rest.now in
    let rest-b = l.x-iterator.b.rest.now in
    (length rest-a ≡ length rest-b) × (same l.a l.b ≡ (eqb l.differs 0 && same rest-a rest-b))

-- `powers::horner` meets its contract. Assumes nothing.
use Rattle.std.proofs.Common.{◌≡◌, ◌+◌, ◌-◌, ℕ, suc, List, sym, ap, ap₂, ◌∙◌, arith}
use Rattle.lists.specs.Zeros.{zeros}
use Rattle.block.specs.Wide.{big_of}
use Rattle.powers.specs.Field.{horner}
use Rattle.powers.proofs.horner.Goals as goal

pub loop-init : goal.loop-init
unfolding big_of zeros
loop-init c =
    let all : c.args.n - 0 ≡ c.args.n = omega arith in
    ap (λ (n : ℕ). horner n (big_of c.args.a) (big_of c.args.b) (zeros 16)) all

pub loop-preserved : goal.loop-preserved
unfolding horner
loop-preserved c =
    let h = c.loop in
    let b = big_of c.args.b in
    let left = c.args.n - (h.counter + 1) in
    let one : c.args.n - h.counter ≡ suc left = omega arith in
    ap₂ (λ (x y : List ℕ). horner left x b y) c.shift_big.ensures c.step.ensures
    ∙ sym (ap (λ (n : ℕ). horner n (big_of h.rest) b (big_of h.sum)) one)
    ∙ h.invariant

pub returns : goal.returns
unfolding horner
returns c =
    let h = c.loop in
    let none : 0 ≡ c.args.n - h.counter = omega arith in
    ap (λ (n : ℕ). horner n (big_of h.rest) (big_of c.args.b) (big_of h.sum)) none ∙ h.invariant

-- `powers::square` meets its contract. Assumes nothing.
use Rattle.std.proofs.Common.{◌≡◌, ◌+◌, ◌-◌, ℕ, refl, sym, ap, ◌∙◌, arith}
use Rattle.lists.specs.Zeros.{zeros}
use Rattle.block.specs.Wide.{big_of}
use Rattle.powers.specs.Field.{horner, product}
use Rattle.powers.proofs.One.{passed_over}
use Rattle.powers.proofs.Words.{big_block}
use Rattle.powers.proofs.square.Goals as goal

pub loop-left-init : goal.loop-left-init
unfolding product
loop-left-init c = refl

pub loop-left-preserved : goal.loop-left-preserved
loop-left-preserved c =
    let h = c.loop-left in
    let a = big_of c.args.a in
    let block = big_block h.rest in
    let byte : h.left - 8 + 8 ≡ h.left = omega arith in
    sym (passed_over a (h.left - 8) (big_of h.rest) (big_of c.next_byte-rest.result) block.long block.bytes c.next_byte-rest.ensures)
    ∙ ap (λ (n : ℕ). horner n (big_of h.rest) a (zeros 16)) byte
    ∙ h.invariant

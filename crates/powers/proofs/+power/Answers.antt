-- `powers::power`, which calls itself, meets its contract. Assumes nothing.
use Rattle.std.proofs.Common.{◌≡◌, ◌%◌, sym, ap, ap₂, ◌∙◌, arith}
use Rattle.lists.specs.Zeros.{zeros}
use Rattle.block.specs.Block.{double as double_of}
use Rattle.mode.specs.Masks.{doubles}
use Rattle.powers.specs.Field.{product as product_of, power as power_of}
use Rattle.block.specs.Wide.{big_of}
use Rattle.powers.proofs.Laws.{power-even, power_odd}
use Rattle.powers.proofs.+power.Goals as goal

pub returns-then-n-eq0 : goal.returns-then-n-eq0
unfolding big_of doubles zeros
returns-then-n-eq0 t c = ap power_of (sym c.if-n-eq0.true)

-- the half power, squared, and doubled or not
pub returns-then-n-eq1 : goal.returns-then-n-eq1
returns-then-n-eq1 t c =
    c.double_big.ensures
    ∙ ap double_of (c.square-squared.ensures ∙ ap₂ product_of c.power-half.ensures c.power-half.ensures)
    ∙ power_odd c.args.n (omega arith)

pub returns : goal.returns
returns t c =
    let even : c.args.n % 2 ≡ 0 = omega (arith, c.if-n-eq1.false) in
    c.square-squared.ensures ∙ ap₂ product_of c.power-half.ensures c.power-half.ensures ∙ power-even c.args.n even

-- `block::wide::double_big` meets its contract: 87 by the top bit of the first word. Assumes nothing.
use Rattle.std.proofs.Common.{◌/◌, get_or, sym, ap₂, ◌∙◌, arith, rules, Fits, w64}
use Rattle.block.specs.Block.{reduced, double}
use Rattle.block.specs.Wide.{big_of}
use Rattle.block.proofs.Words.{top, top_bit, reduced_big}
use Rattle.block.proofs.wide.double_big.Goals as goal

pub returns : goal.returns
unfolding big_of double
returns c =
    let a = get_or c.args.x 0 0 in
    let s = c.shift_big-s in
    let fits-a : Fits w64 a = search rules in
    sym
    (ap₂ reduced (top_bit a fits-a.fits) (sym s.ensures)
    ∙ reduced_big (get_or s.result 0 0) (get_or s.result 1 0) (a / top) (omega (arith, fits-a.fits)))

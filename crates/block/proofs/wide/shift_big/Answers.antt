-- `block::wide::shift_big` meets its contract. Assumes nothing.
use Rattle.std.proofs.Common.{get_or, sym, rules, Fits, w64}
use Rattle.block.specs.Wide.{big_of}
use Rattle.block.proofs.Words.{shifted}
use Rattle.block.proofs.wide.shift_big.Goals as goal

pub returns : goal.returns
unfolding big_of
returns c =
    let x = c.args.x in
    let first : Fits w64 (get_or x 0 0) = search rules in
    let second : Fits w64 (get_or x 1 0) = search rules in
    sym (shifted (get_or x 0 0) (get_or x 1 0) first.fits second.fits)

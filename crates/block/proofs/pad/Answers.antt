-- `block::pad` meets its contract. Assumes nothing.
use Rattle.std.proofs.Common.{◌≡◌, ◌+◌, ℕ, List, ◌++◌, length, take, drop, slice_set, sym, ap, ap₂, ◌∙◌, arith, rules}
use lib.Seq.{length-take-le, take_all}
use Rattle.lists.specs.Lay.{lay}
use Rattle.lists.specs.Zeros.{zeros}
use Rattle.lists.proofs.Laid.{set-lay}
use Rattle.lists.proofs.Zeros.{length-zeros}
use Rattle.block.specs.Block.{pad}
use Rattle.block.proofs.Blocks.{pad_short, pad_whole}
use Rattle.block.proofs.pad.Goals as goal

pub returns-then-n-ge16 : goal.returns-then-n-ge16
returns-then-n-ge16 c =
    let b = c.args.b in
    let long : length b ≡ 16 = search rules in
    sym (ap pad (take_all c.args.n b (omega arith)) ∙ pad_whole b (omega arith))

pub returns : goal.returns
returns c =
    let n = c.args.n in
    let p = take n c.args.b in
    let long : length p ≡ n = length-take-le n c.args.b (omega arith) in
    let place : n ≡ 0 + length p = omega arith in
    ap (λ (l : List ℕ). slice_set l n 0x80) (c.lay.ensures ∙ ap (lay 0 p) c.blank-p.ensures)
    ∙ ap (λ (k : ℕ). slice_set (lay 0 p (zeros 16)) k 0x80) place
    ∙ set-lay 0 p (zeros 16) 0x80 (omega (arith, length-zeros 16))
    ∙ sym (pad_short p (omega arith))

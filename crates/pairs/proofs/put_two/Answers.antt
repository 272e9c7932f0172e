-- `pairs::put_two` meets its contract: two parts side by side are one. Assumes nothing.
use Rattle.std.proofs.Common.{◌≡◌, ◌+◌, length, take, ap₂, ◌∙◌, rules, arith}
use Rattle.std.proofs.Math.Seq.{length-take-le}
use Rattle.lists.specs.Lay.{lay}
use Rattle.lists.proofs.Laid.{lay-lay}
use Rattle.pairs.proofs.put_two.Goals as goal

pub returns : goal.returns
returns c =
    let v = c.args in
    let part = take v.n v.b in
    let long : length v.a ≡ 16 = search rules in
    let place : v.at + 16 ≡ v.at + length v.a = omega arith in
    c.lay-2.ensures
    ∙ ap₂ (λ i l. lay i part l) place c.lay.ensures
    ∙ lay-lay v.at v.a part v.out.now (omega (arith, length-take-le v.n v.b))

-- `carrying::carry` meets its promise: the checks, and once they have passed what `carry_over` promises. Assumes nothing.
use Rattle.std.proofs.Common.{sym}
use Rattle.carrying.specs.Checks.{carry_check}
use Rattle.carrying.specs.Named.{named}
use Rattle.carrying.proofs.SealedAnew.{carry_refused, come_to}
use Rattle.carrying.proofs.carry.Goals as goal

pub returns-in-Err : goal.returns-in-Err
unfolding carry_check
returns-in-Err c =
    let v = c.args in
    carry_refused v.edition (named v.old.now) v.tag v.sealed.now (named v.new.now)
    v.out.now v.work.now c.in-Err.stopped c.in-Err.ensures

pub carry_over-requires : goal.carry_over-requires
unfolding carry_check
carry_over-requires c = sym c.in_default.ensures

pub returns : goal.returns
unfolding carry_check
returns c =
    let v = c.args in
    come_to v.edition (named v.old.now) v.tag v.sealed.now (named v.new.now)
    v.out.now v.work.now (sym c.in_default.ensures) c.carry_over.result c.carry_over.new.out c.carry_over.new.work c.carry_over.ensures

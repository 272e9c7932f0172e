-- `carrying::carry_over` meets its contract: what the opening found is sealed anew, and the work buffer cleared. Assumes nothing.
use Rattle.std.proofs.Common.{◌≤◌, length, sym, arith}
use lib.Seq.{length-take-le}
use Rattle.carrying.specs.Named.{named}
use Rattle.carrying.proofs.SealedAnew.{none_found, found, within_work, few_runs, carried_over}
use Rattle.carrying.proofs.carry_over.Goals as goal

pub returns-in_default : goal.returns-in_default
returns-in_default c =
    let v = c.args in
    let old = named v.old.now in
    let new = named v.new.now in
    none_found v.edition old v.tag v.sealed.now new v.out.now v.work.now c.requires c.open-opened.result c.open-opened.new.out c.open-opened.ensures c.in_default.not-Ok

-- ---- the message that was found stands in the work buffer, which is as long as before
pub slice_bounds-message-end : goal.slice_bounds-message-end
slice_bounds-message-end c =
    let v = c.args in
    let old = named v.old.now in
    let new = named v.new.now in
    let n = c.in-Ok.done.length in
    let g = found v.edition old v.tag v.sealed.now new v.out.now v.work.now c.requires n c.in-Ok.done.runs c.open-opened.new.out c.in-Ok.ensures in
    omega (arith, within_work v.edition old v.tag v.sealed.now new v.out.now v.work.now c.requires n c.in-Ok.done.runs c.open-opened.new.out g)

pub slice_bounds-message-end-2 : goal.slice_bounds-message-end-2
slice_bounds-message-end-2 c =
    let v = c.args in
    let old = named v.old.now in
    let new = named v.new.now in
    let n = c.in-Ok.done.length in
    let g = found v.edition old v.tag v.sealed.now new v.out.now v.work.now c.requires n c.in-Ok.done.runs c.open-opened.new.out c.in-Ok.ensures in
    let fits : n ≤ length c.open-opened.new.out = omega (arith, within_work v.edition old v.tag v.sealed.now new v.out.now v.work.now c.requires n c.in-Ok.done.runs c.open-opened.new.out g) in
    sym (length-take-le n c.open-opened.new.out fits)

pub clear-requires : goal.clear-requires
clear-requires c =
    let v = c.args in
    let old = named v.old.now in
    let new = named v.new.now in
    let n = c.in-Ok.done.length in
    let g = found v.edition old v.tag v.sealed.now new v.out.now v.work.now c.requires n c.in-Ok.done.runs c.open-opened.new.out c.in-Ok.ensures in
    omega (arith, within_work v.edition old v.tag v.sealed.now new v.out.now v.work.now c.requires n c.in-Ok.done.runs c.open-opened.new.out g)

-- ---- it is sealed anew
pub overflow_add-result : goal.overflow_add-result
overflow_add-result c =
    let v = c.args in
    let old = named v.old.now in
    let new = named v.new.now in
    let n = c.in-Ok.done.length in
    let g = found v.edition old v.tag v.sealed.now new v.out.now v.work.now c.requires n c.in-Ok.done.runs c.open-opened.new.out c.in-Ok.ensures in
    let anew = rw c.other_edition-edition2.ensures at c.seal-anew.ensures in
    omega (
      arith,
      few_runs v.edition old v.tag v.sealed.now new v.out.now v.work.now c.requires n c.in-Ok.done.runs c.open-opened.new.out g c.seal-anew.result c.seal-anew.new.out anew,
    )

pub returns : goal.returns
returns c =
    let v = c.args in
    let old = named v.old.now in
    let new = named v.new.now in
    let n = c.in-Ok.done.length in
    let g = found v.edition old v.tag v.sealed.now new v.out.now v.work.now c.requires n c.in-Ok.done.runs c.open-opened.new.out c.in-Ok.ensures in
    let anew = rw c.other_edition-edition2.ensures at c.seal-anew.ensures in
    rw c.runs.ensures
    (carried_over v.edition old v.tag v.sealed.now new v.out.now v.work.now c.requires n c.in-Ok.done.runs c.open-opened.new.out g c.seal-anew.result c.seal-anew.new.out anew
    c.clear.new.out c.clear.ensures)

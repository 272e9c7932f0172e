-- `carrying::check::carry_check` meets its contract: the old side's checks make sure of what those of room ask. Assumes nothing.
use Rattle.std.proofs.Common.{Result, length, ap, ◌∙◌}
use Rattle.link.specs.declared.answer.Refusal.{Refusal}
use Rattle.carrying.specs.Checks.{passed, of}
use Rattle.carrying.specs.declared.Side.TheVariants.{Old}
use Rattle.carrying.proofs.Verdicts.{old_verdict, sure_of}
use Rattle.carrying.proofs.check.carry_check.Goals as goal

pub room_check-requires : goal.room_check-requires
room_check-requires c =
    let v = c.args in
    let come = c.in_ok-on.ensures ∙ ap (λ (d : Result (Unit {0}) Refusal). of Old d passed) c.old_check.ensures in
    (sure_of Old (old_verdict v.edition v.old.now.form (length v.old.now.key.now) (length v.old.now.nonce.now) v.tag (length v.old.now.ad.now) v.sealed) _ come).1

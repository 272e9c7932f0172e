-- `carrying::check::old_check` meets its contract: past checks 10, 8 and 1 to 4 check 5 decides. Assumes nothing.
use Rattle.std.proofs.Common.{arith, rules}
use Rattle.std.proofs.lemmas.Result.{err_from_is_err_and}
use Rattle.link.proofs.Verdicts.{called, stops_here, goes_on}
use Rattle.carrying.proofs.check.old_check.Goals as goal

pub returns-in_err-call_check : goal.returns-in_err-call_check
returns-in_err-call_check c =
    let p = err_from_is_err_and c.from_residual.result c.from_residual.ensures.1 in
    rw (p.1, p.2, ← c.known_key-known.ensures) (stops_here _ _ _ _ _ _ _ _ c.in_err-call_check.ensures)

pub overflow_add-tag : goal.overflow_add-tag
overflow_add-tag c = omega (arith, called _ _ _ _ _ _ _ c.in_ok-call_check.ensures)

pub returns-then-not-from_to : goal.returns-then-not-from_to
returns-then-not-from_to c = rw (← c.known_key-known.ensures, goes_on _ _ _ _ _ _ _ c.in_ok-call_check.ensures) (search rules)

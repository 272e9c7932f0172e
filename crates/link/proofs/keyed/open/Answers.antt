-- `link::keyed::open` meets its contract: under the cipher of the key it opens as under the key. Assumes nothing.
use Rattle.std.proofs.Common.{length}
use Rattle.std.proofs.lemmas.Result.{err_from_is_err_and}
use Rattle.link.specs.Checks.{open_next}
use Rattle.link.proofs.Entries.{open_refused, open_admitted, stands_opens}
use Rattle.link.proofs.keyed.open.Goals as goal

pub returns-in_err-open_check : goal.returns-in_err-open_check
returns-in_err-open_check g c =
    let p = err_from_is_err_and c.from_residual.result c.from_residual.ensures.1 in
    let next = open_next c.args.tag (length c.args.sealed.now) (length c.args.out.now) in
    rw (p.1, p.2) (open_refused _ _ c.known-known.ensures _ _ _ next _ c.in_err-open_check.ensures _ _ _ _)

pub round_keys-keys-requires : goal.round_keys-keys-requires
round_keys-keys-requires g c = (open_admitted _ _ c.known-known.ensures _ _ _ _ _ _ c.in_ok-open_check.ensures).0.0.known

pub mask-runs-requires-clause-known : goal.mask-runs-requires-clause-known
mask-runs-requires-clause-known g c = (open_admitted _ _ c.known-known.ensures _ _ _ _ _ _ c.in_ok-open_check.ensures).0.0.known

pub invariant_of-s : goal.invariant_of-s
invariant_of-s g c =
    let called = (open_admitted _ _ c.known-known.ensures _ _ _ _ _ _ c.in_ok-open_check.ensures).0.0 in
    record { nonce_length = called.nonces; tag_length = called.tags.1 }

pub open-requires : goal.open-requires
open-requires g c =
    let fits = (open_admitted _ _ c.known-known.ensures _ _ _ _ _ _ c.in_ok-open_check.ensures).0 in
    record { room = (fits.1, (fits.3, c.mask-runs.ensures.runs_most)) }

pub returns : goal.returns
returns g c =
    let v = c.args in
    let passed = (open_admitted _ _ c.known-known.ensures _ _ _ _ _ _ c.in_ok-open_check.ensures) in
    stands_opens c.mask-runs.ensures v.edition v.form _ c.numbered.ensures v.nonce.now v.tag _ _ passed.1 _ _ _ _ c.«open».ensures

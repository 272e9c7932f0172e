-- `engines::seal_planned` meets its promise. Assumes nothing.
use Rattle.std.proofs.Common.{◌≤◌, ℕ, ◌+◌, length, refl, sym, ap, ◌∙◌, arith}
use Rattle.std.proofs.lemmas.Result.{err_from_is_err_and}
use Rattle.aes.specs.Under.{cipher_under}
use Rattle.mode.specs.Data.{with_data}
use Rattle.mode.specs.declared.edition.Form.TheVariants.{Parallel}
use Rattle.mode.specs.declared.edition.Edition.TheVariants.{V3}
use Rattle.mode.proofs.Counts.{pairs_are}
use Rattle.mode.proofs.Runs.{length-from_inputs}
use Rattle.link.specs.Answers.{done}
use Rattle.link.proofs.Entries.{looked_at, seal_admitted, rounds_in, one_at_most, own_seals}
use Rattle.engines.specs.Promises.{SealsPlanned}
use Rattle.engines.proofs.Sealings.{stopped, not_accepted, is_accepted}
use Rattle.engines.proofs.seal_planned.Goals as goal

pub returns-in_err-length : goal.returns-in_err-length
unfolding SealsPlanned
returns-in_err-length c =
    let p = err_from_is_err_and c.from_residual.result c.from_residual.ensures.1 in
    rw (p.1, p.2) (stopped _ _ _ _ _ _ _ (c.in_err-length.ensures ∙ looked_at _ _ c.known_key-known.ensures _ _ _ _))

pub accepted-requires : goal.accepted-requires
accepted-requires c =
    let fits = (seal_admitted _ _ c.known_key-known.ensures _ _ _ _ _ _ c.in_ok-length.ensures).0 in
    omega (arith, pairs_are (length c.args.message.now), fits.1)

pub returns-then-not-accepted : goal.returns-then-not-accepted
unfolding SealsPlanned
returns-then-not-accepted c =
    let come = sym (c.in_ok-length.ensures ∙ looked_at _ _ c.known_key-known.ensures _ _ _ _) in
    let judged = rw c.pairs_of.ensures at c.accepted.ensures in
    not_accepted _ _ _ _ _ _ _ come c.accepted.result c.if-not-accepted.true judged

pub own_keys-keys-requires : goal.own_keys-keys-requires
own_keys-keys-requires c = (seal_admitted _ _ c.known_key-known.ensures _ _ _ _ _ _ c.in_ok-length.ensures).0.0.known

pub seal-ran-requires-clause-lengths : goal.seal-ran-requires-clause-lengths
seal-ran-requires-clause-lengths c =
    let called = (seal_admitted _ _ c.known_key-known.ensures _ _ _ _ _ _ c.in_ok-length.ensures).0.0 in
    (called.nonces.0, (called.nonces.1, called.tags.1))

pub seal-ran-requires-clause-room : goal.seal-ran-requires-clause-room
seal-ran-requires-clause-room c = (seal_admitted _ _ c.known_key-known.ensures _ _ _ _ _ _ c.in_ok-length.ensures).0.2

pub overflow_add-result : goal.overflow_add-result
overflow_add-result c =
    let v = c.args in
    let first : c.own_mask-runs.result.runs ≤ 1 = rw c.own_mask-runs.ensures.runs_value (one_at_most (with_data v.ad.now)) in
    let ran = length-from_inputs (cipher_under c.new-e.result) c.own_mask-runs.result.value (V3 Parallel) v.nonce.now v.ad.now v.tag v.message.now in
    omega (arith, first, ran)

pub returns : goal.returns
unfolding SealsPlanned
returns c =
    let v = c.args in
    let known = (seal_admitted _ _ c.known_key-known.ensures _ _ _ _ _ _ c.in_ok-length.ensures).0.0.known in
    let come = sym (c.in_ok-length.ensures ∙ looked_at _ _ c.known_key-known.ensures _ _ _ _) in
    let judged = rw c.pairs_of.ensures at c.accepted.ensures in
    let mask = c.own_mask-runs in
    let runs_are = ap (λ (k : ℕ). done c.in_ok-length.length (mask.result.runs + k)) c.seal-ran.ensures.runs_value in
    is_accepted _ _ _ _ _ _ _ come c.accepted.result c.if-not-accepted.false judged _ _
    (own_seals v.key.now known 3 0 v.nonce.now v.ad.now v.tag _ _ _ (c.new-e.ensures ∙ c.own_keys-keys.ensures) mask.ensures.block_value mask.ensures.runs_value _ _ refl v.message.now v.out.now _ _
    (runs_are, c.seal-ran.ensures.out_after))

pub new-e-requires : goal.new-e-requires
new-e-requires c =
    let known = (seal_admitted _ _ c.known_key-known.ensures _ _ _ _ _ _ c.in_ok-length.ensures).0.0.known in
    rw c.own_keys-keys.ensures (rounds_in c.args.key.now known)

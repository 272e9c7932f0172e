-- `sealer::begin` meets its promise. Assumes nothing.
use Rattle.std.proofs.Common.{Err, ap, ◌∙◌}
use Rattle.mode.specs.Data.{with_data}
use Rattle.link.proofs.Entries.{rounds_in, one_at_most}
use Rattle.sealer.specs.declared.Sealer.{Sealer}
use Rattle.sealer.proofs.Begins.{begin_refused, begin_fits, begin_passed}
use Rattle.sealer.proofs.begin.Goals as goal

pub returns-in-Err : goal.returns-in-Err
returns-in-Err c =
    let v = c.args in
    ap (λ (x : Sealer). record { answer = Err c.in-Err.refusal; sealer = x }) c.ended.ensures
    ∙ begin_refused v.form v.key.now v.nonce.now v.ad.now v.tag c.known_key-known.ensures _ c.in-Err.ensures

pub own_keys-keys-requires : goal.own_keys-keys-requires
own_keys-keys-requires c =
    let v = c.args in
    (begin_fits v.form v.key.now v.nonce.now v.ad.now v.tag c.known_key-known.ensures _ c.in_default.ensures).known

pub start-requires-clause-lengths : goal.start-requires-clause-lengths
start-requires-clause-lengths c =
    let v = c.args in
    let called = begin_fits v.form v.key.now v.nonce.now v.ad.now v.tag c.known_key-known.ensures _ c.in_default.ensures in
    (called.nonces.0, (called.nonces.1, called.tags.1))

pub start-requires-clause-ad_len_bound : goal.start-requires-clause-ad_len_bound
start-requires-clause-ad_len_bound c =
    let v = c.args in
    let called = begin_fits v.form v.key.now v.nonce.now v.ad.now v.tag c.known_key-known.ensures _ c.in_default.ensures in
    (called.data_most, rw c.own_mask-runs.ensures.runs_value (one_at_most (with_data v.ad.now)))

pub returns : goal.returns
returns c =
    let v = c.args in
    let mask = c.own_mask-runs.ensures in
    let e_is = c.new-e.ensures ∙ c.own_keys-keys.ensures in
    c.start.ensures
    ∙ begin_passed v.form v.key.now v.nonce.now v.ad.now v.tag c.known_key-known.ensures _ c.in_default.ensures _ _ _ e_is mask.block_value mask.runs_value

pub new-e-requires : goal.new-e-requires
new-e-requires c =
    let v = c.args in
    let known = (begin_fits v.form v.key.now v.nonce.now v.ad.now v.tag c.known_key-known.ensures _ c.in_default.ensures).known in
    rw c.own_keys-keys.ensures (rounds_in v.key.now known)

-- `link::under::open` meets its contract: what the passes find is what sealing allows, whatever the key is. Assumes nothing.
use Rattle.std.proofs.Common.{ℕ, ◌+◌, ◌-◌, length, sym, ap, ◌∙◌, arith}
use Rattle.aes.specs.Under.{cipher_under}
use Rattle.mode.specs.Undoing.{found_from}
use Rattle.mode.proofs.Runs.{length-found_from_inputs}
use Rattle.link.specs.Promises.{opened_as}
use Rattle.link.proofs.Entries.{found_allowed, flag_done, flag_forged}
use Rattle.link.proofs.under.open.Goals as goal

pub overflow_add-runs : goal.overflow_add-runs
overflow_add-runs c =
    let v = c.args in
    let s = v.s.now in
    omega (arith, length-found_from_inputs (cipher_under v.e.now) v.q s.edition s.nonce.now s.ad.now s.tag v.sealed.now)

pub returns-then-not-matches : goal.returns-then-not-matches
returns-then-not-matches c =
    let v = c.args in
    let s = v.s.now in
    let ran = c.open-matches in
    let found = found_from (cipher_under v.e.now) v.q s.edition s.nonce.now s.ad.now s.tag v.sealed.now in
    let n = length v.sealed.now - s.tag in
    let runs = ap (λ (k : ℕ). opened_as n (v.before + k) found) ran.ensures.runs_value in (
      found,
      found_allowed _ _ _ _ _ _ _ s.nonce_length.1 s.tag_length c.requires.room.0,
      flag_forged n (v.before + ran.result.runs) found (sym ran.ensures.matches_value ∙ c.if-not-matches.true) ∙ runs,
      ran.ensures.out_after,
    )

pub returns : goal.returns
returns c =
    let v = c.args in
    let s = v.s.now in
    let ran = c.open-matches in
    let found = found_from (cipher_under v.e.now) v.q s.edition s.nonce.now s.ad.now s.tag v.sealed.now in
    let n = length v.sealed.now - s.tag in
    let runs = ap (λ (k : ℕ). opened_as n (v.before + k) found) ran.ensures.runs_value in (
      found,
      found_allowed _ _ _ _ _ _ _ s.nonce_length.1 s.tag_length c.requires.room.0,
      flag_done n (v.before + ran.result.runs) found (sym ran.ensures.matches_value ∙ c.if-not-matches.false) ∙ runs,
      ran.ensures.out_after,
    )

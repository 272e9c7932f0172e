-- The pairs by the plan, and behind them what `passes` has there.
use Rattle.std.proofs.Common.{ℕ, List, length, take, ap, ap₂, ◌∙◌, arith}
use Rattle.lists.specs.Lay.{lay}
use Rattle.lists.specs.Xor.{xor}
use Rattle.aes.specs.Under.{cipher_under}
use Rattle.mode.specs.declared.edition.Form.TheVariants.{Parallel}
use Rattle.mode.specs.declared.edition.Edition.{Edition}
use Rattle.mode.specs.declared.edition.Edition.TheVariants.{V3}
use Rattle.mode.specs.Masks.{third}
use Rattle.mode.specs.Message.{body, te}
use Rattle.mode.specs.Sealing.{masks, added}
use Rattle.mode.proofs.Otr.{otr-masks, length-added}
use Rattle.mode.proofs.Runs.{length-call_inputs, length-sealed_inputs}
use Rattle.pairs.proofs.Cipher.{is_cipher, length-ta}
use Rattle.passes.proofs.Sealed.{tagged}
use Rattle.engines.proofs.carried_out.seal.Goals as goal

pub overflow_add-result : goal.overflow_add-result
overflow_add-result c =
    record { fits = omega (arith, length-sealed_inputs (cipher_under c.args.e.now) (third c.seals_with-with.result.value.u) c.args.m.now) }

pub overflow_add-result-2 : goal.overflow_add-result-2
overflow_add-result-2 c =
    let v = c.args in
    let E = cipher_under v.e.now in
    let message = length-sealed_inputs E (third c.seals_with-with.result.value.u) v.m.now in
    record { fits = omega (arith, message, length-call_inputs E v.q (V3 Parallel) v.n.now v.a.now v.t) }

pub returns-clause-out_after : goal.returns-clause-out_after
returns-clause-out_after c =
    let v = c.args in
    let m = v.m.now in
    let f : Edition = V3 Parallel in
    let with = c.seals_with-with.ensures in
    let behind = c.seal_behind-behind.ensures in
    let E = cipher_under v.e.now in
    let e = is_cipher v.e.now.rounds v.e.now.words in
    let long = length-ta v.e.now.rounds v.e.now.words v.q f v.a.now in
    let s = otr-masks E e v.q f v.n.now v.a.now v.t long c.requires.lengths.1.0 in
    let added_long = length-added E e v.q f v.n.now v.a.now v.t long in
    let te_is = behind.block_value ∙ ap (λ (u : List ℕ). te E (third u) m) with.u_value in
    let body_is =
    behind.out_after v.out.now c.planned_pairs-front.ensures.out_after (omega arith)
    ∙ ap (λ (u : List ℕ). lay 0 (body E (third u) m) v.out.now) with.u_value in
    c.put_tag.ensures
    ∙ ap₂ (λ (x b : List ℕ). lay (length m) (take v.t x) b) (ap₂ xor te_is with.added_value) body_is
    ∙ tagged E e (masks E v.q f v.n.now v.a.now v.t) s (added E v.q f v.n.now v.a.now v.t) added_long
    v.t c.requires.lengths.1.1 m v.out.now c.requires.room

-- An entry is of a pair within the message, and so within the output. Each pair is one entry's, so that all are written, in any order.
use Rattle.std.proofs.Common.{◌≡◌, ◌*◌, ℕ, List, length, refl, sym, ap, ap₂, ◌∙◌, arith, add-one}
use Rattle.lists.specs.Lay.{lay}
use Rattle.aes.specs.Under.{cipher_under}
use Rattle.block.specs.Wide.{bytes_of}
use Rattle.block.proofs.Words.{length-bytes}
use Rattle.mode.specs.declared.edition.Form.TheVariants.{Parallel}
use Rattle.mode.specs.declared.edition.Edition.TheVariants.{V3}
use Rattle.mode.specs.Masks.{third}
use Rattle.mode.specs.Message.{pairs_of, pairs}
use Rattle.mode.proofs.Counts.{pairs-within}
use Rattle.mode.proofs.Otr.{edition_masks}
use Rattle.mode.proofs.Runs.{length-pairs_inputs}
use Rattle.pairs.proofs.Cipher.{is_cipher}
use Rattle.plans.specs.Plan.{entries, pair_at}
use Rattle.plans.proofs.Plans.{as_many}
use Rattle.engines.proofs.Orders.{written, pair_of, ordered_pairs}
use Rattle.engines.proofs.carried_out.planned_pairs.Goals as goal

pub loop-j-init : goal.loop-j-init
unfolding written
loop-j-init c = record { laid = refl; runs = refl }

pub pair_alone-runs-requires : goal.pair_alone-runs-requires
pair_alone-runs-requires c =
    let below = c.requires.accepted.no_other c.loop-j.j (omega arith) in
    let within = pairs-within (length c.args.m.now) in
    record { i_in_bounds = (omega (arith, below), omega (arith, below)) }

pub loop-j-preserved : goal.loop-j-preserved
unfolding written
loop-j-preserved c =
    let bytes = pair_of (cipher_under c.args.e.now) (third (bytes_of c.of-u.result)) c.args.m.now in
    record {
      laid =
          c.pair_alone-runs.ensures.out_after
          ∙ ap₂ (λ (i : ℕ) (o : List ℕ). lay (32 * i) (bytes i) o) c.pair_at.ensures c.loop-j.invariant.laid
          ∙ sym (ap (written bytes c.args.out.now (pair_at c.args.plan.now)) (add-one c.loop-j.j));
      runs = omega arith;
    }

pub returns : goal.returns
returns c =
    let E = cipher_under c.args.e.now in
    let u = bytes_of c.of-u.result in
    let m = c.args.m.now in
    let plan = c.args.plan.now in
    let out = c.args.out.now in
    let n = pairs_of (length m) in
    let a = c.requires.accepted in
    let all : c.loop-j.j ≡ entries plan = omega arith in
    let within = pairs-within (length m) in
    record {
      out_after =
          c.loop-j.invariant.laid
          ∙ ap (written (pair_of E (third u) m) out (pair_at plan)) all
          ∙ ordered_pairs E (is_cipher c.args.e.now.rounds c.args.e.now.words) (third u)
          (edition_masks (V3 Parallel) u (length-bytes c.of-u.result)) m out n within (omega arith) (pair_at plan) (entries plan) a.no_other
          (λ i b. ((a.every i b).entry, (a.every i b).within, (a.every i b).for_it))
          ∙ ap (λ (x : List ℕ). lay 0 (pairs E (third x) n m) out) c.of-u.ensures;
      runs_value = omega (arith, as_many n plan a, length-pairs_inputs E (third c.args.u) n m);
    }

-- `passes::message::open` meets its contract. Assumes nothing.
use Rattle.std.proofs.Common.{◌≡◌, sym, ap, ◌∙◌, rules, arith}
use Rattle.aes.specs.Under.{cipher_under}
use Rattle.mode.specs.Masks.{masks_of}
use Rattle.mode.specs.Message.{sum}
use Rattle.mode.specs.Undoing.{swapped}
use Rattle.mode.proofs.Otr.{edition_masks}
use Rattle.mode.proofs.Runs.{length-undone_inputs}
use Rattle.pairs.specs.Carries.{Carries}
use Rattle.pairs.proofs.Cipher.{is_cipher}
use Rattle.passes.proofs.Messages.{undone_runs, undone_laid, te-opened}
use Rattle.passes.proofs.message.open.Goals as goal

pub overflow_add-result : goal.overflow_add-result
overflow_add-result c =
    let front = c.pairs-front.ensures.runs_value (masks_of c.args.edition c.args.u) in
    let runs = undone_runs c.args.c.now _ c.pairs_of-n.ensures _ _ _ _ _ _ _ front c.te-runs.ensures.runs_value c.open_rest-rest.ensures.runs_value in
    record { fits = omega arith }

pub overflow_add-result-2 : goal.overflow_add-result-2
overflow_add-result-2 c =
    let front = c.pairs-front.ensures.runs_value (masks_of c.args.edition c.args.u) in
    let runs = undone_runs c.args.c.now _ c.pairs_of-n.ensures _ _ _ _ _ _ _ front c.te-runs.ensures.runs_value c.open_rest-rest.ensures.runs_value in
    record { fits = omega arith }

pub returns : goal.returns
returns c =
    let v = c.args in
    let m = v.c.now in
    let n = c.pairs_of-n.result in
    let hn = c.pairs_of-n.ensures in
    let E = cipher_under v.e.now in
    let e = is_cipher v.e.now.rounds v.e.now.words in
    let k = masks_of v.edition v.u in
    let s = edition_masks v.edition v.u (search rules) in
    let carries = c.start_of-start.ensures in
    let first = c.swapped.ensures in
    let step = c.swapped-2.ensures in
    let exchanged : Carries (swapped k) c.swapped.result.left c.swapped-2.result.left c.swapped.result.right c.swapped-2.result.right =
    rw (first.left_value, first.right_value, step.left_value, step.right_value) (carries.1, carries.0) in
    let laid = c.pairs-front.ensures.out_after (swapped k) exchanged in
    let masks = c.pairs-front.ensures.masks_after (swapped k) exchanged in
    let left_is : c.swapped-k.result.left ≡ k.left n = c.swapped-k.ensures.left_value ∙ masks.1 in
    let right_is : c.swapped-k.result.right ≡ k.right n = c.swapped-k.ensures.right_value ∙ masks.0 in
    let rest = c.open_rest-rest.ensures in
    record {
      out_after = undone_laid E e k s m v.out.now n _ _ hn left_is right_is c.requires.room _ _ laid rest.out_after;
      block_value =
          te-opened E e k s m v.out.now n _ _ hn left_is right_is c.requires.room _ _ _ _
          (c.sum-s.ensures ∙ ap (sum n) laid) rest.block_value c.xor.ensures c.te-runs.ensures.block_value;
      runs_value =
          undone_runs m n hn E k _ _ _ _ _ (c.pairs-front.ensures.runs_value k) c.te-runs.ensures.runs_value rest.runs_value
          ∙ sym (length-undone_inputs E k m);
    }

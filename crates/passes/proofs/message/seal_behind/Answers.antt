-- `passes::message::seal_behind` meets its contract. Assumes nothing.
use Rattle.std.proofs.Common.{ℕ, ◌≡◌, ◌+◌, length, refl, sym, ap, ◌∙◌, rules, arith}
use Rattle.lists.specs.Lay.{lay}
use Rattle.aes.specs.Under.{cipher_under}
use Rattle.mode.specs.Masks.{masks_of}
use Rattle.mode.specs.Message.{pairs, pairs_inputs}
use Rattle.mode.proofs.Otr.{edition_masks}
use Rattle.mode.proofs.Runs.{length-sealed_inputs}
use Rattle.pairs.proofs.Cipher.{is_cipher}
use Rattle.passes.proofs.Messages.{sealed_runs, sealed_laid, te-sealed}
use Rattle.passes.proofs.message.seal_behind.Goals as goal

pub returns : goal.returns
returns c =
    let v = c.args in
    let m = v.m.now in
    let n = c.pairs_of-n.result in
    let hn = c.pairs_of-n.ensures in
    let E = cipher_under v.e.now in
    let e = is_cipher v.e.now.rounds v.e.now.words in
    let k = masks_of v.edition v.u in
    let s = edition_masks v.edition v.u (search rules) in
    let rest = c.seal_rest-rest.ensures in
    let te = c.te-runs.ensures in
    let left_is : v.k.left ≡ k.left n = c.requires.masks_there.0 ∙ sym (ap k.left hn) in
    let right_is : v.k.right ≡ k.right n = c.requires.masks_there.1 ∙ sym (ap k.right hn) in
    let runs = sealed_runs m n hn E k _ _ _ _ _ refl te.runs_value rest.runs_value in
    record {
      out_after = λ o held fits.
          sealed_laid E e k s m o n _ _ hn left_is right_is fits _ _ (held ∙ ap (λ i. lay 0 (pairs E k i m) o) (sym hn)) rest.out_after;
      block_value =
          te-sealed E e k s m v.out.now n _ _ hn left_is right_is c.requires.room _ _ _ _
          c.sum-s.ensures rest.block_value c.xor.ensures te.block_value;
      runs_value =
          ap (λ (i : ℕ). length (pairs_inputs E k i m) + (c.seal_rest-rest.result.runs + c.te-runs.result.runs)) (sym hn)
          ∙ omega (arith, runs)
          ∙ sym (length-sealed_inputs E k m);
    }

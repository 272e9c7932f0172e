-- No pair goes before what is kept: the ending is its whole body, and the sum of the pairs that are out goes into TE beside its checksum.
use Rattle.std.proofs.Common.{◌≡◌, ◌≤◌, ◌++◌, ℕ, List, length, take, sym, ap, ap₂, ◌∙◌, rules, arith}
use lib.Dec.{ltb}
use lib.ListN.{length-take}
use lib.Seq.{length-take-le}
use Rattle.lists.specs.Lay.{lay}
use Rattle.lists.specs.Xor.{xor}
use Rattle.aes.specs.Under.{cipher_under}
use Rattle.mode.specs.Masks.{AreMasks, doubles, doubled, third}
use Rattle.mode.specs.Message.{last_length, base, final, ending, end_sum, body}
use Rattle.mode.specs.Feeding.{end_input}
use Rattle.mode.proofs.Otr.{doubled_masks}
use Rattle.pairs.proofs.Cipher.{is_cipher}
use Rattle.parts.specs.State.{between}
use Rattle.parts.proofs.Rests.{final_doubled, te_whole, runs_whole, end_laid}
use Rattle.parts.proofs.end.Goals as goal

pub returns : goal.returns
unfolding doubles
returns c =
    let v = c.args in
    let s = v.state in
    let E = cipher_under v.e.now in
    let e = is_cipher v.e.now.rounds v.e.now.words in
    let k = doubled s.left s.right in
    let are : AreMasks k = doubled_masks s.left s.right (search (rules, c.well_formed)) (search (rules, c.well_formed)) in
    let kept-long : length s.kept ≡ 32 = search (rules, c.well_formed) in
    let given = c.requires.held_bound in
    let m = take v.held s.kept in
    let long : length m ≡ v.held = length-take-le v.held s.kept (omega arith) in
    let most : length m ≤ 32 = omega arith in
    let rest = c.seal_rest-rest.ensures in
    let te = c.te-te.ensures in
    let te-is : c.te-te.result.value ≡ E (end_input E (between s v.held)) =
    te.block_value
    ∙ ap₂ (λ (n : ℕ) (x : List ℕ). E (xor (final (third s.left) (ltb (last_length (ltb 16 n) n) 16) (base (ltb 16 n) s.left s.right)) x)) (sym long)
    (c.xor-checksum.ensures ∙ ap (xor s.sum) rest.block_value)
    ∙ ap (λ (x : List ℕ). E (xor x (xor s.sum (end_sum E (ltb 16 (length m)) s.left m))))
    (final_doubled s.left s.right (ltb (last_length (ltb 16 (length m)) (length m)) 16) (base (ltb 16 (length m)) s.left s.right))
    ∙ ap E (sym (te_whole E e k are m most s.sum)) in
    let x = xor c.te-te.result.value v.added in
    record {
      out_after =
          c.put_tag.ensures
          ∙ ap (lay v.held (take v.t x)) rest.out_after
          ∙ ap (λ (i : ℕ). lay i (take v.t x) (lay 0 (ending E (ltb 16 (length m)) s.left s.right m) v.out.now)) (sym long)
          ∙ end_laid E e k are m most (take v.t x) v.out.now (omega (arith, length-take v.t x))
          ∙ ap (λ (b : List ℕ). lay 0 (body E k m ++ take v.t (xor b v.added)) v.out.now) te-is;
      runs_value = runs_whole E e k are m most s.sum _ _ rest.runs_value te.runs_value;
    }

-- `pairs::pairs` meets its contract. Assumes nothing.
use Rattle.std.proofs.Common.{◌≡◌, ◌+◌, ◌-◌, ◌*◌, rules, arith}
use Rattle.aes.specs.Under.{cipher_under}
use Rattle.mode.proofs.Runs.{length-pairs_inputs}
use Rattle.pairs.proofs.Cipher.{is_cipher}
use Rattle.pairs.proofs.Carried.{carried_masks, Laid, none_laid, laid_as, one_more, two_more, laid_with}
use Rattle.pairs.proofs.pairs.Goals as goal
use Rattle.pairs.proofs.pairs.Goals.{then-n-eq1, else-n-eq1}

pub loop-i-init : goal.loop-i-init
loop-i-init c = record { pairs = none_laid _ _ _ _ _ _ _ _ _ c.of-now.ensures.left_value c.of-now.ensures.right_value; runs = omega arith }

pub loop-i-preserved : goal.loop-i-preserved
loop-i-preserved c =
    let v = c.args in
    let i = c.loop-i.i in
    let e = is_cipher v.e.now.rounds v.e.now.words in
    let s = carried_masks v.first.left v.step.left v.first.right v.step.right (search rules) (search rules) (search rules) (search rules) in
    let four : c.two_pairs-two.result ≡ 4 = c.two_pairs-two.ensures.runs_value in
    record {
      pairs =
          two_more _ _ _ _ _ _ _ e s (2 * i) (2 * (i + 1)) (64 * i) _ _ _ _ _ _ _ _ c.loop-i.invariant.pairs
          (omega arith) (omega arith) (omega arith) (omega arith) c.two_pairs-two.ensures.out_after (cc) (cc) (cc) (cc);
      runs = omega arith;
    }

pub returns : goal.returns
returns c =
    let v = c.args in
    let i = c.loop-i.i in
    let now = c.if-n-eq1 in
    let E = cipher_under v.e.now in
    let e = is_cipher v.e.now.rounds v.e.now.words in
    let s = carried_masks v.first.left v.step.left v.first.right v.step.right (search rules) (search rules) (search rules) (search rules) in
    let all : Laid E v.first.left v.step.left v.first.right v.step.right v.src.now v.out.now v.n now.out
    c.to_bytes.result.left c.to_bytes.result.right =
    elim now.branch [
      | then-n-eq1 w ↦ one_more _ _ _ _ _ _ _ e s (2 * i) v.n (32 * (v.n - 1)) (32 * (v.n - 1) + 16) _ _ _ _ _ _ c.loop-i.invariant.pairs
          (omega arith) (omega arith) (omega arith) (omega arith) (omega arith) (cc) (cc) (cc)
      | else-n-eq1 w ↦ laid_as _ _ _ _ _ _ _ (2 * i) v.n _ _ _ _ _ _ c.loop-i.invariant.pairs (omega arith) (cc) (cc) (cc)
    ] in
    let twice : now.runs ≡ 2 * v.n = elim now.branch [ then-n-eq1 w ↦ omega arith | else-n-eq1 w ↦ omega arith ] in
    record {
      out_after = λ k h. (laid_with _ _ _ _ _ _ _ v.n _ _ _ all k h).0;
      masks_after = λ k h. (laid_with _ _ _ _ _ _ _ v.n _ _ _ all k h).1;
      runs_value = λ k. omega (arith, length-pairs_inputs E k v.n v.src.now);
    }

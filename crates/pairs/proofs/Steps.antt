-- One turn of each loop, over any cipher and any masks. Assumes nothing.
use mathlib.Core.Path.{◌≡◌, ap, ap₂, ◌∙◌}
use mathlib.Core.List.{List}
use Prim.Native.Nat.{ℕ, ◌+◌, ◌*◌, ◌≤◌}
use native.Mathlib.Omega.{arith}
use lib.ListN.{length}
use Rattle.lists.specs.Lay.{lay}
use Rattle.lists.proofs.Laid.{lay-lay}
use Rattle.mode.specs.Masks.{Masks, IsCipher, AreMasks}
use Rattle.mode.specs.Message.{block, pair, pairs}
use Rattle.mode.proofs.Pairs.{here, pairs_step, length_pairs, length_here}

-- ---- the pairs of m into out
module _ (E : List ℕ → List ℕ) (e : IsCipher E) (k : Masks) (s : AreMasks k) (m out : List ℕ) where
  -- one pair more, with the masks L and R that it has, where it stands at places p and q
  pub laid_more : (i p q : ℕ) (L R now : List ℕ) → p ≡ 32 * i → q ≡ 32 * i + 16 → 32 * i + 32 ≤ length m → 32 * i + 32 ≤ length out
      → L ≡ k.left i → R ≡ k.right i → now ≡ lay 0 (pairs E k i m) out
      → lay p (pair E L R (block m p) (block m q)) now ≡ lay 0 (pairs E k (i + 1) m) out
  laid_more i p q L R now hp hq hm ho h_l h_r is =
      let long : length (pairs E k i m) ≡ 32 * i = length_pairs E e k s i m (omega arith) in
      let place : 32 * i ≡ 0 + length (pairs E k i m) = omega arith in
      ap₂ (λ (a b : ℕ). lay a (pair E L R (block m a) (block m b)) now) hp hq
      ∙ ap₂ (λ (a b : List ℕ). lay (32 * i) (pair E a b (block m (32 * i)) (block m (32 * i + 16))) now) h_l h_r
      ∙ ap₂ (λ (a : ℕ) (b : List ℕ). lay a (here E e k s i m) b) place is
      ∙ lay-lay 0 (pairs E k i m) (here E e k s i m) out (omega (arith, length_here E e k s i m hm))
      ∙ ap (λ (x : List ℕ). lay 0 x out) (pairs_step E e k s i m)

-- TE has 16 bytes, and the tag t. Assumes nothing.
use mathlib.Core.Path.{◌≡◌, sym, ap}
use mathlib.Core.Bool.{Bool, true, false}
use mathlib.Core.List.{List}
use Prim.Native.Nat.{ℕ, zero, suc, ◌+◌, ◌*◌, ◌≤◌}
use native.Mathlib.Numerals.{add-one}
use native.Mathlib.Omega.{arith}
use lib.ListN.{length, take, drop}
use lib.Seq.{length-take-le}
use Rattle.lists.specs.Xor.{xor}
use Rattle.lists.proofs.Xor.{length-xor}
use Rattle.lists.proofs.Zeros.{length-zeros}
use Rattle.block.specs.Block.{pad}
use Rattle.block.proofs.Blocks.{length-pad}
use Rattle.mode.specs.Masks.{Masks, IsCipher, AreMasks}
use Rattle.mode.specs.Message.{pairs_of, even, block, rest, short, sum, z, last, end_sum, base, final, l, r, checksum, te}
use Rattle.mode.specs.Sealing.{tag}
use Rattle.mode.proofs.Counts.{pairs-within}
use Rattle.mode.proofs.Pairs.{length-block, length_inner}
use Rattle.mode.proofs.Ends.{Remains}
use Rattle.mode.proofs.Walk.{remains}

pub xor_sixteen : (a b : List ℕ) → length a ≡ 16 → length b ≡ 16 → length (xor a b) ≡ 16
xor_sixteen a b ha hb = omega (arith, length-xor a b)

pub sum_step : (n : ℕ) (m : List ℕ) → xor (sum n m) (block m (32 * n + 16)) ≡ sum (n + 1) m
unfolding sum
sum_step n m = sym (ap (λ (j : ℕ). sum j m) (add-one n))

pub length-sum : (n : ℕ) (m : List ℕ) → 32 * n ≤ length m → length (sum n m) ≡ 16
unfolding sum
length-sum zero m h = length-zeros 16
length-sum (suc n) m h =
    xor_sixteen (sum n m) (block m (32 * n + 16)) (length-sum n m (omega arith)) (length-block m (32 * n + 16) (omega arith))

module _ (E : List ℕ → List ℕ) (e : IsCipher E) (k : Masks) (s : AreMasks k) where
  length-base : (t : Bool) (n : ℕ) → length (base t (k.left n) (k.right n)) ≡ 16
  length-base true n = s.right n
  length-base false n = s.left n

  length-final : (t : Bool) (b : List ℕ) → length b ≡ 16 → length (final k t b) ≡ 16
  length-final true b h = s.if_short b h
  length-final false b h = s.if_full b h

  pub length-end_sum : (t : Bool) (l x : List ℕ) → length l ≡ 16 → Remains t x → length (end_sum E t l x) ≡ 16
  length-end_sum true l x hl h =
      let zs : length (z E l x) ≡ 16 = length_inner E e l (take 16 x) hl (length-take-le 16 x (omega arith)) in
      xor_sixteen (z E l x) (pad (last E l x)) zs (length-pad (last E l x) (omega (arith, length-xor (drop 16 x) (z E l x))))
  length-end_sum false l x hl h = length-pad x h

  length-checksum : (m : List ℕ) → length (checksum E k m) ≡ 16
  unfolding checksum
  length-checksum m =
      let n = pairs_of (length m) in
      xor_sixteen (sum n m) (end_sum E (even (length m)) (l E k m) (rest m)) (length-sum n m (pairs-within (length m)))
      (length-end_sum (even (length m)) (k.left n) (rest m) (s.left n) (remains m))

  pub length-te : (m : List ℕ) → length (te E k m) ≡ 16
  unfolding te
  length-te m =
      let b = base (even (length m)) (l E k m) (r E k m) in
      e (xor (final k (short m) b) (checksum E k m))
      (xor_sixteen (final k (short m) b) (checksum E k m)
      (length-final (short m) b (length-base (even (length m)) (pairs_of (length m))))
      (length-checksum m))

  pub length-tag : (a : List ℕ) (t : ℕ) → length a ≡ 16 → t ≤ 16 → (m : List ℕ) → length (tag E k a t m) ≡ t
  unfolding tag
  length-tag a t ha ht m =
      length-take-le t (xor (te E k m) a) (omega (arith, xor_sixteen (te E k m) a (length-te m) ha))

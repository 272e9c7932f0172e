-- Part blocks and padding: the laws. Assumes nothing.
use mathlib.Core.Path.{◌≡◌, refl, sym, ap, ◌∙◌}
use mathlib.Core.Bool.{Bool, true, false}
use mathlib.Core.List.{List, [], ◌∷◌, ◌++◌}
use Prim.Native.Nat.{ℕ, ◌+◌, ◌≤◌, ◌<◌}
use native.Mathlib.Omega.{arith}
use lib.ListN.{length, take, drop, length-append}
use lib.Seq.{take-append_seam}
use lib.Dec.{ltb}
use borrow.Author.Tests.{lt-ltb, le-ltb, ltb-true, ltb-false}
use Rattle.lists.specs.Xor.{xor}
use Rattle.lists.specs.Zeros.{zeros}
use Rattle.lists.proofs.Xor.{take-xor}
use Rattle.lists.proofs.Zeros.{length-zeros}
use Rattle.lists.proofs.Laid.{length-lay}
use Rattle.block.specs.Block.{filled, pad, padded}

-- ---- a part block, with zeros behind
pub length-filled : (x : List ℕ) → length x ≤ 16 → length (filled x) ≡ 16
length-filled x h = length-lay 0 x (zeros 16) (omega (arith, length-zeros 16)) ∙ length-zeros 16

pub take-filled : (x : List ℕ) → take (length x) (filled x) ≡ x
take-filled x = take-append_seam x (drop (0 + length x) (zeros 16))

-- the part again, by its length
pub part_filled : (x : List ℕ) (n : ℕ) → length x ≡ n → take n (filled x) ≡ x
part_filled x n h = ap (λ (k : ℕ). take k (filled x)) (sym h) ∙ take-filled x

-- the XOR of a part block: 'x ⊕ the first bytes of z'
pub part_xor : (x z : List ℕ) (n : ℕ) → length x ≡ n → take n (xor (filled x) z) ≡ xor x z
part_xor x z n h = take-xor n (filled x) z ∙ ap (λ (l : List ℕ). xor l z) (part_filled x n h)

-- ---- padding
pub pad_short : (x : List ℕ) → length x < 16 → pad x ≡ filled (x ++ (0x80 ∷ []))
unfolding pad
pad_short x h = ap (λ t. padded t x) (lt-ltb (length x) 16 h)

pub pad_whole : (x : List ℕ) → 16 ≤ length x → pad x ≡ x
unfolding pad
pad_whole x h = ap (λ t. padded t x) (le-ltb (length x) 16 h)

pub length-pad : (x : List ℕ) → length x ≤ 16 → length (pad x) ≡ 16
unfolding pad
length-pad x h = go (ltb (length x) 16) refl
  where
    go : (t : Bool) → ltb (length x) 16 ≡ t → length (padded t x) ≡ 16
    go true e = length-filled (x ++ (0x80 ∷ [])) (omega (arith, length-append x (0x80 ∷ []), ltb-true (length x) 16 e))
    go false e = omega (arith, ltb-false (length x) 16 e)

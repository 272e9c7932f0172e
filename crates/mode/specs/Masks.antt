-- The masks of the message pass. An edition is a record of them.
use Rattle.std.specs.Prelude.{◌≡◌, List, ℕ, zero, suc, length}
use Rattle.lists.specs.Xor.{xor}
use Rattle.block.specs.Block.{double, triple, triple_twice, seven}
use Rattle.mode.specs.Edition.{Edition, V1, V3}

-- L and L' of pair i, counted from 0, and the final mask that a mask base B gives, for a short last block and for a full one
pub record Masks : Type 0 where
  pub left : ℕ → List ℕ
  pub right : ℕ → List ℕ
  pub if_short : List ℕ → List ℕ
  pub if_full : List ℕ → List ℕ

-- what is asked of a cipher: it takes 16 bytes to 16 bytes; and of masks: each has 16 bytes
abbrev pub IsCipher : (List ℕ → List ℕ) → Type 0
IsCipher E = (x : List ℕ) → length x ≡ 16 → length (E x) ≡ 16

pub record AreMasks (k : Masks) : Type 0 where
  pub left : (i : ℕ) → length (k.left i) ≡ 16
  pub right : (i : ℕ) → length (k.right i) ≡ 16
  pub if_short : (b : List ℕ) → length b ≡ 16 → length (k.if_short b) ≡ 16
  pub if_full : (b : List ℕ) → length b ≡ 16 → length (k.if_full b) ≡ 16

-- 2ⁱX
unfoldable pub doubles : ℕ → List ℕ → List ℕ
doubles zero x = x
doubles (suc i) x = double (doubles i x)

-- masks that are doubled from pair to pair, with 3²B or 7B at the end
abbrev pub doubled : List ℕ → List ℕ → Masks
doubled l r =
    record {
      left = λ i. doubles i l;
      right = λ i. doubles i r;
      if_short = triple_twice;
      if_full = seven;
    }

-- AES-OTR v3.1 (000, Fig. 1, EF, lines 2, 8, 19 and 20; Fig. 3, EF-S, lines 3, 9, 20 and 21): L = 2ⁱU and L' = 2ⁱ3U
abbrev pub third : List ℕ → Masks
third u = doubled u (triple u)

-- AES-OTR v1 (003, Fig. 1, EF, lines 2, 6, 8, 10, 19 and 20), d for δ: L = 2ⁱ4δ and L' = L ⊕ δ, with 3B or 3B ⊕ δ at the end
abbrev pub first : List ℕ → Masks
first d =
    record {
      left = λ i. doubles i (double (double d));
      right = λ i. xor (doubles i (double (double d))) d;
      if_short = triple;
      if_full = λ b. xor (triple b) d;
    }

-- an edition's, from its U or δ
abbrev pub masks_of : Edition → List ℕ → Masks
masks_of V1 d = first d
masks_of (V3 f) u = third u

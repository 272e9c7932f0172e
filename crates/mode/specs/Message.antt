-- The message pass (document 01; source document 000, Fig. 1, EF), over any cipher E and any masks. Fig. 3's EF-S is the same behind U;
-- what is line n here is its line n + 1, from line 3 on. EF in Fig. 1 of source document 003 is the same with other masks, and sets B,
-- its L*, in lines 10 and 16 already. Beside what a step gives stand its inputs: the blocks that it hands to the cipher, in their order
-- (document 02, wish 6).
use Rattle.std.specs.Prelude.{Bool, true, false, List, [], ◌∷◌, ◌++◌, ℕ, zero, suc, ◌+◌, ◌-◌, ◌*◌, ◌/◌, ◌%◌, max, eqb, ltb, length, take, drop}
use Rattle.lists.specs.Xor.{xor}
use Rattle.lists.specs.Zeros.{zeros}
use Rattle.block.specs.Block.{pad}
use Rattle.mode.specs.Masks.{Masks}

-- m, the number of blocks of a string of b bytes: b/16 rounded up, and at least one
unfoldable pub blocks : ℕ → ℕ
blocks b = max 1 ((b + 15) / 16)

-- ⌈m/2⌉ − 1, the number of pairs before the last one or two blocks
unfoldable pub pairs_of : ℕ → ℕ
pairs_of b = (blocks b + 1) / 2 - 1

-- m is even: two blocks remain behind the pairs, and else one
unfoldable pub even : ℕ → Bool
even b = eqb (blocks b % 2) 0

-- the 16 bytes from place i on
abbrev pub block : List ℕ → ℕ → List ℕ
block m i = take 16 (drop i m)

-- what remains behind the pairs; how much of b such bytes is the last block; and whether that is fewer than 16
abbrev pub rest : List ℕ → List ℕ
rest m = drop (32 * pairs_of (length m)) m

abbrev pub last_length : Bool → ℕ → ℕ
last_length true b = b - 16
last_length false b = b

unfoldable pub short : List ℕ → Bool
short m = ltb (last_length (even (length m)) (length (rest m))) 16

-- lines 1 and 7: the even blocks of the first n pairs
unfoldable pub sum : ℕ → List ℕ → List ℕ
sum zero m = zeros 16
sum (suc n) m = xor (sum n m) (block m (32 * n + 16))

-- lines 14 and 18: the mask base B
abbrev pub base : Bool → List ℕ → List ℕ → List ℕ
base true l r = r
base false l r = l

-- lines 19 and 20: the final mask, by whether the last block is short
abbrev pub final : Masks → Bool → List ℕ → List ℕ
final k true b = k.if_short b
final k false b = k.if_full b

-- line 16 with a last block x: where it has no byte there is nothing to mask, and E(L) is not run
abbrev pub one_inputs : List ℕ → List ℕ → List (List ℕ)
one_inputs l [] = []
one_inputs l (b ∷ bs) = l ∷ []

module _ (E : List ℕ → List ℕ) where
  -- E(l ⊕ x) ⊕ y, as long as y where y is a part block
  abbrev pub half : List ℕ → List ℕ → List ℕ → List ℕ
  half l x y = xor y (E (xor l x))

  abbrev pub half_inputs : List ℕ → List ℕ → List (List ℕ)
  half_inputs l x = xor l x ∷ []

  -- lines 5 and 6: the cipher blocks of a pair p, q with the masks l, r
  abbrev pub pair : List ℕ → List ℕ → List ℕ → List ℕ → List ℕ
  pair l r p q = half l p q ++ half r (half l p q) p

  abbrev pub pair_inputs : List ℕ → List ℕ → List ℕ → List ℕ → List (List ℕ)
  pair_inputs l r p q = half_inputs l p ++ half_inputs r (half l p q)

  -- ---- what remains, x, with the masks l, r: for even m a full block and one of 1 to 16 bytes, for odd m one of 0 to 16
  -- lines 10 and 11: Z, and the last cipher block
  abbrev pub z : List ℕ → List ℕ → List ℕ
  z l x = E (xor l (take 16 x))

  abbrev pub last : List ℕ → List ℕ → List ℕ
  last l x = xor (drop 16 x) (z l x)

  -- lines 10 to 12; line 16
  abbrev pub ending : Bool → List ℕ → List ℕ → List ℕ → List ℕ
  ending true l r x = half r (pad (last l x)) (take 16 x) ++ last l x
  ending false l r x = xor x (E l)

  abbrev pub ending_inputs : Bool → List ℕ → List ℕ → List ℕ → List (List ℕ)
  ending_inputs true l r x = half_inputs l (take 16 x) ++ half_inputs r (pad (last l x))
  ending_inputs false l r x = one_inputs l x

  -- lines 13 and 17: what goes into the checksum
  abbrev pub end_sum : Bool → List ℕ → List ℕ → List ℕ
  end_sum true l x = xor (z l x) (pad (last l x))
  end_sum false l x = pad x

module _ (E : List ℕ → List ℕ) (k : Masks) where
  -- line 4: the first n pairs
  unfoldable pub pairs : ℕ → List ℕ → List ℕ
  pairs zero m = []
  pairs (suc n) m = pairs n m ++ pair E (k.left n) (k.right n) (block m (32 * n)) (block m (32 * n + 16))

  unfoldable pub pairs_inputs : ℕ → List ℕ → List (List ℕ)
  pairs_inputs zero m = []
  pairs_inputs (suc n) m = pairs_inputs n m ++ pair_inputs E (k.left n) (k.right n) (block m (32 * n)) (block m (32 * n + 16))

  -- ---- the ciphertext, the checksum and TE, with L and L' behind the pairs
  abbrev pub l : List ℕ → List ℕ
  l m = k.left (pairs_of (length m))

  abbrev pub r : List ℕ → List ℕ
  r m = k.right (pairs_of (length m))

  unfoldable pub body : List ℕ → List ℕ
  body m = pairs (pairs_of (length m)) m ++ ending E (even (length m)) (l m) (r m) (rest m)

  unfoldable pub body_inputs : List ℕ → List (List ℕ)
  body_inputs m = pairs_inputs (pairs_of (length m)) m ++ ending_inputs E (even (length m)) (l m) (r m) (rest m)

  unfoldable pub checksum : List ℕ → List ℕ
  checksum m = xor (sum (pairs_of (length m)) m) (end_sum E (even (length m)) (l m) (rest m))

  abbrev pub te_input : List ℕ → List ℕ
  te_input m = xor (final k (short m) (base (even (length m)) (l m) (r m))) (checksum m)

  unfoldable pub te : List ℕ → List ℕ
  te m = E (te_input m)

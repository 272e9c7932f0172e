-- How opening finds its answer. What that answer may be is said by sealing alone (Opening.antt); from this file the promise of opening
-- takes no more than how many blocks are handed to the cipher.
use Rattle.std.specs.Prelude.{Bool, true, false, List, [], ◌∷◌, ◌++◌, ℕ, ◌-◌, length, take, drop}
use Rattle.lists.specs.Same.{same}
use Rattle.lists.specs.Xor.{xor}
use Rattle.lists.specs.Zeros.{zeros}
use Rattle.block.specs.Block.{pad}
use Rattle.mode.specs.Edition.{Edition}
use Rattle.mode.specs.Masks.{Masks}
use Rattle.mode.specs.Message.{pairs_of, even, rest, one_inputs, half, half_inputs, pairs, pairs_inputs, l, r, te_input}
use Rattle.mode.specs.Data.{q_inputs, with_data}
use Rattle.mode.specs.Sealing.{tag, masks, added, call_inputs}
use Rattle.mode.specs.Opening.{Opened, accepted, refused}

-- a pair is undone by the pair step with its masks exchanged
abbrev pub swapped : Masks → Masks
swapped k = record { left = k.right; right = k.left; if_short = k.if_short; if_full = k.if_full }

module _ (E : List ℕ → List ℕ) where
  -- the first of the two last blocks
  abbrev pub first : List ℕ → List ℕ → List ℕ
  first r x = half E r (pad (drop 16 x)) (take 16 x)

  abbrev pub unending : Bool → List ℕ → List ℕ → List ℕ → List ℕ
  unending true l r x = first r x ++ half E l (first r x) (drop 16 x)
  unending false l r x = xor x (E l)

  abbrev pub unending_inputs : Bool → List ℕ → List ℕ → List ℕ → List (List ℕ)
  unending_inputs true l r x = half_inputs E r (pad (drop 16 x)) ++ half_inputs E l (first r x)
  unending_inputs false l r x = one_inputs l x

  -- what the recovered blocks put into the checksum
  abbrev pub undone_sum : Bool → List ℕ → List ℕ → List ℕ → List ℕ
  undone_sum true l r x = xor (E (xor l (first r x))) (pad (drop 16 x))
  undone_sum false l r x = pad (xor x (E l))

module _ (E : List ℕ → List ℕ) (k : Masks) where
  unfoldable pub unbody : List ℕ → List ℕ
  unbody c =
      pairs E (swapped k) (pairs_of (length c)) c
      ++ unending E (even (length c)) (l E k c) (r E k c) (rest c)

  unfoldable pub unbody_inputs : List ℕ → List (List ℕ)
  unbody_inputs c =
      pairs_inputs E (swapped k) (pairs_of (length c)) c
      ++ unending_inputs E (even (length c)) (l E k c) (r E k c) (rest c)

  -- and TE of what was recovered
  unfoldable pub undone_inputs : List ℕ → List (List ℕ)
  undone_inputs c = unbody_inputs c ++ (te_input E k (unbody c) ∷ [])

abbrev pub answer : Bool → List ℕ → Opened
answer true m = accepted m
answer false m = refused

-- the last t bytes are the tag of what the others undo to, or the answer is refused
module _ (E : List ℕ → List ℕ) (k : Masks) (a : List ℕ) (t : ℕ) where
  abbrev pub plain : List ℕ → List ℕ
  plain s = unbody E k (take (length s - t) s)

  unfoldable pub opened : List ℕ → Opened
  opened s = answer (same (tag E k a t (plain s)) (drop (length s - t) s)) (plain s)

-- what a call finds, over any cipher E and any first mask of the data pass, q: edition and form, nonce, associated data, tag length,
-- sealed string; and the blocks that it hands to the cipher with q at hand
module _ (E : List ℕ → List ℕ) (q : List ℕ) (f : Edition) (nonce ad : List ℕ) (t : ℕ) where
  abbrev pub found_from : List ℕ → Opened
  found_from s = opened E (masks E q f nonce ad t) (added E q f nonce ad t) t s

  abbrev pub found_from_inputs : List ℕ → List (List ℕ)
  found_from_inputs s = call_inputs E q f nonce ad t ++ undone_inputs E (masks E q f nonce ad t) (take (length s - t) s)

-- the same from a cipher alone
abbrev pub found : (List ℕ → List ℕ) → Edition → List ℕ → List ℕ → ℕ → List ℕ → Opened
found E f nonce ad t s = found_from E (E (zeros 16)) f nonce ad t s

abbrev pub found_inputs : (List ℕ → List ℕ) → Edition → List ℕ → List ℕ → ℕ → List ℕ → List (List ℕ)
found_inputs E f nonce ad t s = q_inputs (with_data ad) ++ found_from_inputs E (E (zeros 16)) f nonce ad t s

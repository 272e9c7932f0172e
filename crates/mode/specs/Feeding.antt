-- The message pass in parts (document 02, wish 3), over any cipher E and any masks. What stands between two calls is such that the kept
-- bytes, and what is fed behind them, are a message of their own.
use Rattle.std.specs.Prelude.{List, [], ◌∷◌, ◌++◌, ℕ, ◌+◌, ◌-◌, ◌*◌, length, take}
use Rattle.lists.specs.Xor.{xor}
use Rattle.lists.specs.Zeros.{zeros}
use Rattle.mode.specs.Masks.{Masks}
use Rattle.mode.specs.Message.{pairs_of, rest, sum, pairs, pairs_inputs, body, body_inputs, te_input}

-- the masks from pair n on
abbrev pub from : ℕ → Masks → Masks
from n k =
    record {
      left = λ i. k.left (n + i);
      right = λ i. k.right (n + i);
      if_short = k.if_short;
      if_full = k.if_full;
    }

-- between two calls: the masks from the next pair on, the even blocks of the pairs that are out, and the bytes that are kept
pub record Between : Type 0 where
  pub masks : Masks
  pub sum : List ℕ
  pub kept : List ℕ

abbrev pub begun : Masks → Between
begun k = record { masks = k; sum = zeros 16; kept = [] }

-- how many bytes of b are kept: what remains behind the pairs, 32 at most
abbrev pub keeps : ℕ → ℕ
keeps b = b - 32 * pairs_of b

-- ---- a part x is fed: the pairs that are due, and what then stands between
abbrev pub due : Between → List ℕ → ℕ
due s x = pairs_of (length (s.kept ++ x))

abbrev pub fed : Between → List ℕ → Between
fed s x =
    record {
      masks = from (due s x) s.masks;
      sum = xor s.sum (sum (due s x) (s.kept ++ x));
      kept = rest (s.kept ++ x);
    }

module _ (E : List ℕ → List ℕ) where
  abbrev pub fed_bytes : Between → List ℕ → List ℕ
  fed_bytes s x = pairs E s.masks (due s x) (s.kept ++ x)

  abbrev pub fed_inputs : Between → List ℕ → List (List ℕ)
  fed_inputs s x = pairs_inputs E s.masks (due s x) (s.kept ++ x)

  -- ---- the end: the kept bytes sealed, with the sum put into what TE ciphers; the tag has t bytes, and a goes into it
  abbrev pub end_input : Between → List ℕ
  end_input s = xor s.sum (te_input E s.masks s.kept)

  abbrev pub end_bytes : List ℕ → ℕ → Between → List ℕ
  end_bytes a t s = body E s.masks s.kept ++ take t (xor (E (end_input s)) a)

  abbrev pub end_inputs : Between → List (List ℕ)
  end_inputs s = body_inputs E s.masks s.kept ++ (end_input s ∷ [])

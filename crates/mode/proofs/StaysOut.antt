-- What stays out of the statement about early parts (`EarlyPart`), and why. Assumes nothing.
--
-- A length of exactly 32·j. Its last 32 bytes are no pair but the last two blocks, which come out as those of a pair do, exchanged
-- (`ends_exchanged`). Beside a longer message neither direction holds. Where the messages agree, the outputs do not, but for a pair whose
-- two cipher blocks are equal (`exactly_and_longer`, and computed `agreeing_differ`). And the outputs agree where the longer message has
-- the pair that gives the two exchanged, which is another (`differing_agree`). Of two messages of exactly 32·j bytes both directions hold,
-- as both come out exchanged (`both_exactly`).
--
-- Half a pair. Its cipher block is of both blocks of the pair, so that 16 bytes more tell what follows them (`half_a_pair`).
--
-- The serial form. Its U is made of TA (source document 000, Fig. 3, EF-S, line 2), so that one message comes out otherwise with other
-- data, from the first pair on (`data_tell`).
use mathlib.Core.Path.{◌≡◌, refl, sym, ap, ap₂, ◌∙◌}
use mathlib.Core.Bool.{Bool, true, false}
use mathlib.Core.Logic.{◌↔◌}
use mathlib.Core.List.{List, [], ◌∷◌, ◌++◌, map, zip_with}
use Prim.Native.Nat.{ℕ, ◌+◌, ◌*◌}
use native.Mathlib.Omega.{arith}
use lib.ListN.{length, take, drop, length-drop}
use lib.Seq.{take_at, take_all, drop_at, drop-drop}
use borrow.Author.Tests.{lt-ltb}
use Rattle.lists.specs.Same.{same}
use Rattle.lists.specs.Table.{table_from}
use Rattle.lists.specs.Xor.{xor}
use Rattle.lists.specs.Zeros.{zeros}
use Rattle.block.specs.Block.{pad, shift, double}
use Rattle.block.proofs.Blocks.{pad_whole}
use Rattle.mode.specs.Form.{Parallel, Serial}
use Rattle.mode.specs.Edition.{Edition, V1, V3}
use Rattle.mode.specs.Masks.{Masks, IsCipher, AreMasks, doubles}
use Rattle.mode.specs.Message.{blocks, pairs_of, even, short, block, sum, half, ending, pairs, body, checksum, te}
use Rattle.mode.specs.Data.{data_sum, chain, ta}
use Rattle.mode.specs.Nonce.{format}
use Rattle.mode.specs.Sealing.{tag, sealed, masks, otr}
use Rattle.mode.specs.Undoing.{swapped, unbody}
use Rattle.mode.specs.EarlyPart.{early, Longer}
use Rattle.mode.proofs.Counts.{pairs_are, even_is}
use Rattle.mode.proofs.Pairs.{length-block, length-half, pairs_step, length_pairs}
use Rattle.mode.proofs.Walk.{length-body, body_undone}
use Rattle.mode.proofs.Parts.{body_parts}
use Rattle.mode.proofs.EarlyPart.{renamed, are_pairs, pairs_tell, early_is}
use Rattle.mode.proofs.Agreement.{stand_in, message, data_of, nonce_of}

-- ---- exactly 32·j
module _ (E : List ℕ → List ℕ) (e : IsCipher E) (k : Masks) (s : AreMasks k) (j : ℕ) where
  -- of a message of exactly 32·j bytes the early part is the whole message, and what comes out there the whole ciphertext
  whole_is : (a : List ℕ) (t : ℕ) (m : List ℕ) → length m ≡ 32 * j → early j (sealed E k a t m) ≡ body E k m
  unfolding sealed
  whole_is a t m exactly = take_at (body E k m) (tag E k a t m) (32 * j) (length-body E e k s m ∙ exactly)

  pub both_exactly : (a a' : List ℕ) (t t' : ℕ) (m m' : List ℕ) → length m ≡ 32 * j → length m' ≡ 32 * j
      → (early j (sealed E k a t m) ≡ early j (sealed E k a' t' m')) ↔ (early j m ≡ early j m')
  both_exactly a a' t t' m m' h h' =
      let all : early j m ≡ m = take_all (32 * j) m (omega arith) in
      let all' : early j m' ≡ m' = take_all (32 * j) m' (omega arith) in
      renamed (whole_is a t m h) (whole_is a' t' m' h') (
        λ same. all ∙ sym (body_undone E e k s m) ∙ ap (unbody E k) same ∙ body_undone E e k s m' ∙ sym all',
        λ same. ap (body E k) (sym all ∙ same ∙ all'),
      )

-- 32·(j + 1) bytes, of which p and q are the last two blocks. As a pair these come out as c and then c' (EF, lines 5 and 6)
module _ (E : List ℕ → List ℕ) (e : IsCipher E) (k : Masks) (s : AreMasks k) (j : ℕ) (m : List ℕ) (exactly : length m ≡ 32 * (j + 1)) where
  abbrev p : List ℕ
  p = block m (32 * j)

  abbrev q : List ℕ
  q = block m (32 * j + 16)

  abbrev c : List ℕ
  c = half E (k.left j) p q

  abbrev c' : List ℕ
  c' = half E (k.right j) c p

  p_long : length p ≡ 16
  p_long = length-block m (32 * j) (omega arith)

  q_long : length q ≡ 16
  q_long = length-block m (32 * j + 16) (omega arith)

  c_long : length c ≡ 16
  c_long = length-half E e (k.left j) p (s.left j) p_long q (omega (arith, q_long)) ∙ q_long

  c'_long : length c' ≡ 16
  c'_long = length-half E e (k.right j) c (s.right j) c_long p (omega (arith, p_long)) ∙ p_long

  -- as the last two blocks, as c' and then c (lines 10 and 11)
  pub ends_exchanged : body E k m ≡ pairs E k j m ++ (c' ++ c)
  ends_exchanged =
      body_parts E k true m two
      ∙ ap (λ (i : ℕ). pairs E k i m ++ ending E true (k.left i) (k.right i) (drop (32 * i) m)) count
      ∙ ap (λ (y : List ℕ). pairs E k j m ++ (half E (k.right j) (pad (half E (k.left j) p y)) p ++ half E (k.left j) p y)) last_is
      ∙ ap (λ (y : List ℕ). pairs E k j m ++ (half E (k.right j) y p ++ c)) (pad_whole c (omega (arith, c_long)))
    where
      count : pairs_of (length m) ≡ j
      count = omega (arith, pairs_are (length m))

      two : even (length m) ≡ true
      two = even_is (length m) ∙ lt-ltb (32 * pairs_of (length m) + 16) (length m) (omega (arith, count))

      last_is : drop 16 (drop (32 * j) m) ≡ q
      last_is = drop-drop 16 (32 * j) m ∙ sym (take_all 16 (drop (32 * j + 16) m) (omega (arith, length-drop (32 * j + 16) m)))

  -- the first of two blocks that stand behind the pairs
  abbrev first : List ℕ → List ℕ
  first x = take 16 (drop (32 * j) x)

  first_of : (x y : List ℕ) → length x ≡ 16 → first (pairs E k j m ++ (x ++ y)) ≡ x
  first_of x y long =
      ap (take 16) (drop_at (pairs E k j m) (x ++ y) (32 * j) (length_pairs E e k s j m (omega arith))) ∙ take_at x y 16 long

  -- beside a longer message that agrees with it the outputs agree exactly if the two are equal
  pub exactly_and_longer : (a a' : List ℕ) (t t' : ℕ) (m' : List ℕ) → Longer (j + 1) m' → early (j + 1) m ≡ early (j + 1) m'
      → (early (j + 1) (sealed E k a t m) ≡ early (j + 1) (sealed E k a' t' m')) ↔ (c ≡ c')
  exactly_and_longer a a' t t' m' h alike =
      let as_a_pair : pairs E k (j + 1) m' ≡ pairs E k j m ++ (c ++ c') =
      sym ((pairs_tell E e k s (j + 1) m m' (omega arith) (omega arith)).1 alike) ∙ sym (pairs_step E e k s j m) in
      renamed (whole_is E e k s (j + 1) a t m exactly ∙ ends_exchanged) (early_is E e k s (j + 1) a' t' m' (are_pairs (j + 1) m' h) ∙ as_a_pair) (
        λ same. sym (first_of c c' c_long) ∙ ap first (sym same) ∙ first_of c' c c'_long,
        λ same. ap₂ (λ (x y : List ℕ). pairs E k j m ++ (x ++ y)) (sym same) same,
      )

-- ---- computed, over the stand-in cipher
-- whether two strings agree in front
abbrev agree : (List ℕ → List ℕ) → List ℕ → List ℕ → Bool
agree front x y = same (front x) (front y)

-- whether two messages do, and what they seal to
pub seen : (List ℕ → List ℕ) → Edition → List ℕ → List ℕ → Bool × Bool
seen front f m m' = (agree front m m', agree front (otr stand_in f (nonce_of 12) [] 16 m) (otr stand_in f (nonce_of 12) [] 16 m'))

-- the message whose first pair gives the first 32 bytes of what m seals to, and that goes on: these undone, and a byte behind
pub longer_one : Edition → List ℕ → List ℕ
longer_one f m =
    pairs stand_in (swapped (masks stand_in (stand_in (zeros 16)) f (nonce_of 12) [] 16)) 1 (otr stand_in f (nonce_of 12) [] 16 m) ++ (0 ∷ [])

-- 32 bytes, and the same with one more: the messages agree, and the outputs differ
pub agreeing_differ : map (λ f. seen (early 1) f (message 32) (message 33)) (V1 ∷ V3 Parallel ∷ []) ≡ (true, false) ∷ (true, false) ∷ []
unfolding seen same stand_in table_from xor zeros pad shift double doubles blocks pairs_of even short sum pairs body checksum te ta zip_with format tag sealed
agreeing_differ = refl

-- 32 bytes, and 33 others: the messages differ, and the outputs agree
pub differing_agree : map (λ f. seen (early 1) f (message 32) (longer_one f (message 32))) (V1 ∷ V3 Parallel ∷ []) ≡ (false, true) ∷ (false, true) ∷ []
unfolding seen longer_one same stand_in table_from xor zeros pad shift double doubles blocks pairs_of even short sum pairs body checksum te ta zip_with format tag sealed
differing_agree = refl

-- 65 bytes, and the same 48 with 17 others behind them: the outputs differ there
pub half_a_pair : map (λ f. seen (take 48) f (message 65) (take 48 (message 65) ++ message 17)) (V1 ∷ V3 Parallel ∷ []) ≡ (true, false) ∷ (true, false) ∷ []
unfolding seen same stand_in table_from xor zeros pad shift double doubles blocks pairs_of even short sum pairs body checksum te ta zip_with format tag sealed
half_a_pair = refl

-- 33 bytes with data of 5 and of 6 bytes: in the serial form the outputs differ
pub alike : Edition → Bool
alike f = agree (early 1) (otr stand_in f (nonce_of 12) (data_of 5) 16 (message 33)) (otr stand_in f (nonce_of 12) (data_of 6) 16 (message 33))

pub data_tell : map alike (V1 ∷ V3 Parallel ∷ V3 Serial ∷ []) ≡ true ∷ true ∷ false ∷ []
unfolding alike same stand_in table_from xor zeros pad shift double doubles blocks pairs_of even short sum pairs body checksum te data_sum chain ta zip_with format tag sealed
data_tell = refl

-- The order of the pairs: each has a place of its own, and what is written there goes by its number alone, so whatever order they are
-- carried out in, the bytes are the same. Over any cipher and any masks. Assumes nothing.
use mathlib.Core.Path.{◌≡◌, refl, sym, ap, ◌∙◌}
use mathlib.Core.Bool.{Bool, true, false}
use mathlib.Core.List.{List}
use Prim.Native.Nat.{ℕ, zero, suc, ◌+◌, ◌*◌, ◌/◌, ◌%◌, ◌≤◌, ◌<◌}
use native.Mathlib.Nat.{not-suc-le-zero}
use native.Mathlib.Decide.{ℕ_discrete}
use native.Mathlib.Numerals.{add-one}
use native.Mathlib.Omega.{arith}
use lib.Dec.{ltb}
use lib.ListN.{length, get_or}
use lib.Seq.{ext_get_or}
use borrow.Author.Tests.{ltb-true, ltb-false}
use Rattle.lists.specs.Lay.{lay}
use Rattle.lists.proofs.Laid.{length-lay, lay_none, get_or_laid, get_or_before, get_or_behind}
use Rattle.mode.specs.Masks.{Masks, IsCipher, AreMasks}
use Rattle.mode.specs.Message.{block, pair, pairs}
use Rattle.mode.proofs.Pairs.{length_here}
use Rattle.pairs.proofs.Steps.{laid_more}

-- the first j of an order, each at its own place
unfoldable pub written : (ℕ → List ℕ) → List ℕ → (ℕ → ℕ) → ℕ → List ℕ
written bytes out f zero = out
written bytes out f (suc j) = lay (32 * f j) (bytes (f j)) (written bytes out f j)

module _ (n : ℕ) (bytes : ℕ → List ℕ) (long : (i : ℕ) → i < n → length (bytes i) ≡ 32) (out : List ℕ) (fits : 32 * n ≤ length out) where
  module _ (f : ℕ → ℕ) where
    -- all of them are below n
    abbrev pub Within : ℕ → Type 0
    Within k = (j : ℕ) → j < k → f j < n

    pub length_written : (k : ℕ) → Within k → length (written bytes out f k) ≡ length out
    unfolding written
    length_written zero w = refl
    length_written (suc k) w =
        let before = length_written k (λ j h. w j (omega arith)) in
        let last = w k (omega arith) in
        length-lay (32 * f k) (bytes (f k)) (written bytes out f k) (omega (arith, before, last, long (f k) last)) ∙ before

    -- the next has its place, with room for it
    its_long : (k : ℕ) → Within (suc k) → length (bytes (f k)) ≡ 32
    its_long k w = long (f k) (w k (omega arith))

    room : (k : ℕ) → Within (suc k) → 32 * f k + length (bytes (f k)) ≤ length (written bytes out f k)
    room k w = omega (arith, length_written k (λ j h. w j (omega arith)), w k (omega arith), its_long k w)

    -- it does not touch the place of another
    apart : (k : ℕ) → Within (suc k) → (i r : ℕ) → r < 32 → (f k ≡ i → ⊥) → get_or (written bytes out f (suc k)) (32 * i + r) 0 ≡ get_or (written bytes out f k) (32 * i + r) 0
    unfolding written
    apart k w i r h other = go (ltb i (f k)) refl
      where
        go : (b : Bool) → ltb i (f k) ≡ b → get_or (lay (32 * f k) (bytes (f k)) (written bytes out f k)) (32 * i + r) 0 ≡ get_or (written bytes out f k) (32 * i + r) 0
        go true e = get_or_before (32 * f k) (bytes (f k)) (written bytes out f k) (room k w) (32 * i + r) (omega (arith, ltb-true i (f k) e))
        go false e = get_or_behind (32 * f k) (bytes (f k)) (written bytes out f k) (room k w) (32 * i + r) (omega (arith, ltb-false i (f k) e, its_long k w))

    -- where one of them is i, its bytes are there
    reached : (k : ℕ) → Within k → (i r : ℕ) → r < 32 → (j : ℕ) → j < k → f j ≡ i → get_or (written bytes out f k) (32 * i + r) 0 ≡ get_or (bytes i) r 0
    unfolding written
    reached zero w i r h j b e = absurd (not-suc-le-zero b)
    reached (suc k) w i r h j b e = go (ℕ_discrete (f k) i) (λ before. reached k (λ l d. w l (omega arith)) i r h j before e)
      where
        go : Dec (f k ≡ i) → (j < k → get_or (written bytes out f k) (32 * i + r) 0 ≡ get_or (bytes i) r 0) → get_or (written bytes out f (suc k)) (32 * i + r) 0 ≡ get_or (bytes i) r 0
        go (yes last) earlier =
            ap (λ (x : ℕ). get_or (written bytes out f (suc k)) (32 * x + r) 0) (sym last)
            ∙ get_or_laid (32 * f k) (bytes (f k)) (written bytes out f k) (room k w) r (omega (arith, its_long k w))
            ∙ ap (λ (x : ℕ). get_or (bytes x) r 0) last
        go (no other) earlier =
            let not_last : j ≡ k → ⊥ = λ same. other (sym (ap f same) ∙ e) in
            apart k w i r h other ∙ earlier (omega arith)

    -- behind the places nothing is written
    untouched : (k : ℕ) → Within k → (i r : ℕ) → r < 32 → n ≤ i → get_or (written bytes out f k) (32 * i + r) 0 ≡ get_or out (32 * i + r) 0
    unfolding written
    untouched zero w i r h large = refl
    untouched (suc k) w i r h large =
        apart k w i r h (λ e. omega (arith, w k (omega arith))) ∙ untouched k (λ j b. w j (omega arith)) i r h large

    -- every number below n is one of them
    abbrev pub Reaches : ℕ → Type 0
    Reaches k = (i : ℕ) → i < n → (j : ℕ) × (j < k) × (f j ≡ i)

  pub any_order : (f g : ℕ → ℕ) (k l : ℕ) → Within f k → Within g l → Reaches f k → Reaches g l → written bytes out f k ≡ written bytes out g l
  any_order f g k l wf wg rf rg =
      ext_get_or 0 (written bytes out f k) (written bytes out g l) (length_written f k wf ∙ sym (length_written g l wg))
      (λ q inside.
      let place : q ≡ 32 * (q / 32) + q % 32 = omega arith in
      ap (λ (x : ℕ). get_or (written bytes out f k) x 0) place ∙ go (q / 32) (q % 32) (omega arith) (ltb (q / 32) n) refl ∙ ap (λ (x : ℕ). get_or (written bytes out g l) x 0) (sym place))
    where
      go : (i r : ℕ) → r < 32 → (b : Bool) → ltb i n ≡ b → get_or (written bytes out f k) (32 * i + r) 0 ≡ get_or (written bytes out g l) (32 * i + r) 0
      go i r h true e =
          let below = ltb-true i n e in
          let one = rf i below in
          let other = rg i below in
          reached f k wf i r h one.0 one.1 one.2 ∙ sym (reached g l wg i r h other.0 other.1 other.2)
      go i r h false e = untouched f k wf i r h (ltb-false i n e) ∙ sym (untouched g l wg i r h (ltb-false i n e))

-- ---- the pairs of m
-- pair i
abbrev pub pair_of : (List ℕ → List ℕ) → Masks → List ℕ → ℕ → List ℕ
pair_of E k m i = pair E (k.left i) (k.right i) (block m (32 * i)) (block m (32 * i + 16))

module _ (E : List ℕ → List ℕ) (e : IsCipher E) (k : Masks) (s : AreMasks k) (m out : List ℕ) (n : ℕ) (in-m : 32 * n ≤ length m) (fits : 32 * n ≤ length out) where
  -- in their own order
  in_turn : (i : ℕ) → i ≤ n → written (pair_of E k m) out (λ j. j) i ≡ lay 0 (pairs E k i m) out
  unfolding written pairs
  in_turn zero h = sym (lay_none 0 out)
  in_turn (suc i) h =
      laid_more E e k s m out i (32 * i) (32 * i + 16) (k.left i) (k.right i) (written (pair_of E k m) out (λ j. j) i) refl refl
      (omega arith) (omega arith) refl refl (in_turn i (omega arith))
      ∙ ap (λ (j : ℕ). lay 0 (pairs E k j m) out) (add-one i)

  -- and in any other
  pub ordered_pairs : (f : ℕ → ℕ) (l : ℕ) → ((j : ℕ) → j < l → f j < n) → ((i : ℕ) → i < n → (j : ℕ) × (j < l) × (f j ≡ i))
      → written (pair_of E k m) out f l ≡ lay 0 (pairs E k n m) out
  ordered_pairs f l within reaches =
      any_order n (pair_of E k m) (λ i h. length_here E e k s i m (omega arith)) out fits f (λ j. j) l n within (λ j h. h) reaches (λ i h. (i, h, refl))
      ∙ in_turn n (omega arith)

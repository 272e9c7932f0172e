-- Eight shifts are a byte: the laws, for whatever goes on by a shift where the top bit is not set. Assumes nothing.
use mathlib.Core.Path.{◌≡◌, refl, sym, ap, ap₂, ◌∙◌}
use mathlib.Core.List.{List, [], ◌∷◌, ◌++◌}
use Prim.Native.Nat.{ℕ, zero, suc, ◌+◌, ◌*◌, ◌/◌, ◌%◌, ◌<◌}
use native.Mathlib.Omega.{arith}
use lib.ListN.{length, get_or}
use Rattle.block.specs.Block.{shift}
use Rattle.block.proofs.Linear.{Bytes}

-- k shifts at once, where m is 2ᵏ and d is 2⁸⁻ᵏ: each byte takes the top k bits of the next
unfoldable slide : ℕ → ℕ → List ℕ → List ℕ
slide m d [] = []
slide m d (a ∷ x) = (a % d * m + get_or x 0 0 / d) ∷ slide m d x

-- what numbers have to say for one shift more of bytes a, b and c, which comes to m' and d'
record Further (m d m' d' : ℕ) : Type 0 where
  more : (a b c : ℕ) → a < 256 → b < 256 → c < 256 → (a % d * m + b / d) % 128 * 2 + (b % d * m + c / d) / 128 ≡ a % d' * m' + b / d'
  byte : (a b : ℕ) → a < 256 → b < 256 → a % d * m + b / d < 256
  low : (b : ℕ) → b < 256 → 0 % d * m + b / d < 128
  none : 0 % d * m + 0 / d ≡ 0

module _ (m d m' d' : ℕ) (f : Further m d m' d') where
  slid : (x : List ℕ) → Bytes x → shift (slide m d x) ≡ slide m' d' x
  unfolding shift slide
  slid [] h = refl
  slid (a ∷ []) h =
      ap (λ (n : ℕ). ((a % d * m + 0 / d) % 128 * 2 + n / 128) ∷ []) (sym f.none) ∙ ap (λ (n : ℕ). n ∷ []) (f.more a 0 0 (h 0) (omega arith) (omega arith))
  slid (a ∷ b ∷ x) h = ap₂ ◌∷◌ (f.more a b (get_or x 0 0) (h 0) (h 1) (h 2)) (slid (b ∷ x) (λ i. h (suc i)))

  length_slide : (x : List ℕ) → length (slide m d x) ≡ length x
  unfolding slide
  length_slide [] = refl
  length_slide (a ∷ x) = ap suc (length_slide x)

  bytes_slide : (x : List ℕ) → Bytes x → Bytes (slide m d x)
  unfolding slide
  bytes_slide [] h i = omega arith
  bytes_slide (a ∷ x) h zero = f.byte a (get_or x 0 0) (h 0) (h 1)
  bytes_slide (a ∷ x) h (suc i) = bytes_slide x (λ j. h (suc j)) i

step_1 : Further 1 256 2 128
step_1 = record { more = λ a b c ha hb hc. omega arith; byte = λ a b ha hb. omega arith; low = λ b hb. omega arith; none = refl }

step_2 : Further 2 128 4 64
step_2 = record { more = λ a b c ha hb hc. omega arith; byte = λ a b ha hb. omega arith; low = λ b hb. omega arith; none = refl }

step_3 : Further 4 64 8 32
step_3 = record { more = λ a b c ha hb hc. omega arith; byte = λ a b ha hb. omega arith; low = λ b hb. omega arith; none = refl }

step_4 : Further 8 32 16 16
step_4 = record { more = λ a b c ha hb hc. omega arith; byte = λ a b ha hb. omega arith; low = λ b hb. omega arith; none = refl }

step_5 : Further 16 16 32 8
step_5 = record { more = λ a b c ha hb hc. omega arith; byte = λ a b ha hb. omega arith; low = λ b hb. omega arith; none = refl }

step_6 : Further 32 8 64 4
step_6 = record { more = λ a b c ha hb hc. omega arith; byte = λ a b ha hb. omega arith; low = λ b hb. omega arith; none = refl }

step_7 : Further 64 4 128 2
step_7 = record { more = λ a b c ha hb hc. omega arith; byte = λ a b ha hb. omega arith; low = λ b hb. omega arith; none = refl }

step_8 : Further 128 2 256 1
step_8 = record { more = λ a b c ha hb hc. omega arith; byte = λ a b ha hb. omega arith; low = λ b hb. omega arith; none = refl }

not_yet : (x : List ℕ) → Bytes x → x ≡ slide 1 256 x
unfolding slide
not_yet [] h = refl
not_yet (a ∷ x) h =
    let same : a ≡ a % 256 * 1 + get_or x 0 0 / 256 = omega (arith, h 0, h 1) in
    ap₂ ◌∷◌ same (not_yet x (λ i. h (suc i)))

by_a_byte : (a : ℕ) (x : List ℕ) → slide 256 1 (a ∷ x) ≡ x ++ (0 ∷ [])
unfolding slide
by_a_byte a [] =
    let gone : a % 1 * 256 + 0 / 1 ≡ 0 = omega arith in
    ap (λ (n : ℕ). n ∷ []) gone
by_a_byte a (b ∷ x) =
    let next : a % 1 * 256 + b / 1 ≡ b = omega arith in
    ap₂ ◌∷◌ next (by_a_byte b x)

-- ---- F goes on so, at strings of l bytes
module _ (F : ℕ → List ℕ → List ℕ) (l : ℕ) (on : (n : ℕ) (z : List ℕ) → length z ≡ l → get_or z 0 0 < 128 → Bytes z → F (suc n) z ≡ F n (shift z)) where
  -- a step, of what begins with a byte 0
  further : (m d m' d' : ℕ) → Further m d m' d' → (n : ℕ) (y : List ℕ) → length (0 ∷ y) ≡ l → Bytes (0 ∷ y)
      → F (suc n) (slide m d (0 ∷ y)) ≡ F n (slide m' d' (0 ∷ y))
  unfolding slide
  further m d m' d' f n y long h =
      on n (slide m d (0 ∷ y)) (length_slide m d m' d' f (0 ∷ y) ∙ long) (f.low (get_or y 0 0) (h 1)) (bytes_slide m d m' d' f (0 ∷ y) h)
      ∙ ap (F n) (slid m d m' d' f (0 ∷ y) h)

  pub eight : (n : ℕ) (y : List ℕ) → length (0 ∷ y) ≡ l → Bytes (0 ∷ y) → F (n + 8) (0 ∷ y) ≡ F n (y ++ (0 ∷ []))
  eight n y long h =
      let steps : n + 8 ≡ suc (suc (suc (suc (suc (suc (suc (suc n))))))) = omega arith in
      ap₂ F steps (not_yet (0 ∷ y) h)
      ∙ further 1 256 2 128 step_1 (suc (suc (suc (suc (suc (suc (suc n))))))) y long h
      ∙ further 2 128 4 64 step_2 (suc (suc (suc (suc (suc (suc n)))))) y long h
      ∙ further 4 64 8 32 step_3 (suc (suc (suc (suc (suc n))))) y long h
      ∙ further 8 32 16 16 step_4 (suc (suc (suc (suc n)))) y long h
      ∙ further 16 16 32 8 step_5 (suc (suc (suc n))) y long h
      ∙ further 32 8 64 4 step_6 (suc (suc n)) y long h
      ∙ further 64 4 128 2 step_7 (suc n) y long h
      ∙ further 128 2 256 1 step_8 n y long h
      ∙ ap (F n) (by_a_byte 0 y)

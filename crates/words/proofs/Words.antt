-- Words and their bytes: the laws. Assumes nothing.
use mathlib.Core.Path.{◌≡◌, refl, sym, ap, ap₂, ◌∙◌, subst}
use mathlib.Core.List.{List, [], ◌∷◌, ◌++◌}
use Prim.Native.Nat.{ℕ, zero, suc, ◌+◌, ◌*◌, ◌/◌, ◌%◌, ◌^◌, ◌<◌}
use native.Mathlib.Nat.{mul_assoc, pow-suc}
use native.Mathlib.Omega.{arith}
use lib.Bits.{bit_xor, xor_mod, xor_shr}
use borrow.Author.Rules.{rules}
use lib.ListN.{length, length-append, get_or}
use Rattle.std.specs.Prelude.{reverse}
use Rattle.std.specs.Int.{w32, w64, from_le_bytes, to_le_bytes, to_be_bytes, swap_bytes}
use Rattle.std.proofs.lemmas.Nat.{le_bytes_4, le_bytes_8, be_bytes_8}
use Rattle.lists.specs.Xor.{xor}
use Rattle.lists.specs.Hex.{bytes as big}
use Rattle.lists.proofs.Xor.{xor-append}
use Rattle.lists.proofs.Four.{four}
use Rattle.words.specs.Word.{little, number}

-- words are XORed byte by byte
pub little_xor : (n x y : ℕ) → little n (bit_xor x y) ≡ xor (little n x) (little n y)
unfolding little xor
little_xor zero x y = refl
little_xor (suc n) x y = ap₂ ◌∷◌ (xor_mod x y 8) (ap (little n) (xor_shr x y 8) ∙ little_xor n (x / 256) (y / 256))

pub little_number : (a b c d : ℕ) → a < 256 → b < 256 → c < 256 → d < 256 → little 4 (number (a ∷ b ∷ c ∷ d ∷ [])) ≡ a ∷ b ∷ c ∷ d ∷ []
unfolding little number
little_number a b c d ha hb hc hd = four (omega arith) (omega arith) (omega arith) (omega arith)

-- ---- the highest byte first
pub length_big : (n x : ℕ) → length (big n x) ≡ n
length_big zero x = refl
length_big (suc n) x = omega (arith, length-append (big n (x / 256)) (x % 256 ∷ []), length_big n (x / 256))

pub big_xor : (n x y : ℕ) → big n (bit_xor x y) ≡ xor (big n x) (big n y)
unfolding xor
big_xor zero x y = refl
big_xor (suc n) x y =
    ap₂ (λ (l : List ℕ) (z : ℕ). l ++ (z ∷ [])) (ap (big n) (xor_shr x y 8) ∙ big_xor n (x / 256) (y / 256)) (xor_mod x y 8)
    ∙ sym (xor-append (big n (x / 256)) (x % 256 ∷ []) (big n (y / 256)) (y % 256 ∷ []) (length_big n (x / 256) ∙ sym (length_big n (y / 256))))

-- what is beyond the n bytes does not show
pub big_above : (n x k : ℕ) → big n (x + k * 256 ^ n) ≡ big n x
big_above zero x k = refl
big_above (suc n) x k =
    let q = k * 256 ^ n in
    let whole : x + k * 256 ^ suc n ≡ x + q * 256 = ap (λ (z : ℕ). x + k * z) (pow-suc 256 n) ∙ ap (λ (z : ℕ). x + z) (sym (mul_assoc k (256 ^ n) 256)) in
    let above : (x + q * 256) / 256 ≡ x / 256 + q = omega arith in
    let last : (x + q * 256) % 256 ≡ x % 256 = omega arith in
    ap (big (suc n)) whole ∙ ap₂ (λ (l : List ℕ) (z : ℕ). l ++ (z ∷ [])) (ap (big n) above ∙ big_above n (x / 256) k) last

-- ---- lists whose elements are bytes
bytes_none : (i : ℕ) → get_or [] i 0 < 256
bytes_none i = omega arith

bytes_more : (x : ℕ) (l : List ℕ) → x < 256 → ((i : ℕ) → get_or l i 0 < 256) → (i : ℕ) → get_or (x ∷ l) i 0 < 256
bytes_more x l h t zero = h
bytes_more x l h t (suc i) = t i

little_bytes : (n x i : ℕ) → get_or (little n x) i 0 < 256
unfolding little
little_bytes zero x = bytes_none
little_bytes (suc n) x = bytes_more (x % 256) (little n (x / 256)) (omega arith) (little_bytes n (x / 256))

-- ---- the library's conversions
pub little_4 : (x : ℕ) → little 4 x ≡ to_le_bytes w32 x
unfolding little
little_4 x = four (omega arith) (omega arith) (omega arith) (omega arith)

pub little_8 : (x : ℕ) → little 8 x ≡ to_le_bytes w64 x
unfolding little
little_8 x =
    ap₂ ◌++◌ (four (omega arith) (omega arith) (omega arith) (omega arith)) (four (omega arith) (omega arith) (omega arith) (omega arith))

pub big_8 : (x : ℕ) → big 8 x ≡ to_be_bytes w64 x
big_8 x =
    ap₂ ◌++◌ (four (omega arith) (omega arith) (omega arith) (omega arith)) (four (omega arith) (omega arith) (omega arith) (omega arith))

pub packed_4 : (a b c d r : ℕ) → a < 256 → b < 256 → c < 256 → d < 256
    → r ≡ from_le_bytes w32 (a ∷ b ∷ c ∷ d ∷ []) → little 4 r ≡ a ∷ b ∷ c ∷ d ∷ []
packed_4 a b c d r ha hb hc hd e =
    little_4 r ∙ le_bytes_4 (a ∷ b ∷ c ∷ d ∷ []) r refl (search (rules, bytes_none, bytes_more) depth 6) e

pub packed_8 : (a b c d e f g h r : ℕ) → a < 256 → b < 256 → c < 256 → d < 256 → e < 256 → f < 256 → g < 256 → h < 256
    → r ≡ from_le_bytes w64 (a ∷ b ∷ c ∷ d ∷ e ∷ f ∷ g ∷ h ∷ []) → little 8 r ≡ a ∷ b ∷ c ∷ d ∷ e ∷ f ∷ g ∷ h ∷ []
packed_8 a b c d e f g h r ha hb hc hd he hf hg hh is =
    little_8 r ∙ le_bytes_8 (a ∷ b ∷ c ∷ d ∷ e ∷ f ∷ g ∷ h ∷ []) r refl (search (rules, bytes_none, bytes_more) depth 10) is

-- the bytes, exchanged from end to end
module _ (x r : ℕ) (e : r ≡ swap_bytes w64 x) where
  exchanged : to_be_bytes w64 r ≡ to_le_bytes w64 x
  exchanged = be_bytes_8 (to_le_bytes w64 x) r refl (subst (λ (l : List ℕ). (i : ℕ) → get_or l i 0 < 256) (little_8 x) (little_bytes 8 x)) e

  pub big_turned : big 8 r ≡ little 8 x
  big_turned = big_8 r ∙ exchanged ∙ sym (little_8 x)

  pub little_turned : little 8 r ≡ big 8 x
  little_turned = little_8 r ∙ ap reverse exchanged ∙ sym (big_8 x)

-- The test for two strings being the same says what it should. Assumes nothing.
use mathlib.Core.Path.{◌≡◌, refl, sym, ap, ap₂, ◌∙◌}
use mathlib.Core.Bool.{Bool, true, false, ◌&&◌, and_assoc}
use mathlib.Core.List.{List, [], ◌∷◌}
use Prim.Native.Nat.{ℕ}
use native.Mathlib.Omega.{arith}
use lib.Bits.{bit_or, bit_xor, xor_self}
use lib.Dec.{eqb}
use borrow.Author.Tests.{eqb-true, eq-eqb}
use Rattle.std.proofs.lemmas.Bool.Decides.{same_from_decides, Decides-eqb, Decides-and, Decides-like}
use Rattle.std.proofs.lemmas.Nat.{le_or_l, le_or_r}
use Rattle.lists.proofs.Bits.{xor-zero}
use Rattle.lists.specs.Same.{same}

and_left : (a b : Bool) → (a && b) ≡ true → a ≡ true
and_left true b h = refl
and_left false b h = h

and_right : (a b : Bool) → (a && b) ≡ true → b ≡ true
and_right true b h = h
and_right false b h = absurd (let z : ◌≡◌ {A = Bool} false true = h in let n : ◌≡◌ {A = ℕ} 0 1 = cc in omega arith)

pub same_true : (a b : List ℕ) → same a b ≡ true → a ≡ b
unfolding same
same_true [] [] h = refl
same_true [] (y ∷ b) h = absurd (let n : ◌≡◌ {A = ℕ} 0 1 = cc in omega arith)
same_true (x ∷ a) [] h = absurd (let n : ◌≡◌ {A = ℕ} 0 1 = cc in omega arith)
same_true (x ∷ a) (y ∷ b) h =
    ap₂ ◌∷◌ (eqb-true x y (and_left (eqb x y) (same a b) h)) (same_true a b (and_right (eqb x y) (same a b) h))

pub same_self : (a : List ℕ) → same a a ≡ true
unfolding same
same_self [] = refl
same_self (x ∷ a) = ap₂ ◌&&◌ (eq-eqb x x refl) (same_self a)

pub same_false : (a b : List ℕ) → same a b ≡ false → a ≡ b → ⊥
same_false a b h e =
    let t : same a b ≡ true = ap (same a) (sym e) ∙ same_self a in
    let n : ◌≡◌ {A = ℕ} 0 1 = cc in
    omega arith

-- a flag that says whether two strings are equal is the test
pub same_is : (t : Bool) (a b : List ℕ) → (t ≡ true → a ≡ b) → (a ≡ b → t ≡ true) → t ≡ same a b
same_is true a b f g = sym (ap (same a) (sym (f refl)) ∙ same_self a)
same_is false a b f g = go (same a b) refl
  where
    go : (s : Bool) → same a b ≡ s → false ≡ s
    go true e = g (same_true a b e)
    go false e = refl

pub not_same : (a b : List ℕ) → (a ≡ b → ⊥) → same a b ≡ false
not_same a b h = sym (same_is false a b (λ z. absurd (let n : ◌≡◌ {A = ℕ} 0 1 = cc in omega arith)) (λ e. absurd (h e)))

-- ---- a comparison that looks at every byte: its flag is 0 where no two bytes so far differed
flag_is : (d x y : ℕ) → (eqb d 0 && eqb x y) ≡ eqb (bit_or d (bit_xor x y)) 0
flag_is d x y =
    let z = bit_xor x y in
    same_from_decides _ _ (Decides-and (eqb d 0) (eqb x y) (Decides-eqb d 0) (Decides-eqb x y))
    (Decides-like _ (λ h. (omega (arith, le_or_l d z), xor-zero x y (omega (arith, le_or_r d z))))
    (λ e. ap₂ bit_or e.0 (ap (bit_xor x) (sym e.1) ∙ xor_self x)) (Decides-eqb (bit_or d z) 0))

pub flag_more : (d x y : ℕ) (a b : List ℕ) → (eqb d 0 && same (x ∷ a) (y ∷ b)) ≡ (eqb (bit_or d (bit_xor x y)) 0 && same a b)
unfolding same
flag_more d x y a b = sym (and_assoc (eqb d 0) (eqb x y) (same a b)) ∙ ap (λ (t : Bool). t && same a b) (flag_is d x y)

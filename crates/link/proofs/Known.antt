-- The key lengths of check 1 are those that FIPS 197 has rounds for, and these rounds are those that a prepared key may have. Assumes
-- nothing.
use mathlib.Core.Path.{◌≡◌, refl}
use mathlib.Core.Bool.{Bool, true, false, ◌||◌}
use Prim.Native.Nat.{ℕ}
use native.Mathlib.Omega.{arith}
use lib.Dec.{eqb}
use Rattle.std.specs.Option.{is_some}
use Rattle.std.specs.Prelude.{Option, Some, None}
use Rattle.aes.specs.Key.{known, pick_size, size_of}
use Rattle.aes.specs.declared.key.KeySize.{KeySize}
use Rattle.link.specs.Checks.{known_rounds}

-- what a size says of the test
abbrev pub Says : Option KeySize → Bool → Type 0
Says (Some s) b = (b ≡ true) × (known_rounds s.rounds ≡ true)
Says None b = b ≡ false

says : (k : ℕ) → Says (size_of k) (eqb k 16 || (eqb k 24 || eqb k 32)) × (is_some (size_of k) ≡ (eqb k 16 || (eqb k 24 || eqb k 32)))
unfolding size_of
says k = go (eqb k 16) (eqb k 24) (eqb k 32)
  where
    go : (a b c : Bool)
        → let s = pick_size a (known 10 44) (pick_size b (known 12 52) (pick_size c (known 14 60) None)) in
        Says s (a || (b || c)) × (is_some s ≡ (a || (b || c)))
    go true b c = ((refl, refl), refl)
    go false true c = ((refl, refl), refl)
    go false false true = ((refl, refl), refl)
    go false false false = (refl, refl)

pub some_known : (k : ℕ) → is_some (size_of k) ≡ (eqb k 16 || (eqb k 24 || eqb k 32))
some_known k = (says k).1

pub known_rounds_lem : (k : ℕ) (s : KeySize) → size_of k ≡ Some s → known_rounds s.rounds ≡ true
known_rounds_lem k s e = (rw e at (says k).0).1

pub unknown_size : (k : ℕ) → size_of k ≡ None → (eqb k 16 || (eqb k 24 || eqb k 32)) ≡ false
unknown_size k e = rw e at (says k).0

pub size_known : (k : ℕ) → (eqb k 16 || (eqb k 24 || eqb k 32)) ≡ true → (s : KeySize) × (size_of k ≡ Some s)
size_known k h = go (size_of k) refl
  where
    go : (o : Option KeySize) → size_of k ≡ o → (s : KeySize) × (size_of k ≡ Some s)
    go (Some s) e = (s, e)
    go None e = absurd (let f = unknown_size k e in let z : ◌≡◌ {A = ℕ} 0 1 = cc in omega arith)

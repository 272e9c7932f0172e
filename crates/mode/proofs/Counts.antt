-- How many pairs there are, and how much remains behind them. Assumes nothing.
use mathlib.Core.Path.{◌≡◌, refl, ◌∙◌}
use mathlib.Core.Bool.{Bool, true, false}
use Prim.Native.Nat.{ℕ, ◌+◌, ◌-◌, ◌*◌, ◌/◌, ◌%◌, ◌≤◌, ◌<◌}
use native.Mathlib.Omega.{arith}
use lib.Dec.{ltb}
use borrow.Author.Tests.{eqb-true, eqb-false, eq-eqb, ne_eqb, lt-ltb, le-ltb, ltb-true, ltb-false}
use Rattle.mode.specs.Message.{blocks, pairs_of, even}

-- the number of pairs in one division
pub pairs_are : (b : ℕ) → pairs_of b ≡ (b - 1) / 32
unfolding blocks pairs_of
pairs_are b = omega arith

-- two blocks remain, the first of them full: even m
pub even_rest : (b : ℕ) → even b ≡ true → 32 * pairs_of b + 16 < b
unfolding blocks pairs_of even
even_rest b h = omega (arith, eqb-true (blocks b % 2) 0 h)

-- one block remains: odd m
pub odd_rest : (b : ℕ) → even b ≡ false → b ≤ 32 * pairs_of b + 16
unfolding blocks pairs_of even
odd_rest b h = odd (eqb-false (blocks b % 2) 0 h)
  where
    odd : (blocks b % 2 ≡ 0 → ⊥) → b ≤ 32 * pairs_of b + 16
    odd n = omega arith

pub pairs-within : (b : ℕ) → 32 * pairs_of b ≤ b
pairs-within b = omega (arith, pairs_are b)

pub rest_most : (b : ℕ) → b ≤ 32 * pairs_of b + 32
rest_most b = omega (arith, pairs_are b)

-- m is even just where more than one block remains
pub even_is : (b : ℕ) → even b ≡ ltb (32 * pairs_of b + 16) b
unfolding blocks pairs_of even
even_is b = go (ltb (32 * pairs_of b + 16) b) refl
  where
    go : (t : Bool) → ltb (32 * pairs_of b + 16) b ≡ t → even b ≡ t
    go true h = eq-eqb (blocks b % 2) 0 (omega (arith, ltb-true (32 * pairs_of b + 16) b h))
    go false h = ne_eqb (blocks b % 2) 0 (omega (arith, ltb-false (32 * pairs_of b + 16) b h))

pub even_left : (b : ℕ) → even b ≡ ltb 16 (b - 32 * pairs_of b)
even_left b = even_is b ∙ go (ltb 16 (b - 32 * pairs_of b)) refl
  where
    go : (t : Bool) → ltb 16 (b - 32 * pairs_of b) ≡ t → ltb (32 * pairs_of b + 16) b ≡ t
    go true h = lt-ltb (32 * pairs_of b + 16) b (omega (arith, ltb-true 16 (b - 32 * pairs_of b) h))
    go false h = le-ltb (32 * pairs_of b + 16) b (omega (arith, ltb-false 16 (b - 32 * pairs_of b) h))

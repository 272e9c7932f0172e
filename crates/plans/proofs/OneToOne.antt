-- Counting: where the numbers below k go to numbers below n, no two to the same, k is at most n; and where k is n, every one below n
-- is reached. Assumes nothing.
use mathlib.Core.Path.{◌≡◌, sym, ap, ◌∙◌}
use Prim.Native.Nat.{ℕ, zero, suc, ◌+◌, ◌-◌, ◌≤◌, ◌<◌, min, zero-le}
use native.Mathlib.Nat.{not-suc-le-zero}
use native.Mathlib.Decide.{ℕ_discrete}
use native.Mathlib.Omega.{arith}

-- f is also handed that its number is below k: a pair's entry is known only of a pair of the plan
pub record OneToOne (k n : ℕ) (f : (j : ℕ) → j < k → ℕ) : Type 0 where
  pub within : (j : ℕ) (h : j < k) → f j h < n
  pub apart : (i j : ℕ) (hi : i < k) (hj : j < k) → f i hi ≡ f j hj → i ≡ j

-- v left out: what is above it moves down by one
abbrev without : ℕ → ℕ → ℕ
without v x = min x (v + (x - suc v))

left_out : (k n : ℕ) (f : (j : ℕ) → j < k → ℕ) → OneToOne k n f → (v : ℕ) → v < n → ((j : ℕ) (h : j < k) → f j h ≡ v → ⊥)
    → OneToOne k (n - 1) (λ j h. without v (f j h))
left_out k n f o v below missed = record {
  within = λ j h. omega (arith, o.within j h, missed j h);
  apart = λ i j hi hj e. o.apart i j hi hj (omega (arith, missed i hi, missed j hj));
}

pub no_more : (k n : ℕ) (f : (j : ℕ) → j < k → ℕ) → OneToOne k n f → k ≤ n
no_more zero n f o = zero-le
no_more (suc k) n f o =
    let last : k < suc k = omega arith in
    let earlier : (j : ℕ) → j < k → j < suc k = λ j h. omega arith in
    let front : OneToOne k n (λ j h. f j (earlier j h)) = record {
      within = λ j h. o.within j (earlier j h);
      apart = λ i j hi hj. o.apart i j (earlier i hi) (earlier j hj);
    } in
    let missed : (j : ℕ) (h : j < k) → f j (earlier j h) ≡ f k last → ⊥ = λ j h e. omega (arith, o.apart j k (earlier j h) last e) in
    omega (arith, no_more k (n - 1) _ (left_out k n _ front (f k last) (o.within k last) missed), o.within k last)

-- ---- every number below n is reached
pub record Reached (f : ℕ → ℕ) (k i : ℕ) : Type 0 where
  pub from : ℕ
  pub below : from < k
  pub gives : f from ≡ i

reached : (f : ℕ → ℕ) (k i : ℕ) → Dec (Reached f k i)
reached f zero i = no (λ r. not-suc-le-zero r.below)
reached f (suc k) i = last (ℕ_discrete (f k) i) (reached f k i)
  where
    last : Dec (f k ≡ i) → Dec (Reached f k i) → Dec (Reached f (suc k) i)
    last (yes e) d = yes (record { from = k; below = omega arith; gives = e })
    last (no other) (yes r) = yes (record { from = r.from; below = omega (arith, r.below); gives = r.gives })
    last (no other) (no none) = no (λ r.
        let before : r.from ≡ k → ⊥ = λ e. other (sym (ap f e) ∙ r.gives) in
        none (record { from = r.from; below = omega (arith, r.below); gives = r.gives }))

pub onto : (n : ℕ) (f : ℕ → ℕ) → OneToOne n n (λ j h. f j) → (i : ℕ) → i < n → Reached f n i
onto n f o i h = all (reached f n i)
  where
    all : Dec (Reached f n i) → Reached f n i
    all (yes r) = r
    all (no none) =
        let missed : (j : ℕ) (b : j < n) → f j ≡ i → ⊥ = λ j b e. none (record { from = j; below = b; gives = e }) in
        absurd (omega (arith, no_more n (n - 1) _ (left_out n n (λ j b. f j) o i h missed)))

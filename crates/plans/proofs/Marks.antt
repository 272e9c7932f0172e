-- The check's marks: what it knows of a plan's first j entries, from none to all. Assumes nothing.
use mathlib.Core.Path.{◌≡◌, refl, sym, ◌∙◌}
use mathlib.Core.Bool.{Bool, true, false}
use mathlib.Core.List.{List}
use Prim.Native.Nat.{ℕ, zero, suc, ◌*◌, ◌≤◌, ◌<◌}
use native.Mathlib.Omega.{arith}
use lib.ListN.{length, get_or, replicate, length-replicate}
use borrow.Author.Count.{below_none}
use Rattle.plans.specs.Plan.{pair_at, engine_at, Accepted}
use Rattle.plans.proofs.OneToOne.{OneToOne, onto}

-- the first j entries are for engines and for different pairs below n, and just their pairs are marked
pub record Passed (n : ℕ) (p : List ℕ) (marks : List Bool) (j : ℕ) : Type 0 where
  pub room : length marks ≡ 511
  pub known : (i : ℕ) → i < j → pair_at p i < n
  pub engines : (i : ℕ) → i < j → engine_at p i < 4
  pub different : (i : ℕ) → i < j → (k : ℕ) → k < i → pair_at p k ≡ pair_at p i → ⊥
  pub marked : (i : ℕ) → i < j → get_or marks (pair_at p i) false ≡ true
  pub clear : (v : ℕ) → ((i : ℕ) → i < j → pair_at p i ≡ v → ⊥) → get_or marks v false ≡ false

all_clear : (m v : ℕ) → get_or (replicate m false) v false ≡ false
all_clear zero v = refl
all_clear (suc m) zero = refl
all_clear (suc m) (suc v) = all_clear m v

pub passed_none : (n : ℕ) (p : List ℕ) → Passed n p (replicate 511 false) 0
passed_none n p = record {
  room = length-replicate 511 false;
  known = below_none _;
  engines = below_none _;
  different = below_none _;
  marked = below_none _;
  clear = λ v none. all_clear 511 v;
}

pub passed_all : (n : ℕ) (p : List ℕ) (marks : List Bool) (j : ℕ) → Passed n p marks j → length p ≡ 3 * n → n ≤ j → Accepted n p
passed_all n p marks j o long all = record {
  whole = omega arith;
  every = λ i h.
      let r = onto n (pair_at p) one_to_one i h in
      record {
        entry = r.from;
        within = omega (arith, r.below);
        for_it = r.gives;
        alone = λ k b e. one_to_one.apart k r.from (omega arith) r.below (e ∙ sym r.gives);
      };
  no_other = λ i b. o.known i (omega arith);
  engines = λ i b. o.engines i (omega arith);
}
  where
    one_to_one : OneToOne n n (λ i h. pair_at p i)
    one_to_one = record {
      within = λ i h. o.known i (omega arith);
      apart = λ i k hi hk e.
          let not_before : i < k → ⊥ = λ b. o.different k (omega arith) i b e in
          let not_behind : k < i → ⊥ = λ b. o.different i (omega arith) k b (sym e) in
          omega arith;
    }

-- The planner's plan: its entries, that it is a plan, and that no engine has more than one pair more than another. Assumes nothing.
use mathlib.Core.Path.{◌≡◌, refl, sym, ap, ap₂, ◌∙◌}
use mathlib.Core.Bool.{Bool, true, false}
use mathlib.Core.List.{List, [], ◌∷◌, ◌++◌}
use Prim.Native.Nat.{ℕ, zero, suc, ◌+◌, ◌*◌, ◌-◌, ◌/◌, ◌%◌, ◌≤◌, ◌<◌}
use native.Mathlib.Nat.{add-zero, not-suc-le-zero}
use native.Mathlib.Omega.{arith}
use native.Mathlib.Numerals.{add-one}
use lib.Dec.{eqb}
use lib.ListN.{length, get_or, length-append, get_or-append}
use lib.Seq.{get_or-append-add}
use borrow.Author.Count.{below_more}
use borrow.Author.Tests.{eqb-true, eqb-false}
use Rattle.plans.specs.Plan.{entries, pair_at, engine_at, Accepted}
use Rattle.plans.specs.Planner.{plan_of, one_more, load_up_to, load}

-- the three bytes of entry i
abbrev pub entry_of : ℕ → List ℕ
entry_of i = i / 256 ∷ i % 256 ∷ i % 4 ∷ []

pub plan_of_more : (i : ℕ) → plan_of (i + 1) ≡ plan_of i ++ entry_of i
unfolding plan_of
plan_of_more i = ap plan_of (add-one i)

pub length-plan_of : (n : ℕ) → length (plan_of n) ≡ 3 * n
unfolding plan_of
length-plan_of zero = refl
length-plan_of (suc n) = simp length-append (omega (arith, length-plan_of n))

byte_of : (n k : ℕ) → k < 3 → (i : ℕ) → i < n → get_or (plan_of n) (3 * i + k) 0 ≡ get_or (entry_of i) k 0
unfolding plan_of
byte_of zero k hk i h = absurd (not-suc-le-zero h)
byte_of (suc n) k hk i h =
    let last : 3 * n + k ≡ length (plan_of n) + k = omega (arith, length-plan_of n) in
    below_more (λ (j : ℕ). get_or (plan_of n ++ entry_of n) (3 * j + k) 0 ≡ get_or (entry_of j) k 0) n
    (λ j b. get_or-append (plan_of n) (entry_of n) 0 (3 * j + k) (omega (arith, length-plan_of n)) ∙ byte_of n k hk j b)
    (ap (λ (x : ℕ). get_or (plan_of n ++ entry_of n) x 0) last ∙ get_or-append-add (plan_of n) (entry_of n) k 0)
    i (omega arith)

module _ (n i : ℕ) (h : i < n) where
  pub pair_of : pair_at (plan_of n) i ≡ i
  pair_of =
      let high : get_or (plan_of n) (3 * i) 0 ≡ i / 256 = rw add-zero at (byte_of n 0 (omega arith) i h) in
      omega (arith, high, byte_of n 1 (omega arith) i h)

  pub engine_of : engine_at (plan_of n) i ≡ i % 4
  engine_of = byte_of n 2 (omega arith) i h

entries_of : (n : ℕ) → entries (plan_of n) ≡ n
entries_of n = omega (arith, length-plan_of n)

pub planner_accepted : (n : ℕ) → Accepted n (plan_of n)
planner_accepted n = record {
  whole = omega (arith, length-plan_of n);
  every = λ i h. record {
    entry = i;
    within = omega (arith, entries_of n);
    for_it = pair_of n i h;
    alone = λ j b e. sym (pair_of n j (below j b)) ∙ e;
  };
  no_other = λ j b. omega (arith, pair_of n j (below j b), below j b);
  engines = λ j b. omega (arith, engine_of n j (below j b));
}
  where
    below : (j : ℕ) → j < entries (plan_of n) → j < n
    below j b = omega (arith, entries_of n)

-- ---- loads
-- of the first j entries, each fourth is for engine e
pub load_up_to_lem : (n e j : ℕ) → e < 4 → j ≤ n → load_up_to e j (plan_of n) ≡ (j + 3 - e) / 4
unfolding load_up_to
load_up_to_lem n e zero he h = omega arith
load_up_to_lem n e (suc j) he h =
    ap₂ (λ (x l : ℕ). one_more (eqb x e) l) (engine_of n j h) (load_up_to_lem n e j he (omega arith)) ∙ turn (eqb (j % 4) e) refl
  where
    turn : (t : Bool) → eqb (j % 4) e ≡ t → one_more t ((j + 3 - e) / 4) ≡ (suc j + 3 - e) / 4
    turn true its = omega (arith, eqb-true (j % 4) e its)
    turn false other = omega (arith, eqb-false (j % 4) e other)

load_of : (n e : ℕ) → e < 4 → load e (plan_of n) ≡ (n + 3 - e) / 4
load_of n e he = ap (λ (j : ℕ). load_up_to e j (plan_of n)) (entries_of n) ∙ load_up_to_lem n e n he (omega arith)

pub even_loads : (n a b : ℕ) → a < 4 → b < 4 → load a (plan_of n) ≤ load b (plan_of n) + 1
even_loads n a b ha hb = omega (arith, load_of n a ha, load_of n b hb)

-- Plans: how long they are, that they may be rearranged, and what no plan is. Assumes nothing.
use mathlib.Core.Path.{◌≡◌, refl, sym, ap, subst, ◌∙◌}
use mathlib.Core.Bool.{Bool, true, false}
use mathlib.Core.List.{List}
use Prim.Native.Nat.{ℕ, ◌*◌, ◌%◌, ◌≤◌, ◌<◌}
use native.Mathlib.Omega.{arith}
use lib.ListN.{length}
use Rattle.plans.specs.Plan.{entries, pair_at, engine_at, Once, Accepted, Judged, Rearranged}
use Rattle.plans.proofs.OneToOne.{no_more}

module _ (n : ℕ) (p : List ℕ) (a : Accepted n p) where
  -- two entries are for different pairs
  pub different : (i j : ℕ) → i < entries p → j < entries p → pair_at p i ≡ pair_at p j → i ≡ j
  different i j hi hj e =
      let once = a.every (pair_at p j) (a.no_other j hj) in
      once.alone i hi e ∙ sym (once.alone j hj refl)

  -- an entry goes to its pair and a pair to its entry, both one to one: there are as many entries as pairs
  pub as_many : entries p ≡ n
  as_many =
      let few = no_more (entries p) n (λ j h. pair_at p j) (record { within = a.no_other; apart = λ i j hi hj. different i j hi hj }) in
      let enough = no_more n (entries p) (λ i h. (a.every i h).entry) (record {
        within = λ i h. (a.every i h).within;
        apart = λ i j hi hj e. sym (a.every i hi).for_it ∙ ap (pair_at p) e ∙ (a.every j hj).for_it;
      }) in
      omega arith

  pub accepted_long : length p ≡ 3 * n
  accepted_long = a.whole ∙ ap (λ (k : ℕ). 3 * k) as_many

-- ---- what no plan has
module _ (n : ℕ) (p : List ℕ) where
  pub twice_refused : (i j : ℕ) → i < j → j < entries p → pair_at p i ≡ pair_at p j → Accepted n p → ⊥
  twice_refused i j before h e a = omega (arith, different n p a i j (omega arith) h e)

  pub missing_refused : (i : ℕ) → i < n → ((j : ℕ) → j < entries p → pair_at p j ≡ i → ⊥) → Accepted n p → ⊥
  missing_refused i h none a =
      let once = a.every i h in
      none once.entry once.within once.for_it

  pub too_large_refused : (j : ℕ) → j < entries p → n ≤ pair_at p j → Accepted n p → ⊥
  too_large_refused j h large a = omega (arith, a.no_other j h)

  pub engine_refused : (j : ℕ) → j < entries p → 4 ≤ engine_at p j → Accepted n p → ⊥
  engine_refused j h large a = omega (arith, a.engines j h)

  pub not_whole_refused : (length p % 3 ≡ 0 → ⊥) → Accepted n p → ⊥
  not_whole_refused part a = omega (arith, a.whole)

-- a plan rearranged, and its engines under other names, is a plan
pub rearranged : (n : ℕ) (p q : List ℕ) → Accepted n p → Rearranged p q → Accepted n q
rearranged n p q a r = record {
  whole = omega (arith, a.whole, r.long);
  every = once;
  no_other = λ j h. subst (λ (i : ℕ). i < n) (sym (r.pairs j (in_p j h))) (a.no_other (r.from j) (r.from_within j (in_p j h)));
  engines = λ j h.
      subst (λ (e : ℕ). e < 4) (sym (r.engines j (in_p j h)))
      (r.names (engine_at p (r.from j)) (a.engines (r.from j) (r.from_within j (in_p j h))));
}
  where
    in_p : (j : ℕ) → j < entries q → j < entries p
    in_p j h = omega (arith, r.long)

    once : (i : ℕ) → i < n → Once q i
    once i h =
        let o = a.every i h in
        let place = r.to_within o.entry o.within in
        record {
          entry = r.to o.entry;
          within = omega (arith, place, r.long);
          for_it = r.pairs (r.to o.entry) place ∙ ap (pair_at p) (r.from_to o.entry o.within) ∙ o.for_it;
          alone = λ j b e.
              sym (r.to_from j (in_p j b))
              ∙ ap r.to (o.alone (r.from j) (r.from_within j (in_p j b)) (sym (r.pairs j (in_p j b)) ∙ e));
        }

-- a plan is judged one way
pub one_judgement : (n : ℕ) (p : List ℕ) (a b : Bool) → Judged a n p → Judged b n p → a ≡ b
one_judgement n p true true a b = refl
one_judgement n p true false a b = absurd (b a)
one_judgement n p false true a b = absurd (a b)
one_judgement n p false false a b = refl

-- Wrong programs of document 02's wish 13, each ruled out by the promise of sealing by a plan or of planning: at every input of its kind,
-- and the one whose mask is off by one doubling at 33 zeros, under the named key and nonce. Assumes nothing.
use mathlib.Core.Path.{◌≡◌, refl, sym, ap, ◌∙◌}
use mathlib.Core.List.{List, []}
use Prim.Native.Nat.{ℕ, ◌+◌, ◌*◌, ◌%◌, ◌≤◌, ◌<◌}
use native.Mathlib.Omega.{arith}
use lib.ListN.{length, get_or, take}
use lib.Seq.{get_or-take}
use Rattle.lists.specs.Zeros.{zeros}
use Rattle.aes.specs.Expansion.{aes}
use Rattle.mode.specs.declared.edition.Form.TheVariants.{Parallel}
use Rattle.mode.specs.declared.edition.Edition.TheVariants.{V3}
use Rattle.mode.specs.Message.{blocks, pairs_of, pairs}
use Rattle.mode.specs.Sealing.{masks}
use Rattle.mode.specs.Feeding.{from}
use Rattle.plans.specs.Plan.{entries, pair_at, engine_at, Accepted}
use Rattle.plans.specs.Planner.{load}
use Rattle.plans.proofs.Plans.{twice_refused, missing_refused, too_large_refused, engine_refused, not_whole_refused}
use Rattle.link.specs.Answers.{Answer, number_of}
use Rattle.engines.specs.Promises.{SealsPlanned, Plans}
use Rattle.demands.specs.Calls.{first_failing, key_known, seal_checks}
use Rattle.demands.proofs.Engines.{planned_answers, planned_seals, planner_answers}
use Rattle.wrong.proofs.Named.{key, nonce, m33, off_by_one}
use Rattle.wrong.proofs.Calls.{room33, third_parallel, limits, all_sealed}

module _ (key nonce ad m : List ℕ) (t : ℕ) (plan out : List ℕ) (r : Answer) (after : List ℕ) (p : SealsPlanned key nonce ad m t plan out r after) where
  -- what is done was accepted
  so : number_of r ≡ 0 → Accepted (pairs_of (length m)) plan
  so done = ((planned_answers key nonce ad m t out plan r after p).done.0 done).1

  -- ---- a check that accepts a pair twice
  pub twice : (i j : ℕ) → i < j → j < entries plan → pair_at plan i ≡ pair_at plan j → number_of r ≡ 0 → ⊥
  twice i j before h e done = twice_refused (pairs_of (length m)) plan i j before h e (so done)

  -- ---- one that accepts a plan short of a pair
  pub short_of_a_pair : (i : ℕ) → i < pairs_of (length m) → ((j : ℕ) → j < entries plan → pair_at plan j ≡ i → ⊥) → number_of r ≡ 0 → ⊥
  short_of_a_pair i h none done = missing_refused (pairs_of (length m)) plan i h none (so done)

  -- ---- ones that accept a number too large, a fifth engine, and part of an entry
  pub too_large : (j : ℕ) → j < entries plan → pairs_of (length m) ≤ pair_at plan j → number_of r ≡ 0 → ⊥
  too_large j h large done = too_large_refused (pairs_of (length m)) plan j h large (so done)

  pub fifth_engine : (j : ℕ) → j < entries plan → 4 ≤ engine_at plan j → number_of r ≡ 0 → ⊥
  fifth_engine j h large done = engine_refused (pairs_of (length m)) plan j h large (so done)

  pub part_of_an_entry : (length plan % 3 ≡ 0 → ⊥) → number_of r ≡ 0 → ⊥
  part_of_an_entry part done = not_whole_refused (pairs_of (length m)) plan part (so done)

  -- ---- a program that writes some pairs, and then answers 13
  pub writes_before_13 : (after ≡ out → ⊥) → number_of r ≡ 13 → ⊥
  writes_before_13 written h = written ((planned_answers key nonce ad m t out plan r after p).untouched (λ z. omega arith)).2

  -- ---- one that answers 13 to a plan, and one that does so where another check fails
  pub refuses_a_plan : Accepted (pairs_of (length m)) plan → number_of r ≡ 13 → ⊥
  refuses_a_plan is h = ((planned_answers key nonce ad m t out plan r after p).thirteen.0 h).1 is

  pub thirteen_too_early : (first_failing (seal_checks 3 0 (key_known key) nonce ad m t out) ≡ 0 → ⊥) → number_of r ≡ 13 → ⊥
  thirteen_too_early some h = some ((planned_answers key nonce ad m t out plan r after p).thirteen.0 h).0

-- ---- a program whose masks are off by one doubling: those of the next pair
pub off_by_a_doubling : (plan : List ℕ) → Accepted 1 plan → (r : Answer) (after : List ℕ)
    → take 32 after ≡ pairs (aes key) (from 1 (masks (aes key) (aes key (zeros 16)) (V3 Parallel) nonce [] 16)) 1 m33 → SealsPlanned key nonce [] m33 16 plan room33 r after → ⊥
unfolding blocks pairs_of
off_by_a_doubling plan is r after wrong p =
    let seals = planned_seals key nonce [] m33 16 room33 plan r after p is in
    let sealed = (all_sealed 3 0 third_parallel nonce m33 16 room33 (limits 3 0 third_parallel) (omega arith) refl r after seals).1 in
    off_by_one (sym (ap (λ (l : List ℕ). get_or l 0 0) wrong) ∙ get_or-take 32 after 0 0 (omega arith) ∙ ap (λ (l : List ℕ). get_or l 0 0) sealed)

-- ---- a planner that leaves an engine two pairs more than another
pub uneven : (m : ℕ) (out : List ℕ) (r : Answer) (after : List ℕ) → m ≤ 16384 → 3 * pairs_of m ≤ length out → (a b : ℕ) → a < 4 → b < 4
    → load b (take (3 * pairs_of m) after) + 2 ≤ load a (take (3 * pairs_of m) after) → Plans m out r after → ⊥
uneven m out r after short room a b ha hb more p = omega (arith, (planner_answers m out r after p).even short room a b ha hb)

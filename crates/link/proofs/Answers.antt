-- What every answer is. Assumes nothing.
use mathlib.Core.Path.{◌≡◌, refl, sym, ap, ap₂, ◌∙◌}
use mathlib.Core.Logic.{◌⊎◌, inl, inr}
use Prim.Native.Nat.{ℕ, ◌≤◌}
use native.Mathlib.Omega.{arith}
use Rattle.std.specs.Prelude.{Ok, Err}
use Rattle.link.specs.Answers.{Answer, done, number_of, length_of, runs_of, answer_of}
use Rattle.link.specs.declared.answer.Refusal.{Refusal}
use Rattle.link.specs.declared.answer.Refusal.TheVariants.{Key, Nonce, Tag, Data, Length, Room, Forged, Form, Ended, Edition, SameKey, Plan}

-- no refusal has the number of what is done
pub never_0 : (r : Refusal) → number_of (Err r) ≡ 0 → ⊥
never_0 Key z = omega arith
never_0 Nonce z = omega arith
never_0 Tag z = omega arith
never_0 Data z = omega arith
never_0 Length z = omega arith
never_0 Room z = omega arith
never_0 (Forged k) z = omega arith
never_0 Form z = omega arith
never_0 Ended z = omega arith
never_0 Edition z = omega arith
never_0 SameKey z = omega arith
never_0 Plan z = omega arith

-- done with n bytes after k runs; forged after k runs; for a plan; or another refusal, which has a number of at most 11, no length and no
-- runs, and is the answer that its number stands for
pub data Answered (r : Answer) : Type 0 where
  finished : (n k : ℕ) → r ≡ done n k → Answered r
  forged : (k : ℕ) → r ≡ Err (Forged k) → Answered r
  planned : r ≡ Err Plan → Answered r
  refusal : number_of r ≤ 11 → length_of r ≡ 0 → runs_of r ≡ 0 → ((n k : ℕ) → r ≡ answer_of (number_of r) n k) → Answered r

pub answered : (r : Answer) → Answered r
answered (Ok d) = finished d.length d.runs refl
answered (Err Key) = refusal (omega arith) refl refl (λ n k. refl)
answered (Err Nonce) = refusal (omega arith) refl refl (λ n k. refl)
answered (Err Tag) = refusal (omega arith) refl refl (λ n k. refl)
answered (Err Data) = refusal (omega arith) refl refl (λ n k. refl)
answered (Err Length) = refusal (omega arith) refl refl (λ n k. refl)
answered (Err Room) = refusal (omega arith) refl refl (λ n k. refl)
answered (Err (Forged k)) = forged k refl
answered (Err Form) = refusal (omega arith) refl refl (λ n k. refl)
answered (Err Ended) = refusal (omega arith) refl refl (λ n k. refl)
answered (Err Edition) = refusal (omega arith) refl refl (λ n k. refl)
answered (Err SameKey) = refusal (omega arith) refl refl (λ n k. refl)
answered (Err Plan) = planned refl

module _ (r : Answer) where
  -- no case but 0 and 7 carries runs
  pub no_runs : (number_of r ≡ 0 → ⊥) → (number_of r ≡ 7 → ⊥) → runs_of r ≡ 0
  no_runs not0 not7 = go (answered r)
    where
      go : Answered r → runs_of r ≡ 0
      go (finished n k e) = absurd (not0 (ap number_of e))
      go (forged k e) = absurd (not7 (ap number_of e))
      go (planned e) = ap runs_of e
      go (refusal most long runs stands) = runs

  -- an answer is what its number stands for, with its length if it is done, and its runs if it ran the cipher
  pub stands_for : (n k : ℕ) → (number_of r ≡ 0 → length_of r ≡ n) → ((number_of r ≡ 0) ⊎ (number_of r ≡ 7) → runs_of r ≡ k) → r ≡ answer_of (number_of r) n k
  stands_for n k long ran = go (answered r)
    where
      of : (x : Answer) → r ≡ x → answer_of (number_of x) n k ≡ answer_of (number_of r) n k
      of x e = ap (λ (y : Answer). answer_of (number_of y) n k) (sym e)

      go : Answered r → r ≡ answer_of (number_of r) n k
      go (finished i j e) = e ∙ ap₂ done (sym (ap length_of e) ∙ long (ap number_of e)) (sym (ap runs_of e) ∙ ran (inl (ap number_of e))) ∙ of (done i j) e
      go (forged j e) = e ∙ ap (λ (x : ℕ). Err (Forged x)) (sym (ap runs_of e) ∙ ran (inr (ap number_of e))) ∙ of (Err (Forged j)) e
      go (planned e) = e ∙ of (Err Plan) e
      go (refusal most none runs stands) = stands n k

  -- so it is its number, its length and its runs
  pub parts : r ≡ answer_of (number_of r) (length_of r) (runs_of r)
  parts = stands_for (length_of r) (runs_of r) (λ z. refl) (λ z. refl)

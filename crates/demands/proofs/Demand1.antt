-- Demand 1: whatever bytes and lengths come in, a call ends with done or one of the nine numbered refusals, in the fixed order, 10 and 8
-- first. Refusals 10, 8 and 1 to 6 change no buffer. Refusal 7 sets the first bytes of the output, as many as the ciphertext has, to zero
-- and touches nothing behind them. Under a raw key and under a prepared one. Assumes nothing.
use mathlib.Core.Path.{◌≡◌, refl, sym, ap, subst, ◌∙◌}
use mathlib.Core.Bool.{Bool, true, false}
use mathlib.Core.Logic.{◌⊎◌, inl, inr}
use mathlib.Core.List.{List, [], ◌∷◌}
use Prim.Native.Nat.{ℕ, ◌+◌, ◌-◌}
use native.Mathlib.Omega.{arith}
use lib.Dec.{leb}
use lib.ListN.{length}
use Rattle.std.specs.Prelude.{Ok, Err}
use Rattle.lists.specs.Lay.{lay}
use Rattle.lists.specs.Zeros.{zeros}
use Rattle.mode.specs.Opening.{accepted, refused}
use Rattle.link.specs.Answers.{Answer, number_of, length_of}
use Rattle.link.specs.Checks.{Check, from_to, unless, known_edition, last_form, call_check, seal_next, open_next}
use Rattle.link.specs.Promises.{sealing, seal_runs, open_runs, SealsBy, Seals, OpensBy, Opens, sealing_with, seal_runs_with, open_runs_with, SealsWith, OpensWith}
use Rattle.link.specs.declared.answer.Refusal.TheVariants.{Key, Nonce, Tag, Data, Length, Room, Form, Edition}
use Rattle.link.specs.declared.prepared.Prepared.{Prepared}
use Rattle.link.proofs.Answers.{never_0, Answered, finished, forged, planned, refusal, answered}
use Rattle.link.proofs.Verdicts.{Verdict, sure, OpenFits, open_verdict}
use Rattle.demands.specs.Calls.{first_of, first_failing, key_known, rounds_known, seal_checks, open_checks}

-- the number of what the checks stop at, and 0 where they pass
abbrev pub stop_number : Check → ℕ
stop_number (Ok n) = 0
stop_number (Err r) = number_of (Err r)

-- the checks as a list, and what they come to, agree in the number
number_of_lem : (v a b c d e f g : Bool) (n : ℕ)
    → stop_number (unless v Edition (unless a Form (unless b Key (unless c Nonce (unless d Tag (unless e Data (unless f Length (unless g Room (Ok n)))))))))
    ≡ first_failing ((10, v) ∷ (8, a) ∷ (1, b) ∷ (2, c) ∷ (3, d) ∷ (4, e) ∷ (5, f) ∷ (6, g) ∷ [])
number_of_lem true true true true true true true true n = refl
number_of_lem true true true true true true true false n = refl
number_of_lem true true true true true true false g n = refl
number_of_lem true true true true true false f g n = refl
number_of_lem true true true true false e f g n = refl
number_of_lem true true true false d e f g n = refl
number_of_lem true true false c d e f g n = refl
number_of_lem true false b c d e f g n = refl
number_of_lem false a b c d e f g n = refl

-- what the first failing check answers is among what they answer: it has whatever all of that has
abbrev pub AllAnswer : {A : Type 0} → (A → Type 0) → List (A × Bool) → Type 0
AllAnswer P [] = Unit
AllAnswer P ((a, b) ∷ checks) = P a × AllAnswer P checks

pub first_has : {A : Type 0} (P : A → Type 0) (none : A) (checks : List (A × Bool)) → P none → AllAnswer P checks → P (first_of none checks)
first_has P none [] n all = n
first_has P none ((a, true) ∷ checks) n all = first_has P none checks n all.1
first_has P none ((a, false) ∷ checks) n all = all.0

never_7 : (v a b c d e f g : Bool) → first_failing ((10, v) ∷ (8, a) ∷ (1, b) ∷ (2, c) ∷ (3, d) ∷ (4, e) ∷ (5, f) ∷ (6, g) ∷ []) ≡ 7 → ⊥
never_7 v a b c d e f g =
    first_has (λ n. n ≡ 7 → ⊥) 0 ((10, v) ∷ (8, a) ∷ (1, b) ∷ (2, c) ∷ (3, d) ∷ (4, e) ∷ (5, f) ∷ (6, g) ∷ []) (λ z. omega arith)
    (λ z. omega arith, (λ z. omega arith, (λ z. omega arith, (λ z. omega arith, (λ z. omega arith, (λ z. omega arith, (λ z. omega arith, (λ z. omega arith, tt))))))))

-- a refusal has length 0
pub refusal_length : (r : Answer) → (number_of r ≡ 0 → ⊥) → length_of r ≡ 0
refusal_length r z = go (answered r)
  where
    go : Answered r → length_of r ≡ 0
    go (finished n k e) = absurd (z (ap number_of e))
    go (forged k e) = ap length_of e
    go (planned e) = ap length_of e
    go (refusal most none runs stands) = none

-- ---- sealing
by_seal : (c : Check) (k : ℕ) (bytes out : List ℕ) (r : Answer) (after : List ℕ) → SealsBy c k bytes out r after
    → (number_of r ≡ stop_number c) × ((number_of r ≡ 0 → ⊥) → (length_of r ≡ 0) × (after ≡ out))
by_seal (Ok n) k bytes out r after p = (ap number_of p.0, λ z. absurd (z (ap number_of p.0)))
by_seal (Err x) k bytes out r after p = (ap number_of p.0, λ z. (refusal_length r z, p.1))

-- whether the key is known is all that the checks take of it
module _ (edition form : ℕ) (known : Bool) (nonce ad m : List ℕ) (t : ℕ) (out : List ℕ) where
  pub seal_number : stop_number (call_check edition form known (length nonce) t (length ad) (seal_next t (length m) (length out))) ≡ first_failing (seal_checks edition form known nonce ad m t out)
  unfolding call_check
  seal_number =
      number_of_lem (known_edition edition) (leb form (last_form edition)) known (from_to 1 15 (length nonce)) (from_to 4 16 t) (leb (length ad) 4096) (leb (length m) 16384)
      (leb (length m + t) (length out)) (length m + t)

  -- they do not stop at 7
  pub seal_not_7 : stop_number (call_check edition form known (length nonce) t (length ad) (seal_next t (length m) (length out))) ≡ 7 → ⊥
  seal_not_7 h =
      never_7 (known_edition edition) (leb form (last_form edition)) known (from_to 1 15 (length nonce)) (from_to 4 16 t) (leb (length ad) 4096) (leb (length m) 16384)
      (leb (length m + t) (length out)) (sym seal_number ∙ h)

  module _ (k : ℕ) (bytes : List ℕ) (r : Answer) (after : List ℕ)
      (p : SealsBy (call_check edition form known (length nonce) t (length ad) (seal_next t (length m) (length out))) k bytes out r after) where
    answers_seal : (number_of r ≡ first_failing (seal_checks edition form known nonce ad m t out)) × ((number_of r ≡ 0 → ⊥) → (length_of r ≡ 0) × (after ≡ out))
    answers_seal =
        let q = by_seal (call_check edition form known (length nonce) t (length ad) (seal_next t (length m) (length out))) k bytes out r after p in
        (q.0 ∙ seal_number, q.1)

    -- sealing does not answer 7
    pub answers_not_7 : number_of r ≡ 7 → ⊥
    answers_not_7 h = seal_not_7 (seal_number ∙ sym answers_seal.0 ∙ h)

pub sealing_answers : (edition form : ℕ) (key nonce ad m : List ℕ) (t : ℕ) (out : List ℕ) (r : Answer) (after : List ℕ) → Seals edition form key nonce ad m t out r after
    → (number_of r ≡ first_failing (seal_checks edition form (key_known key) nonce ad m t out)) × ((number_of r ≡ 0 → ⊥) → (length_of r ≡ 0) × (after ≡ out))
unfolding Seals
sealing_answers edition form key nonce ad m t out r after p =
    answers_seal edition form (key_known key) nonce ad m t out (seal_runs edition form key nonce ad t m) (sealing edition form key nonce ad t m) r after p

pub sealing_with_answers : (edition form : ℕ) (p : Prepared) (nonce ad m : List ℕ) (t : ℕ) (out : List ℕ) (r : Answer) (after : List ℕ) → SealsWith edition form p nonce ad m t out r after
    → (number_of r ≡ first_failing (seal_checks edition form (rounds_known p) nonce ad m t out)) × ((number_of r ≡ 0 → ⊥) → (length_of r ≡ 0) × (after ≡ out))
unfolding SealsWith
sealing_with_answers edition form p nonce ad m t out r after h =
    answers_seal edition form (rounds_known p) nonce ad m t out (seal_runs_with edition form p nonce ad t m) (sealing_with edition form p nonce ad t m) r after h

-- ---- opening
-- what an opening comes back with, where i is the number of the first failing check and n that of message bytes
pub record Answers (i n : ℕ) (out : List ℕ) (r : Answer) (after : List ℕ) : Type 0 where
  -- a check that fails gives its own number, and changes nothing
  pub stopped : (i ≡ 0 → ⊥) → (number_of r ≡ i) × (length_of r ≡ 0) × (after ≡ out)
  -- where none fails the answer is done or 7
  pub through : i ≡ 0 → (number_of r ≡ 0) ⊎ (number_of r ≡ 7)
  -- 7 leaves zeros over the message's bytes, and the rest as it was
  pub forged : number_of r ≡ 7 → (length_of r ≡ 0) × (after ≡ lay 0 (zeros n) out)

by_open : (c : Check) (n k : ℕ) (seal : List ℕ → List ℕ) (s out : List ℕ) (r : Answer) (after : List ℕ)
    → (stop_number c ≡ 7 → ⊥) → ((i : ℕ) → c ≡ Ok i → i ≡ n)
    → OpensBy c k seal s out r after → Answers (stop_number c) n out r after
by_open (Ok i) n k seal s out r after not7 at (accepted m, q, h, e) =
    record {
      stopped = λ z. absurd (z refl);
      through = λ z. inl (ap number_of h);
      forged = λ z. absurd (let done_is : number_of r ≡ 0 = ap number_of h in omega arith);
    }
by_open (Ok i) n k seal s out r after not7 at (refused, q, h, e) =
    record {
      stopped = λ z. absurd (z refl);
      through = λ z. inr (ap number_of h);
      forged = λ z. (ap length_of h, e ∙ ap (λ (j : ℕ). lay 0 (zeros j) out) (at i refl));
    }
by_open (Err x) n k seal s out r after not7 at p =
    record {
      stopped = λ z. (ap number_of p.0, refusal_length r (λ y. z (sym (ap number_of p.0) ∙ y)), p.1);
      through = λ z. absurd (never_0 x z);
      forged = λ z. absurd (not7 (sym (ap number_of p.0) ∙ z));
    }

-- the checks of opening
module _ (edition form : ℕ) (known : Bool) (nonce ad s : List ℕ) (t : ℕ) (out : List ℕ) where
  open_number : stop_number (call_check edition form known (length nonce) t (length ad) (open_next t (length s) (length out))) ≡ first_failing (open_checks edition form known nonce ad s t out)
  unfolding call_check
  open_number =
      number_of_lem (known_edition edition) (leb form (last_form edition)) known (from_to 1 15 (length nonce)) (from_to 4 16 t) (leb (length ad) 4096) (from_to t (16384 + t) (length s))
      (leb (length s - t) (length out)) (length s - t)

  pub open_not_7 : stop_number (call_check edition form known (length nonce) t (length ad) (open_next t (length s) (length out))) ≡ 7 → ⊥
  open_not_7 h =
      never_7 (known_edition edition) (leb form (last_form edition)) known (from_to 1 15 (length nonce)) (from_to 4 16 t) (leb (length ad) 4096) (from_to t (16384 + t) (length s))
      (leb (length s - t) (length out)) (sym open_number ∙ h)

  answers_open : (k : ℕ) (seal : List ℕ → List ℕ) (r : Answer) (after : List ℕ)
      → OpensBy (call_check edition form known (length nonce) t (length ad) (open_next t (length s) (length out))) k seal s out r after
      → Answers (first_failing (open_checks edition form known nonce ad s t out)) (length s - t) out r after
  answers_open k seal r after p =
      subst (λ (i : ℕ). Answers i (length s - t) out r after) open_number
      (by_open checks (length s - t) k seal s out r after open_not_7 written p)
    where
      checks : Check
      checks = call_check edition form known (length nonce) t (length ad) (open_next t (length s) (length out))

      Fits : Type 0
      Fits = OpenFits edition form known (length nonce) t (length ad) (length s) (length out)

      verdict : Verdict Fits (length s - t) checks
      verdict = open_verdict edition form known (length nonce) t (length ad) (length s) (length out)

      written : (i : ℕ) → checks ≡ Ok i → i ≡ length s - t
      written i h =
          let e = (sure verdict i h).1 in
          cc

pub opening_answers : (edition form : ℕ) (key nonce ad s : List ℕ) (t : ℕ) (out : List ℕ) (r : Answer) (after : List ℕ) → Opens edition form key nonce ad s t out r after
    → Answers (first_failing (open_checks edition form (key_known key) nonce ad s t out)) (length s - t) out r after
unfolding Opens
opening_answers edition form key nonce ad s t out r after p =
    answers_open edition form (key_known key) nonce ad s t out (open_runs edition form key nonce ad t s) (sealing edition form key nonce ad t) r after p

pub opening_with_answers : (edition form : ℕ) (p : Prepared) (nonce ad s : List ℕ) (t : ℕ) (out : List ℕ) (r : Answer) (after : List ℕ) → OpensWith edition form p nonce ad s t out r after
    → Answers (first_failing (open_checks edition form (rounds_known p) nonce ad s t out)) (length s - t) out r after
unfolding OpensWith
opening_with_answers edition form p nonce ad s t out r after h =
    answers_open edition form (rounds_known p) nonce ad s t out (open_runs_with edition form p nonce ad t s) (sealing_with edition form p nonce ad t) r after h

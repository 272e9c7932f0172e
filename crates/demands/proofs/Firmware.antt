-- The calls from C (document 02, wish 2), whose answer is the number alone: their promises decide, the whole answer follows from the
-- number, and what is ruled out by number and buffer stays ruled out. Assumes nothing.
use mathlib.Core.Path.{◌≡◌, sym, ap, subst, ◌∙◌}
use mathlib.Core.List.{List}
use Prim.Native.Nat.{ℕ, ◌+◌, ◌-◌}
use native.Mathlib.Omega.{arith}
use lib.ListN.{length}
use Rattle.std.specs.Prelude.{Ok}
use Rattle.mode.specs.Opening.{accepted, refused}
use Rattle.link.specs.Answers.{Answer, number_of, length_of, answer_of}
use Rattle.link.specs.Checks.{Check, known_key, seal_check, open_check}
use Rattle.link.specs.Promises.{sealing, seal_runs, open_runs, SealsBy, Seals, OpensBy, Opens}
use Rattle.link.proofs.Answers.{never_0, stands_for}
use Rattle.link.proofs.Verdicts.{Verdict, passes, stops, seal_verdict, open_verdict}
use Rattle.firmware.specs.Numbered.{Numbered}
use Rattle.demands.proofs.Decided.{seals_decided, opens_decided}
use Rattle.demands.proofs.Count.{Counts, sealing_counts, opening_counts}

-- ---- any promise P, with the number in the answer's place
module _ (P : Answer → List ℕ → Type 0) where
  -- where P decides, so does its number
  pub numbered_decided : ((r r' : Answer) (a a' : List ℕ) → P r a → P r' a' → (r ≡ r') × (a ≡ a'))
      → (n n' : ℕ) (a a' : List ℕ) → Numbered P n a → Numbered P n' a' → (n ≡ n') × (a ≡ a')
  numbered_decided decided n n' a a' (r, is, p) (r', is', p') =
      let same = decided r r' a a' p p' in
      (is ∙ ap number_of same.0 ∙ sym is', same.1)

  -- what P rules out by its number and its buffer, its number rules out too
  pub ruled_out : (Bad : ℕ → List ℕ → Type 0) → ((r : Answer) (a : List ℕ) → Bad (number_of r) a → P r a → ⊥)
      → (n : ℕ) (a : List ℕ) → Bad n a → Numbered P n a → ⊥
  ruled_out Bad never n a bad (r, is, p) = never r a (subst (λ (i : ℕ). Bad i a) is bad) p

  -- where P is done with n bytes and no other number of them, and lets the cipher run k times if it runs, the number stands for an
  -- answer that P allows
  pub from_number : (n k : ℕ) → ((r : Answer) (a : List ℕ) → P r a → number_of r ≡ 0 → length_of r ≡ n) → ((r : Answer) (a : List ℕ) → P r a → Counts k r)
      → (i : ℕ) (a : List ℕ) → Numbered P i a → P (answer_of i n k) a
  from_number n k long counts i a (r, is, p) =
      subst (λ (x : Answer). P x a) (stands_for r n k (long r a p) (counts r a p).ran ∙ ap (λ (j : ℕ). answer_of j n k) (sym is)) p

-- ---- what the checks let through is done with k bytes
module _ {Q : Type 0} {k : ℕ} (c : Check) (v : Verdict Q k c) (r : Answer) (a : List ℕ) where
  seal_long : (j : ℕ) (bytes out : List ℕ) → SealsBy c j bytes out r a → number_of r ≡ 0 → length_of r ≡ k
  seal_long j bytes out p z = go v
    where
      go : Verdict Q k c → length_of r ≡ k
      go (passes q e) = ap length_of (subst (λ (d : Check). SealsBy d j bytes out r a) e p).0
      go (stops x e) = absurd (never_0 x (sym (ap number_of (subst (λ (d : Check). SealsBy d j bytes out r a) e p).0) ∙ z))

  open_long : (j : ℕ) (seal : List ℕ → List ℕ) (s out : List ℕ) → OpensBy c j seal s out r a → number_of r ≡ 0 → length_of r ≡ k
  open_long j seal s out p z = go v
    where
      opened : OpensBy (Ok k) j seal s out r a → length_of r ≡ k
      opened (accepted m, q, h, w) = ap length_of h
      opened (refused, q, h, w) = absurd (let seven : number_of r ≡ 7 = ap number_of h in omega arith)

      go : Verdict Q k c → length_of r ≡ k
      go (passes q e) = opened (subst (λ (d : Check). OpensBy d j seal s out r a) e p)
      go (stops x e) = absurd (never_0 x (sym (ap number_of (subst (λ (d : Check). OpensBy d j seal s out r a) e p).0) ∙ z))

-- ---- the two calls
module _ (edition form : ℕ) (key nonce ad body : List ℕ) (t : ℕ) (out : List ℕ) where
  pub seal_decided : (n n' : ℕ) (a a' : List ℕ)
      → Numbered (Seals edition form key nonce ad body t out) n a → Numbered (Seals edition form key nonce ad body t out) n' a' → (n ≡ n') × (a ≡ a')
  seal_decided = numbered_decided (Seals edition form key nonce ad body t out) (seals_decided edition form key nonce ad body t out)

  pub open_decided : (n n' : ℕ) (a a' : List ℕ)
      → Numbered (Opens edition form key nonce ad body t out) n a → Numbered (Opens edition form key nonce ad body t out) n' a' → (n ≡ n') × (a ≡ a')
  open_decided = numbered_decided (Opens edition form key nonce ad body t out) (opens_decided edition form key nonce ad body t out)

  pub seal_answer : (n : ℕ) (a : List ℕ) → Numbered (Seals edition form key nonce ad body t out) n a
      → Seals edition form key nonce ad body t out (answer_of n (length body + t) (seal_runs edition form key nonce ad t body)) a
  unfolding Seals
  seal_answer =
      from_number (Seals edition form key nonce ad body t out) (length body + t) (seal_runs edition form key nonce ad t body)
      (λ r a. seal_long (seal_check edition form (length key) (length nonce) t (length ad) (length body) (length out))
      (seal_verdict edition form (known_key (length key)) (length nonce) t (length ad) (length body) (length out)) r a (seal_runs edition form key nonce ad t body) (sealing edition form key nonce ad t body) out)
      (λ r a. sealing_counts edition form key nonce ad t out r a body)

  pub open_answer : (n : ℕ) (a : List ℕ) → Numbered (Opens edition form key nonce ad body t out) n a
      → Opens edition form key nonce ad body t out (answer_of n (length body - t) (open_runs edition form key nonce ad t body)) a
  unfolding Opens
  open_answer =
      from_number (Opens edition form key nonce ad body t out) (length body - t) (open_runs edition form key nonce ad t body)
      (λ r a. open_long (open_check edition form (length key) (length nonce) t (length ad) (length body) (length out))
      (open_verdict edition form (known_key (length key)) (length nonce) t (length ad) (length body) (length out)) r a (open_runs edition form key nonce ad t body) (sealing edition form key nonce ad t) body out)
      (λ r a. opening_counts edition form key nonce ad t out r a body)

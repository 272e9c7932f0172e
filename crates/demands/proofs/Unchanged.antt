-- What does not change. A call in edition 3 is what a call was before the edition was named (document 02, wish 7). One in its parallel
-- form is what a call was before the form was named (wish 1); and where its nonce has at most 14 bytes it is what it was when check 2
-- ended at 14 and the nonce block was the tag byte, zeros, 01 and the nonce (wish 5). And besides the runs that it reports a call promises
-- what it did before there were any (wish 6). Assumes nothing.
use mathlib.Core.Path.{◌≡◌, refl, sym, ap, ap₂, ◌∙◌}
use mathlib.Core.Bool.{Bool, ◌&&◌, ◌||◌}
use mathlib.Core.Logic.{◌↔◌}
use mathlib.Core.List.{List}
use Prim.Native.Nat.{ℕ, ◌≤◌}
use native.Mathlib.Omega.{arith}
use lib.Dec.{eqb, leb}
use lib.ListN.{length}
use borrow.Author.Tests.{le-leb}
use Rattle.std.specs.Prelude.{Ok, Err}
use Rattle.lists.specs.Lay.{lay}
use Rattle.lists.specs.Zeros.{zeros}
use Rattle.aes.specs.Expansion.{aes}
use Rattle.mode.specs.Form.{form_of}
use Rattle.mode.specs.declared.edition.Form.TheVariants.{Parallel}
use Rattle.mode.specs.declared.edition.Edition.TheVariants.{V3}
use Rattle.mode.specs.Masks.{third}
use Rattle.mode.specs.Nonce.{format}
use Rattle.mode.specs.Sealing.{sealed, first_mask, into_tag, data_tag, otr}
use Rattle.mode.specs.Opening.{Opened, accepted, refused, Allowed}
use Rattle.mode.proofs.Data.{ta_was, ta_as_it_was}
use Rattle.mode.proofs.Format.{format_was, as_it_was}
use Rattle.passes.specs.Shown.{shown}
use Rattle.link.specs.Answers.{Answer, done, number_of, length_of, runs_of, answer_of}
use Rattle.link.specs.Checks.{Check, from_to, unless, known_key, known_rounds, call_check, seal_next, seal_check, open_next, open_check}
use Rattle.link.specs.Prepared.{cipher_of}
use Rattle.link.specs.Promises.{sealing, seal_runs, open_runs, SealsBy, Seals, opened_as, OpensBy, Opens, seal_runs_with, open_runs_with, SealsWith, OpensWith}
use Rattle.link.specs.declared.answer.Refusal.TheVariants.{Key, Nonce, Tag, Data, Form}
use Rattle.link.specs.declared.prepared.Prepared.{Prepared}
use Rattle.link.proofs.Answers.{parts}

-- ---- before the edition was named: what a message seals to, from a first mask q; and checks 8 and 1 to 4
abbrev pub otr_unnamed : (List ℕ → List ℕ) → List ℕ → ℕ → List ℕ → List ℕ → ℕ → List ℕ → List ℕ
otr_unnamed E q form nonce ad t m =
    let a = data_tag E q (V3 (form_of form)) ad in
    sealed E (third (first_mask (form_of form) (E (format t nonce)) a)) (into_tag (form_of form) a) t m

abbrev pub call_check_unnamed : ℕ → Bool → ℕ → ℕ → ℕ → Check → Check
call_check_unnamed form known nonce t ad next =
    unless (leb form 1) Form
    (unless known Key
    (unless (from_to 1 15 nonce) Nonce
    (unless (from_to 4 16 t) Tag
    (unless (leb ad 4096) Data next))))

module _ (form : ℕ) (nonce ad : List ℕ) (t : ℕ) (out : List ℕ) (r : Answer) (after : List ℕ) where
  pub seals_third : (key m : List ℕ)
      → Seals 3 form key nonce ad m t out r after
      ≡ SealsBy (call_check_unnamed form (known_key (length key)) (length nonce) t (length ad) (seal_next t (length m) (length out))) (seal_runs 3 form key nonce ad t m)
      (otr_unnamed (aes key) (aes key (zeros 16)) form nonce ad t m) out r after
  unfolding Seals call_check
  seals_third key m = refl

  pub opens_third : (key s : List ℕ)
      → Opens 3 form key nonce ad s t out r after
      ≡ OpensBy (call_check_unnamed form (known_key (length key)) (length nonce) t (length ad) (open_next t (length s) (length out))) (open_runs 3 form key nonce ad t s)
      (otr_unnamed (aes key) (aes key (zeros 16)) form nonce ad t) s out r after
  unfolding Opens call_check
  opens_third key s = refl

  pub seals_with_third : (p : Prepared) (m : List ℕ)
      → SealsWith 3 form p nonce ad m t out r after
      ≡ SealsBy (call_check_unnamed form (known_rounds p.rounds) (length nonce) t (length ad) (seal_next t (length m) (length out))) (seal_runs_with 3 form p nonce ad t m)
      (otr_unnamed (cipher_of p) p.zero form nonce ad t m) out r after
  unfolding SealsWith call_check
  seals_with_third p m = refl

  pub opens_with_third : (p : Prepared) (s : List ℕ)
      → OpensWith 3 form p nonce ad s t out r after
      ≡ OpensBy (call_check_unnamed form (known_rounds p.rounds) (length nonce) t (length ad) (open_next t (length s) (length out))) (open_runs_with 3 form p nonce ad t s)
      (otr_unnamed (cipher_of p) p.zero form nonce ad t) s out r after
  unfolding OpensWith call_check
  opens_with_third p s = refl

-- ---- before the form was named: what a message seals to, from the nonce block b; and checks 1 to 4, for nonces of at most k bytes
abbrev pub otr_was : (List ℕ → List ℕ) → List ℕ → List ℕ → ℕ → List ℕ → List ℕ
otr_was E b ad t m = sealed E (third (E b)) (ta_was E ad) t m

abbrev pub call_check_was : ℕ → ℕ → ℕ → ℕ → ℕ → Check → Check
call_check_was k key nonce t ad next =
    unless (eqb key 16 || (eqb key 24 || eqb key 32)) Key
    (unless (from_to 1 k nonce) Nonce
    (unless (from_to 4 16 t) Tag
    (unless (leb ad 4096) Data next)))

module _ (key nonce ad : List ℕ) (t : ℕ) (out : List ℕ) (r : Answer) (after : List ℕ) where
  -- the promises for nonces of at most k bytes, with the nonce block b; the runs are today's
  abbrev pub SealsWas : ℕ → List ℕ → List ℕ → Type 0
  SealsWas k b m =
      SealsBy (call_check_was k (length key) (length nonce) t (length ad) (seal_next t (length m) (length out))) (seal_runs 3 0 key nonce ad t m)
      (otr_was (aes key) b ad t m) out r after

  abbrev pub OpensWas : ℕ → List ℕ → List ℕ → Type 0
  OpensWas k b s =
      OpensBy (call_check_was k (length key) (length nonce) t (length ad) (open_next t (length s) (length out))) (open_runs 3 0 key nonce ad t s)
      (otr_was (aes key) b ad t) s out r after

  -- ---- the parallel form, before the form was named
  parallel_is : otr (aes key) (V3 Parallel) nonce ad t ≡ otr_was (aes key) (format t nonce) ad t
  parallel_is = ap (λ (a : List ℕ). sealed (aes key) (third (aes key (format t nonce))) a t) (ta_as_it_was (aes key) ad)

  pub seals_parallel : (m : List ℕ) → Seals 3 0 key nonce ad m t out r after ≡ SealsWas 15 (format t nonce) m
  unfolding Seals call_check
  seals_parallel m =
      ap
      (λ (seal : List ℕ → List ℕ). SealsBy (call_check_was 15 (length key) (length nonce) t (length ad) (seal_next t (length m) (length out))) (seal_runs 3 0 key nonce ad t m) (seal m) out r after)
      parallel_is

  pub opens_parallel : (s : List ℕ) → Opens 3 0 key nonce ad s t out r after ≡ OpensWas 15 (format t nonce) s
  unfolding Opens call_check
  opens_parallel s =
      ap
      (λ (seal : List ℕ → List ℕ). OpensBy (call_check_was 15 (length key) (length nonce) t (length ad) (open_next t (length s) (length out))) (open_runs 3 0 key nonce ad t s) seal s out r after)
      parallel_is

  -- ---- nonces of at most 14 bytes, before those of 15
  module _ (h : length nonce ≤ 14) where
    range_is : from_to 1 15 (length nonce) ≡ from_to 1 14 (length nonce)
    range_is = ap (λ (b : Bool). leb 1 (length nonce) && b) (le-leb (length nonce) 15 (omega arith) ∙ sym (le-leb (length nonce) 14 h))

    check_is : (next : Check) → call_check_was 15 (length key) (length nonce) t (length ad) next ≡ call_check_was 14 (length key) (length nonce) t (length ad) next
    check_is next = rw range_is

    otr_is : otr_was (aes key) (format t nonce) ad t ≡ otr_was (aes key) (format_was t nonce) ad t
    otr_is = ap (λ (b : List ℕ). otr_was (aes key) b ad t) (as_it_was t nonce h)

    pub seals_unchanged : (m : List ℕ) → Seals 3 0 key nonce ad m t out r after ≡ SealsWas 14 (format_was t nonce) m
    seals_unchanged m =
        seals_parallel m
        ∙ ap₂ (λ (c : Check) (seal : List ℕ → List ℕ). SealsBy c (seal_runs 3 0 key nonce ad t m) (seal m) out r after) (check_is (seal_next t (length m) (length out))) otr_is

    pub opens_unchanged : (s : List ℕ) → Opens 3 0 key nonce ad s t out r after ≡ OpensWas 14 (format_was t nonce) s
    opens_unchanged s =
        opens_parallel s
        ∙ ap₂ (λ (c : Check) (seal : List ℕ → List ℕ). OpensBy c (open_runs 3 0 key nonce ad t s) seal s out r after) (check_is (open_next t (length s) (length out))) otr_is

-- ---- before the runs were counted: number, length and buffer
same_parts : (r q : Answer) → number_of r ≡ number_of q → length_of r ≡ length_of q → runs_of r ≡ runs_of q → r ≡ q
same_parts r q i n k = parts r ∙ ap₂ (λ (a b : ℕ). answer_of a b (runs_of r)) i n ∙ ap (answer_of (number_of q) (length_of q)) k ∙ sym (parts q)

module _ (out : List ℕ) (i l : ℕ) (after : List ℕ) where
  abbrev pub SealsUncounted : Check → List ℕ → Type 0
  SealsUncounted (Ok n) bytes = (i ≡ 0) × (l ≡ n) × (after ≡ lay 0 bytes out)
  SealsUncounted (Err c) bytes = (i ≡ number_of (Err c)) × (l ≡ length_of (Err c)) × (after ≡ out)

  abbrev pub OpensUncounted : Check → (List ℕ → List ℕ) → List ℕ → Type 0
  OpensUncounted (Ok n) seal s = (o : Opened) × Allowed seal s o × ((i ≡ number_of (opened_as n 0 o)) × (l ≡ length_of (opened_as n 0 o))) × (after ≡ shown o n out)
  OpensUncounted (Err c) seal s = (i ≡ number_of (Err c)) × (l ≡ length_of (Err c)) × (after ≡ out)

-- what the runs are where the checks come to c
abbrev pub runs_at : Check → ℕ → ℕ
runs_at (Ok n) k = k
runs_at (Err c) k = runs_of (Err c)

module _ (k : ℕ) (out : List ℕ) (r : Answer) (after : List ℕ) where
  seals_split : (c : Check) (bytes : List ℕ)
      → SealsBy c k bytes out r after ↔ (SealsUncounted out (number_of r) (length_of r) after c bytes × (runs_of r ≡ runs_at c k))
  seals_split (Ok n) bytes =
      (λ p. ((ap number_of p.0, ap length_of p.0, p.1), ap runs_of p.0), λ (q, h). (same_parts r (done n k) q.0 q.1 h, q.2))
  seals_split (Err c) bytes =
      (λ p. ((ap number_of p.0, ap length_of p.0, p.1), ap runs_of p.0), λ (q, h). (same_parts r (Err c) q.0 q.1 h, q.2))

  opened_parts : (n : ℕ) (o : Opened)
      → (number_of (opened_as n k o) ≡ number_of (opened_as n 0 o)) × (length_of (opened_as n k o) ≡ length_of (opened_as n 0 o)) × (runs_of (opened_as n k o) ≡ k)
  opened_parts n (accepted m) = (refl, refl, refl)
  opened_parts n refused = (refl, refl, refl)

  opens_split : (c : Check) (seal : List ℕ → List ℕ) (s : List ℕ)
      → OpensBy c k seal s out r after ↔ (OpensUncounted out (number_of r) (length_of r) after c seal s × (runs_of r ≡ runs_at c k))
  opens_split (Ok n) seal s = (
    λ (o, q, h, e).
        let w = opened_parts n o in
        ((o, q, (ap number_of h ∙ w.0, ap length_of h ∙ w.1), e), ap runs_of h ∙ w.2),
    λ ((o, q, p, e), h).
        let w = opened_parts n o in
        (o, q, same_parts r (opened_as n k o) (p.0 ∙ sym w.0) (p.1 ∙ sym w.1) (h ∙ sym w.2), e),
  )
  opens_split (Err c) seal s =
      (λ p. ((ap number_of p.0, ap length_of p.0, p.1), ap runs_of p.0), λ (q, h). (same_parts r (Err c) q.0 q.1 h, q.2))

module _ (edition form : ℕ) (key nonce ad : List ℕ) (t : ℕ) (out : List ℕ) (r : Answer) (after : List ℕ) where
  pub seals_uncounted : (m : List ℕ)
      → Seals edition form key nonce ad m t out r after
      ↔ (SealsUncounted out (number_of r) (length_of r) after (seal_check edition form (length key) (length nonce) t (length ad) (length m) (length out)) (sealing edition form key nonce ad t m)
      × (runs_of r ≡ runs_at (seal_check edition form (length key) (length nonce) t (length ad) (length m) (length out)) (seal_runs edition form key nonce ad t m)))
  unfolding Seals
  seals_uncounted m =
      seals_split (seal_runs edition form key nonce ad t m) out r after (seal_check edition form (length key) (length nonce) t (length ad) (length m) (length out)) (sealing edition form key nonce ad t m)

  pub opens_uncounted : (s : List ℕ)
      → Opens edition form key nonce ad s t out r after
      ↔ (OpensUncounted out (number_of r) (length_of r) after (open_check edition form (length key) (length nonce) t (length ad) (length s) (length out)) (sealing edition form key nonce ad t) s
      × (runs_of r ≡ runs_at (open_check edition form (length key) (length nonce) t (length ad) (length s) (length out)) (open_runs edition form key nonce ad t s)))
  unfolding Opens
  opens_uncounted s =
      opens_split (open_runs edition form key nonce ad t s) out r after (open_check edition form (length key) (length nonce) t (length ad) (length s) (length out)) (sealing edition form key nonce ad t) s

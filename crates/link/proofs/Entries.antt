-- From the checks and the passes to the promises. Assumes nothing.
use mathlib.Core.Path.{◌≡◌, refl, sym, ap, ap₂, subst, fun_ext, ◌∙◌}
use mathlib.Core.Bool.{Bool, true, false, ◌||◌}
use mathlib.Core.Logic.{◌⊎◌, inl, inr}
use mathlib.Core.List.{List}
use Prim.Native.Nat.{ℕ, ◌+◌, ◌-◌, ◌≤◌}
use native.Mathlib.Omega.{arith}
use lib.Dec.{eqb}
use lib.ListN.{length}
use borrow.Author.Tests.{eqb-true}
use Rattle.lists.specs.Lay.{lay}
use Rattle.lists.specs.Zeros.{zeros}
use Rattle.aes.specs.Cipher.{cipher}
use Rattle.aes.specs.Expansion.{key_rounds, key_expansion, aes}
use Rattle.aes.specs.Key.{expanded_as, expansion_of, expanded}
use Rattle.aes.specs.Under.{cipher_under}
use Rattle.aes.specs.declared.key.RoundKeys.{RoundKeys}
use Rattle.aes.proofs.Keys.{Usable, usable, accepted as key_accepted}
use Rattle.mode.specs.Edition.{edition_of}
use Rattle.mode.specs.declared.edition.Edition.{Edition}
use Rattle.mode.specs.Masks.{IsCipher}
use Rattle.mode.specs.Data.{first_q, q_inputs, with_data}
use Rattle.mode.specs.Sealing.{data_tag, otr_from, from_inputs}
use Rattle.mode.specs.Opening.{Opened, accepted, refused, Allowed}
use Rattle.mode.specs.Undoing.{found_from, found_from_inputs}
use Rattle.mode.proofs.Otr.{otr_opens}
use Rattle.mode.proofs.Own.{own_otr, own_runs, own_found_runs}
use Rattle.passes.specs.Shown.{flag}
use Rattle.pairs.proofs.Cipher.{is_cipher, length-ta}
use Rattle.std.specs.Prelude.{Option, Some, Ok, Err, option_map, unwrap_or}
use Rattle.std.proofs.Math.Nat.{zero-add}
use Rattle.link.specs.Answers.{Answer, done}
use Rattle.link.specs.Checks.{Check, known_key, known_rounds, call_check, seal_next, open_next}
use Rattle.link.specs.Keys.{StandsFor}
use Rattle.link.specs.Prepared.{cipher_of, record_of}
use Rattle.link.specs.Promises.{sealing, seal_runs, open_runs, SealsBy, opened_as, OpensBy, sealing_with, seal_runs_with, open_runs_with}
use Rattle.link.specs.declared.answer.Refusal.{Refusal}
use Rattle.link.specs.declared.answer.Refusal.TheVariants.{Forged}
use Rattle.link.specs.declared.prepared.Prepared.{Prepared}
use Rattle.link.proofs.Known.{size_known, known_rounds_lem}
use Rattle.link.proofs.Verdicts.{sure, SealFits, OpenFits, seal_verdict, open_verdict}

-- ---- the checks, as an entry point goes by them: whether the key is known was looked at before, and k is what that gave
module _ (edition form : ℕ) {k known : Bool} (same : k ≡ known) (nonce t ad : ℕ) where
  pub looked_at : (next : Check) → call_check edition form k nonce t ad next ≡ call_check edition form known nonce t ad next
  looked_at next = ap (λ (b : Bool). call_check edition form b nonce t ad next) same

  -- where they stop, the call stops with their refusal, and the buffer stays
  pub seal_refused : (next : Check) (r : Refusal) → Err r ≡ call_check edition form k nonce t ad next
      → (j : ℕ) (bytes out : List ℕ) → SealsBy (call_check edition form known nonce t ad next) j bytes out (Err r) out
  seal_refused next r e j bytes out = subst (λ (c : Check). SealsBy c j bytes out (Err r) out) (e ∙ looked_at next) (refl, refl)

  pub open_refused : (next : Check) (r : Refusal) → Err r ≡ call_check edition form k nonce t ad next
      → (j : ℕ) (seal : List ℕ → List ℕ) (s out : List ℕ) → OpensBy (call_check edition form known nonce t ad next) j seal s out (Err r) out
  open_refused next r e j seal s out = subst (λ (c : Check). OpensBy c j seal s out (Err r) out) (e ∙ looked_at next) (refl, refl)

  -- where they pass, what they make sure of is known
  pub seal_admitted : (m o n : ℕ) → Ok n ≡ call_check edition form k nonce t ad (seal_next t m o)
      → SealFits edition form known nonce t ad m o × (call_check edition form known nonce t ad (seal_next t m o) ≡ Ok (m + t))
  seal_admitted m o n e = sure (seal_verdict edition form known nonce t ad m o) n (sym (e ∙ looked_at (seal_next t m o)))

  pub open_admitted : (s o n : ℕ) → Ok n ≡ call_check edition form k nonce t ad (open_next t s o)
      → OpenFits edition form known nonce t ad s o × (call_check edition form known nonce t ad (open_next t s o) ≡ Ok (s - t))
  open_admitted s o n e = sure (open_verdict edition form known nonce t ad s o) n (sym (e ∙ looked_at (open_next t s o)))

-- what the checks came to, and the runs and the bytes by other names
come_to_seal : (c : Check) (i : ℕ) → c ≡ Ok i → (j k : ℕ) (bytes bytes' out : List ℕ) (r : Answer) (after : List ℕ)
    → j ≡ k → bytes ≡ bytes' → SealsBy (Ok i) j bytes out r after → SealsBy c k bytes' out r after
come_to_seal c i come j k bytes bytes' out r after runs same p =
    subst (λ (x : Check). SealsBy x k bytes' out r after) (sym come) (p.0 ∙ ap (done i) runs, p.1 ∙ ap (λ (b : List ℕ). lay 0 b out) same)

come_to_open : (c : Check) (i : ℕ) → c ≡ Ok i → (j k : ℕ) (seal seal' : List ℕ → List ℕ) (s out : List ℕ) (r : Answer) (after : List ℕ)
    → j ≡ k → seal ≡ seal' → OpensBy (Ok i) j seal s out r after → OpensBy c k seal' s out r after
come_to_open c i come j k seal seal' s out r after runs same (o, a, is, b) =
    subst (λ (x : Check). OpensBy x k seal' s out r after) (sym come)
    (o, subst (λ (f : List ℕ → List ℕ). Allowed f s o) same a, is ∙ ap (λ (x : ℕ). opened_as i x o) runs, b)

-- ---- the key
-- one of two tests
pub either : (a b : Bool) → (a || b) ≡ true → (a ≡ true) ⊎ (b ≡ true)
either true b h = inl refl
either false b h = inr h

-- a round count that is known
pub counted : (n : ℕ) → known_rounds n ≡ true → (10 ≤ n) × (n ≤ 14)
counted n h = go (either (eqb n 10) (eqb n 12 || eqb n 14) h)
  where
    last : (eqb n 12 ≡ true) ⊎ (eqb n 14 ≡ true) → (10 ≤ n) × (n ≤ 14)
    last (inl e) = let is = eqb-true n 12 e in (omega arith, omega arith)
    last (inr e) = let is = eqb-true n 14 e in (omega arith, omega arith)

    go : (eqb n 10 ≡ true) ⊎ ((eqb n 12 || eqb n 14) ≡ true) → (10 ≤ n) × (n ≤ 14)
    go (inl e) = let is = eqb-true n 10 e in (omega arith, omega arith)
    go (inr e) = last (either (eqb n 12) (eqb n 14) e)

-- for a first mask the cipher runs once at most
pub one_at_most : (needed : Bool) → length (q_inputs needed) ≤ 1
one_at_most true = omega arith
one_at_most false = omega arith

module _ (key : List ℕ) (known : known_key (length key) ≡ true) where
  keyed : Usable key
  keyed =
      let s = size_known (length key) known in
      usable key s.0 s.1

  -- the round count that a call takes from its record, and the cipher under it
  pub rounds_in : (10 ≤ (expanded key).rounds) × ((expanded key).rounds ≤ 14)
  rounds_in = (omega (arith, keyed.rounds, keyed.least), omega (arith, keyed.rounds, keyed.most))

  pub rounds_known_lem : known_rounds (expanded key).rounds ≡ true
  rounds_known_lem = ap known_rounds keyed.rounds ∙ known_rounds_lem (length key) _ keyed.known

  -- it has round keys
  pub expands : expansion_of key ≡ Some (expanded key)
  unfolding expanded
  expands =
      let s = size_known (length key) known in
      let is = ap (option_map (expanded_as key)) s.1 in
      is ∙ ap Some (sym (ap (λ (o : Option RoundKeys). unwrap_or o (record { rounds = 0; words = zeros 240 })) is))

  pub cipher_is : cipher (expanded key).rounds (expanded key).words ≡ aes key
  cipher_is = fun_ext keyed.ciphers

  -- what f gives of a record of this key, its cipher and its first mask
  pub under_record : {A : Type 0} (f : (List ℕ → List ℕ) → List ℕ → A) (p : Prepared) (q : List ℕ) → p ≡ record_of key q → f (cipher_of p) p.zero ≡ f (aes key) q
  under_record f p q is = ap (λ (x : Prepared). f (cipher_of x) x.zero) is ∙ ap (λ (E : List ℕ → List ℕ). f E q) cipher_is

  -- the cipher and the first mask of its own that a call makes of a raw key stand for the key
  module _ (ad : List ℕ) (e : RoundKeys) (q : List ℕ) (n : ℕ) (is : e ≡ expanded key)
      (q_is : q ≡ first_q (cipher_under e) (with_data ad)) (n_is : n ≡ length (q_inputs (with_data ad))) where
    E_is : cipher_under e ≡ aes key
    E_is = ap cipher_under is ∙ cipher_is

    under_key : {A : Type 0} (f : (List ℕ → List ℕ) → List ℕ → A) → f (cipher_under e) q ≡ f (aes key) (first_q (aes key) (with_data ad))
    under_key f = ap₂ f E_is (q_is ∙ ap (λ (E : List ℕ → List ℕ). first_q E (with_data ad)) E_is)

    pub own_stands : StandsFor e q n ad (λ edition form. sealing edition form key) (λ edition form. seal_runs edition form key)
        (λ edition form. open_runs edition form key)
    own_stands =
        record {
          runs_most = rw n_is (one_at_most (with_data ad));
          seals_alike = λ edition form nonce t.
              under_key (λ E x. otr_from E x (edition_of edition form) nonce ad t) ∙ own_otr (aes key) (edition_of edition form) nonce t ad;
          seal_runs_alike = λ edition form nonce t m.
              ap₂ ◌+◌ n_is (under_key (λ E x. length (from_inputs E x (edition_of edition form) nonce ad t m)))
              ∙ own_runs (aes key) (edition_of edition form) nonce t ad m;
          open_runs_alike = λ edition form nonce t s.
              ap₂ ◌+◌ n_is (under_key (λ E x. length (found_from_inputs E x (edition_of edition form) nonce ad t s)))
              ∙ own_found_runs (aes key) (edition_of edition form) nonce t ad s;
        }

-- a record's own, with no runs, stand for the record
pub record_stands : (p : Prepared) (e : RoundKeys) (ad : List ℕ) → e ≡ record { rounds = p.rounds; words = p.words }
    → StandsFor e p.zero 0 ad (λ edition form. sealing_with edition form p) (λ edition form. seal_runs_with edition form p)
    (λ edition form. open_runs_with edition form p)
record_stands p e ad is =
    record {
      runs_most = omega arith;
      seals_alike = λ edition form nonce t. ap (λ (k : RoundKeys). otr_from (cipher_under k) p.zero (edition_of edition form) nonce ad t) is;
      seal_runs_alike = λ edition form nonce t m.
          zero-add _ ∙ ap (λ (k : RoundKeys). length (from_inputs (cipher_under k) p.zero (edition_of edition form) nonce ad t m)) is;
      open_runs_alike = λ edition form nonce t s.
          zero-add _ ∙ ap (λ (k : RoundKeys). length (found_from_inputs (cipher_under k) p.zero (edition_of edition form) nonce ad t s)) is;
    }

-- ---- under round keys and a first mask that stand for a key a call seals and opens as under the key. c is what the checks came to, i bytes
module _ {k : RoundKeys} {q : List ℕ} {n : ℕ} {ad : List ℕ} {seals : ℕ → ℕ → List ℕ → List ℕ → ℕ → List ℕ → List ℕ}
    {seal-runs open-runs : ℕ → ℕ → List ℕ → List ℕ → ℕ → List ℕ → ℕ} (h : StandsFor k q n ad seals seal-runs open-runs) (edition form : ℕ)
    (f : Edition) (f_is : f ≡ edition_of edition form) (nonce : List ℕ) (t : ℕ) where
  pub stands_seals : (c : Check) (i : ℕ) → c ≡ Ok i → (m out : List ℕ) (r : Answer) (after : List ℕ)
      → SealsBy (Ok i) (n + length (from_inputs (cipher_under k) q f nonce ad t m)) (otr_from (cipher_under k) q f nonce ad t m) out r after
      → SealsBy c (seal-runs edition form nonce ad t m) (seals edition form nonce ad t m) out r after
  stands_seals c i come m out r after p =
      let same = ap (λ (g : Edition). otr_from (cipher_under k) q g nonce ad t m) f_is ∙ ap (λ (g : List ℕ → List ℕ). g m) (h.seals_alike edition form nonce t) in
      let runs = ap (λ (g : Edition). n + length (from_inputs (cipher_under k) q g nonce ad t m)) f_is ∙ h.seal_runs_alike edition form nonce t m in
      come_to_seal c i come _ _ _ _ out r after runs same p

  pub stands_opens : (c : Check) (i : ℕ) → c ≡ Ok i → (s out : List ℕ) (r : Answer) (after : List ℕ)
      → OpensBy (Ok i) (n + length (found_from_inputs (cipher_under k) q f nonce ad t s)) (otr_from (cipher_under k) q f nonce ad t) s out r after
      → OpensBy c (open-runs edition form nonce ad t s) (seals edition form nonce ad t) s out r after
  stands_opens c i come s out r after p =
      let same = ap (λ (g : Edition). otr_from (cipher_under k) q g nonce ad t) f_is ∙ h.seals_alike edition form nonce t in
      let runs = ap (λ (g : Edition). n + length (found_from_inputs (cipher_under k) q g nonce ad t s)) f_is ∙ h.open_runs_alike edition form nonce t s in
      come_to_open c i come _ _ _ _ s out r after runs same p

-- so under the cipher and the first mask of its own a call with a raw key seals and opens as under the key
module _ (key : List ℕ) (known : known_key (length key) ≡ true) (edition form : ℕ) (nonce ad : List ℕ) (t : ℕ) (e : RoundKeys) (q : List ℕ) (n : ℕ)
    (is : e ≡ expanded key) (q_is : q ≡ first_q (cipher_under e) (with_data ad)) (n_is : n ≡ length (q_inputs (with_data ad))) where
  pub own_seals : (c : Check) (i : ℕ) → c ≡ Ok i → (m out : List ℕ) (r : Answer) (after : List ℕ)
      → SealsBy (Ok i) (n + length (from_inputs (cipher_under e) q (edition_of edition form) nonce ad t m)) (otr_from (cipher_under e) q (edition_of edition form) nonce ad t m) out r after
      → SealsBy c (seal_runs edition form key nonce ad t m) (sealing edition form key nonce ad t m) out r after
  own_seals = stands_seals (own_stands key known ad e q n is q_is n_is) edition form (edition_of edition form) refl nonce t

  pub own_opens : (c : Check) (i : ℕ) → c ≡ Ok i → (s out : List ℕ) (r : Answer) (after : List ℕ)
      → OpensBy (Ok i) (n + length (found_from_inputs (cipher_under e) q (edition_of edition form) nonce ad t s)) (otr_from (cipher_under e) q (edition_of edition form) nonce ad t) s out r after
      → OpensBy c (open_runs edition form key nonce ad t s) (sealing edition form key nonce ad t) s out r after
  own_opens = stands_opens (own_stands key known ad e q n is q_is n_is) edition form (edition_of edition form) refl nonce t

-- the round keys that a key has are its own, as many as a cipher takes
pub keys_are : (key : List ℕ) (k : RoundKeys) → expansion_of key ≡ Some k → (k ≡ expanded key) × ((10 ≤ k.rounds) × (k.rounds ≤ 14))
keys_are key k e =
    let a = key_accepted key k e in
    let rounds = ap (λ (x : RoundKeys). x.rounds) a.0 in
    (sym a.0, (omega (arith, rounds, a.1.rounds, a.1.least), omega (arith, rounds, a.1.rounds, a.1.most)))

pub aes_cipher : (key : List ℕ) → IsCipher (aes key)
unfolding aes
aes_cipher key = is_cipher (key_rounds key) (key_expansion key)

-- TA under it
pub aes_ta : (key : List ℕ) (f : Edition) (ad : List ℕ) → length (data_tag (aes key) (aes key (zeros 16)) f ad) ≡ 16
unfolding aes
aes_ta key f ad = length-ta (key_rounds key) (key_expansion key) (aes key (zeros 16)) f ad

-- ---- opening: what the passes find is what sealing allows, whatever the round keys and the first mask are
pub found_allowed : (e : RoundKeys) (q : List ℕ) (f : Edition) (nonce ad : List ℕ) (t : ℕ) (s : List ℕ) → length nonce ≤ 15 → t ≤ 16 → t ≤ length s
    → Allowed (otr_from (cipher_under e) q f nonce ad t) s (found_from (cipher_under e) q f nonce ad t s)
found_allowed e q f nonce ad t s nonces tags long =
    otr_opens (cipher_under e) (is_cipher e.rounds e.words) q f nonce ad t (length-ta e.rounds e.words q f ad) nonces tags s long

-- the answer, by the flag that the passes give
pub flag_done : (n k : ℕ) (o : Opened) → flag o ≡ true → done n k ≡ opened_as n k o
flag_done n k (accepted m) h = refl
flag_done n k refused h = absurd (let z : ◌≡◌ {A = ℕ} 0 1 = cc in omega arith)

pub flag_forged : (n k : ℕ) (o : Opened) → flag o ≡ false → Err (Forged k) ≡ opened_as n k o
flag_forged n k (accepted m) h = absurd (let z : ◌≡◌ {A = ℕ} 0 1 = cc in omega arith)
flag_forged n k refused h = refl

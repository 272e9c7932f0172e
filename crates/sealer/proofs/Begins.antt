-- From the checks to what beginning promises. Assumes nothing.
use mathlib.Core.Path.{◌≡◌, sym, ap, ap₂, ◌∙◌}
use mathlib.Core.Bool.{Bool}
use mathlib.Core.List.{List}
use Prim.Native.Nat.{ℕ, ◌+◌}
use lib.ListN.{length}
use Rattle.std.specs.Prelude.{Result, Ok, Err}
use Rattle.lists.specs.Zeros.{zeros}
use Rattle.aes.specs.Cipher.{cipher}
use Rattle.aes.specs.Key.{expanded}
use Rattle.aes.specs.Under.{cipher_under}
use Rattle.aes.specs.declared.key.RoundKeys.{RoundKeys}
use Rattle.block.specs.Block.{triple}
use Rattle.mode.specs.Form.{form_of}
use Rattle.mode.specs.declared.edition.Edition.TheVariants.{V3}
use Rattle.mode.specs.Data.{first_q, q_inputs, with_data}
use Rattle.mode.specs.Nonce.{format}
use Rattle.mode.specs.Sealing.{first_mask, into_tag, call_inputs}
use Rattle.mode.proofs.Own.{own_tag, own_call_runs}
use Rattle.link.specs.Answers.{done}
use Rattle.link.specs.Checks.{known_key, call_check}
use Rattle.link.specs.declared.answer.Refusal.{Refusal}
use Rattle.link.proofs.Verdicts.{Called, call_verdict, sure}
use Rattle.sealer.specs.declared.Sealer.{Sealer}
use Rattle.sealer.specs.declared.Step.{Step}
use Rattle.sealer.specs.Sealers.{begun_by, ended}
use Rattle.sealer.specs.Promises.{keyed, begin_by, beginning}

-- under the round keys e and from the first mask q, after j runs for it
abbrev pub started : RoundKeys → List ℕ → ℕ → ℕ → List ℕ → List ℕ → ℕ → Step
started e q j form nonce ad t =
    record {
      answer = done 0 (j + length (call_inputs (cipher_under e) q (V3 (form_of form)) nonce ad t));
      sealer = begun_by (cipher_under e) q e.rounds e.words form nonce ad t;
    }

-- k says whether the key is known
module _ (form : ℕ) (key nonce ad : List ℕ) (t : ℕ) {k : Bool} (same : k ≡ known_key (length key)) where
  checks : Bool → Result (Unit {0}) Refusal
  checks b = call_check 3 form b (length nonce) t (length ad) (Ok (tt {0}))

  -- refused: a sealer that has ended
  pub begin_refused : (r : Refusal) → Err r ≡ call_check 3 form k (length nonce) t (length ad) (Ok (tt {0}))
      → record { answer = Err r; sealer = ended } ≡ beginning cipher form key nonce ad t
  unfolding beginning checks
  begin_refused r e = ap (λ (c : Result (Unit {0}) Refusal). begin_by cipher c form key nonce ad t) (e ∙ ap checks same)

  begin_went_on : (u : Unit {0}) → Ok u ≡ call_check 3 form k (length nonce) t (length ad) (Ok (tt {0}))
      → Called 3 form (known_key (length key)) (length nonce) t (length ad) × (checks (known_key (length key)) ≡ Ok (tt {0}))
  unfolding checks
  begin_went_on u e = sure (call_verdict 3 form (known_key (length key)) (length nonce) t (length ad)) u (sym (e ∙ ap checks same))

  pub begin_fits : (u : Unit {0}) → Ok u ≡ call_check 3 form k (length nonce) t (length ad) (Ok (tt {0}))
      → Called 3 form (known_key (length key)) (length nonce) t (length ad)
  begin_fits u e = (begin_went_on u e).0

  -- under the cipher of its own that a call makes of the key it begins as the key does
  pub begin_passed : (u : Unit {0}) → Ok u ≡ call_check 3 form k (length nonce) t (length ad) (Ok (tt {0}))
      → (e : RoundKeys) (q : List ℕ) (n : ℕ) → e ≡ expanded key → q ≡ first_q (cipher_under e) (with_data ad) → n ≡ length (q_inputs (with_data ad))
      → started e q n form nonce ad t ≡ beginning cipher form key nonce ad t
  unfolding beginning checks
  begin_passed u went e q n is q_is n_is =
      ap (λ (x : List ℕ). started e x n form nonce ad t) q_is
      ∙ ap (λ (j : ℕ). started e (first_q (cipher_under e) (with_data ad)) j form nonce ad t) n_is
      ∙ ap (λ (x : RoundKeys). started x (first_q (cipher_under x) (with_data ad)) (length (q_inputs (with_data ad))) form nonce ad t) is
      ∙ ap₂ (λ (i : ℕ) (a : List ℕ). record { answer = done 0 i; sealer = with_tag a }) (own_call_runs E (V3 (form_of form)) nonce t ad) (own_tag E (V3 (form_of form)) nonce t ad)
      ∙ sym (ap (λ (c : Result (Unit {0}) Refusal). begin_by cipher c form key nonce ad t) (begin_went_on u went).1)
    where
      E : List ℕ → List ℕ
      E = keyed cipher key

      -- with TA a
      with_tag : List ℕ → Sealer
      with_tag a =
          let u = first_mask (form_of form) (E (format t nonce)) a in
          record {
            rounds = (expanded key).rounds;
            words = (expanded key).words;
            state = record { left = u; right = triple u; sum = zeros 16; kept = zeros 32 };
            added = into_tag (form_of form) a;
            tag = t;
            fed = 0;
          }

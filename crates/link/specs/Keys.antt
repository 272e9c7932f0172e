-- What sealing and opening are under a key that a call takes, raw or prepared, said of the round keys and the first mask that the call goes
-- by; no promise speaks of it.
use Rattle.std.specs.Prelude.{◌≡◌, List, ℕ, ◌+◌, ◌≤◌, length}
use Rattle.aes.specs.Under.{cipher_under}
use Rattle.aes.specs.declared.key.RoundKeys.{RoundKeys}
use Rattle.mode.specs.Edition.{edition_of}
use Rattle.mode.specs.Sealing.{otr_from, from_inputs}
use Rattle.mode.specs.Undoing.{found_from_inputs}

-- with the associated data ad a call under the round keys k, whose first mask is q, seals as `seals` does, and its runs, together with the
-- n for that mask, are `seal-runs` and `open-runs`, whatever else it names
pub record StandsFor (k : RoundKeys) (q : List ℕ) (n : ℕ) (ad : List ℕ) (seals : ℕ → ℕ → List ℕ → List ℕ → ℕ → List ℕ → List ℕ)
    (seal-runs open-runs : ℕ → ℕ → List ℕ → List ℕ → ℕ → List ℕ → ℕ) : Type 0 where
  pub runs_most : n ≤ 1
  pub seals_alike : (edition form : ℕ) (nonce : List ℕ) (t : ℕ)
      → otr_from (cipher_under k) q (edition_of edition form) nonce ad t ≡ seals edition form nonce ad t
  pub seal_runs_alike : (edition form : ℕ) (nonce : List ℕ) (t : ℕ) (m : List ℕ)
      → n + length (from_inputs (cipher_under k) q (edition_of edition form) nonce ad t m) ≡ seal-runs edition form nonce ad t m
  pub open_runs_alike : (edition form : ℕ) (nonce : List ℕ) (t : ℕ) (s : List ℕ)
      → n + length (found_from_inputs (cipher_under k) q (edition_of edition form) nonce ad t s) ≡ open-runs edition form nonce ad t s

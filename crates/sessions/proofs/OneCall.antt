-- The same with the cipher of FIPS 197, against the one call of `link`: the bytes and the runs of a session that has ended are those of
-- sealing at once. Assumes nothing.
use mathlib.Core.Path.{◌≡◌, sym, ap, ap₂, subst, ◌∙◌}
use mathlib.Core.List.{List}
use Prim.Native.Nat.{ℕ, ◌+◌}
use native.Mathlib.Omega.{arith}
use lib.ListN.{length, take, drop}
use lib.Seq.{take_at}
use Rattle.lists.specs.Zeros.{zeros}
use Rattle.aes.specs.Cipher.{cipher}
use Rattle.aes.specs.Expansion.{aes}
use Rattle.mode.specs.Form.{form_of}
use Rattle.mode.specs.declared.edition.Edition.TheVariants.{V3}
use Rattle.mode.specs.Sealing.{otr, otr_inputs}
use Rattle.mode.proofs.Otr.{length-otr}
use Rattle.pairs.proofs.Cipher.{is_cipher}
use Rattle.link.specs.Answers.{Answer, number_of, length_of, runs_of}
use Rattle.link.specs.Checks.{known_key}
use Rattle.link.specs.Promises.{sealing, seal_runs, Seals}
use Rattle.link.proofs.Verdicts.{sealing_done, seal_verdict}
use Rattle.link.proofs.Entries.{cipher_is, aes_cipher, aes_ta}
use Rattle.sealer.specs.declared.Sealer.{Sealer}
use Rattle.sealer.specs.Sealers.{ended}
use Rattle.sealer.specs.Promises.{beginning}
use Rattle.sessions.specs.Sessions.{Session, Came, goes_on, has_ended}
use Rattle.sessions.proofs.Sessions.{begun_with_lem, any_session}

module _ (form : ℕ) (key nonce ad : List ℕ) (t : ℕ) (yes : number_of (beginning cipher form key nonce ad t).answer ≡ 0) where
  pub session : (m o : List ℕ) (j : ℕ) (last : Sealer) → Session cipher (beginning cipher form key nonce ad t).sealer m o j last
      → Came (sealing 3 form key nonce ad t) (seal_runs 3 form key nonce ad t) m o (runs_of (beginning cipher form key nonce ad t).answer + j) last
  session m o j last h =
      subst (λ (E : List ℕ → List ℕ). Came (otr E (V3 (form_of form)) nonce ad t) (λ n. length (otr_inputs E (V3 (form_of form)) nonce ad t n)) m o (runs_of (beginning cipher form key nonce ad t).answer + j) last)
      (cipher_is key (begun_with_lem cipher is_cipher form key nonce ad t yes).0.known)
      (any_session cipher is_cipher form key nonce ad t yes m o j last h)

  -- what one call wrote, where it was done
  module _ (m out : List ℕ) (r : Answer) (after : List ℕ) where
    one_call : Seals 3 form key nonce ad m t out r after → number_of r ≡ 0
        → (take (length_of r) after ≡ sealing 3 form key nonce ad t m) × (runs_of r ≡ seal_runs 3 form key nonce ad t m)
    unfolding Seals
    one_call p z =
        let verdict = seal_verdict 3 form (known_key (length key)) (length nonce) t (length ad) (length m) (length out) in
        let done = sealing_done verdict (seal_runs 3 form key nonce ad t m) (sealing 3 form key nonce ad t m) out r after p z in
        let long : length (sealing 3 form key nonce ad t m) ≡ length m + t =
        length-otr (aes key) (aes_cipher key) (aes key (zeros 16)) (V3 (form_of form)) nonce ad t (aes_ta key (V3 (form_of form)) ad) done.0.0.nonces.1 done.0.0.tags.1 m in (
          ap₂ (λ (n : ℕ) (b : List ℕ). take n b) (ap length_of done.1) done.2
              ∙ take_at (sealing 3 form key nonce ad t m) (drop (0 + length (sealing 3 form key nonce ad t m)) out) (length m + t) long,
          ap runs_of done.1,
        )

    -- what a session that has ended wrote is what one call writes, and its runs are that call's
    pub as_one_call : (o : List ℕ) (j : ℕ) → Session cipher (beginning cipher form key nonce ad t).sealer m o j ended
        → Seals 3 form key nonce ad m t out r after → number_of r ≡ 0 → (o ≡ take (length_of r) after) × (runs_of (beginning cipher form key nonce ad t).answer + j ≡ runs_of r)
    as_one_call o j h p z = go (session m o j ended h)
      where
        one : (take (length_of r) after ≡ sealing 3 form key nonce ad t m) × (runs_of r ≡ seal_runs 3 form key nonce ad t m)
        one = one_call p z

        go : Came (sealing 3 form key nonce ad t) (seal_runs 3 form key nonce ad t) m o (runs_of (beginning cipher form key nonce ad t).answer + j) ended
            → (o ≡ take (length_of r) after) × (runs_of (beginning cipher form key nonce ad t).answer + j ≡ runs_of r)
        go (goes_on still long front) = absurd (let z : ◌≡◌ {A = ℕ} 0 1 = cc in omega arith)
        go (has_ended is bytes runs) = (bytes ∙ sym one.0, runs ∙ sym one.1)

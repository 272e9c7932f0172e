-- The promises decide: any two results that one of them allows for the same input are equal, answer with its runs and buffer, for
-- every input, under a raw key and under any record. Assumes nothing.
use mathlib.Core.Path.{◌≡◌, refl, sym, ap, ◌∙◌}
use mathlib.Core.Bool.{Bool}
use mathlib.Core.List.{List}
use Prim.Native.Nat.{ℕ}
use lib.ListN.{length}
use Rattle.std.specs.Prelude.{Ok, Err}
use Rattle.lists.specs.Zeros.{zeros}
use Rattle.aes.specs.Expansion.{aes}
use Rattle.mode.specs.Edition.{edition_of}
use Rattle.mode.specs.Masks.{IsCipher}
use Rattle.mode.specs.Sealing.{data_tag, otr_from}
use Rattle.mode.specs.Opening.{Opened, Allowed}
use Rattle.mode.proofs.Otr.{otr_one_answer}
use Rattle.passes.specs.Shown.{shown}
use Rattle.pairs.proofs.Cipher.{is_cipher, length-ta}
use Rattle.link.specs.Answers.{Answer}
use Rattle.link.specs.Checks.{Check, known_key, known_rounds, call_check, open_next, seal_check, seal_with_check}
use Rattle.link.specs.Prepared.{cipher_of}
use Rattle.link.specs.Promises.{sealing, seal_runs, open_runs, SealsBy, Seals, opened_as, OpensBy, Opens, sealing_with, seal_runs_with, open_runs_with, SealsWith, OpensWith}
use Rattle.link.specs.declared.prepared.Prepared.{Prepared}
use Rattle.link.proofs.Verdicts.{sure, open_verdict}
use Rattle.link.proofs.Entries.{aes_cipher, aes_ta}

-- ---- sealing
pub by_seal : (c : Check) (k : ℕ) (bytes out : List ℕ) (r r' : Answer) (a a' : List ℕ) → SealsBy c k bytes out r a → SealsBy c k bytes out r' a' → (r ≡ r') × (a ≡ a')
by_seal (Ok n) k bytes out r r' a a' p q = (p.0 ∙ sym q.0, p.1 ∙ sym q.1)
by_seal (Err x) k bytes out r r' a a' p q = (p.0 ∙ sym q.0, p.1 ∙ sym q.1)

pub seals_decided : (edition form : ℕ) (key nonce ad m : List ℕ) (t : ℕ) (out : List ℕ) (r r' : Answer) (a a' : List ℕ)
    → Seals edition form key nonce ad m t out r a → Seals edition form key nonce ad m t out r' a' → (r ≡ r') × (a ≡ a')
unfolding Seals
seals_decided edition form key nonce ad m t out =
    by_seal (seal_check edition form (length key) (length nonce) t (length ad) (length m) (length out)) (seal_runs edition form key nonce ad t m) (sealing edition form key nonce ad t m) out

pub seals_with_decided : (edition form : ℕ) (p : Prepared) (nonce ad m : List ℕ) (t : ℕ) (out : List ℕ) (r r' : Answer) (a a' : List ℕ)
    → SealsWith edition form p nonce ad m t out r a → SealsWith edition form p nonce ad m t out r' a' → (r ≡ r') × (a ≡ a')
unfolding SealsWith
seals_with_decided edition form p nonce ad m t out =
    by_seal (seal_with_check edition form p.rounds (length nonce) t (length ad) (length m) (length out)) (seal_runs_with edition form p nonce ad t m) (sealing_with edition form p nonce ad t m) out

-- ---- opening: where sealing allows one answer alone
by_open : (c : Check) (k : ℕ) (seal : List ℕ → List ℕ) (s out : List ℕ) → ((n : ℕ) → c ≡ Ok n → (o p : Opened) → Allowed seal s o → Allowed seal s p → o ≡ p)
    → (r r' : Answer) (a a' : List ℕ) → OpensBy c k seal s out r a → OpensBy c k seal s out r' a' → (r ≡ r') × (a ≡ a')
by_open (Ok n) k seal s out one r r' a a' p q =
    let same = one n refl p.0 q.0 p.1 q.1 in
    (p.2 ∙ ap (opened_as n k) same ∙ sym q.2, p.3 ∙ ap (λ (o : Opened). shown o n out) same ∙ sym q.3)
by_open (Err x) k seal s out one r r' a a' p q = (p.0 ∙ sym q.0, p.1 ∙ sym q.1)

-- as it does with any cipher, and any first mask with which TA has 16 bytes, once the checks have passed
module _ (E : List ℕ → List ℕ) (e : IsCipher E) (q : List ℕ) (edition form : ℕ) (known : Bool) (nonce ad s : List ℕ) (t : ℕ) (out : List ℕ)
    (h : length (data_tag E q (edition_of edition form) ad) ≡ 16) where
  checks : Check
  checks = call_check edition form known (length nonce) t (length ad) (open_next t (length s) (length out))

  one : (n : ℕ) → checks ≡ Ok n → (o p : Opened) → Allowed (otr_from E q (edition_of edition form) nonce ad t) s o → Allowed (otr_from E q (edition_of edition form) nonce ad t) s p → o ≡ p
  unfolding checks
  one n is =
      let f = (sure (open_verdict edition form known (length nonce) t (length ad) (length s) (length out)) n is).0 in
      otr_one_answer E e q (edition_of edition form) nonce ad t h f.0.nonces.1 f.0.tags.1 s

  opening_decided : (k : ℕ) (r r' : Answer) (a a' : List ℕ)
      → OpensBy (call_check edition form known (length nonce) t (length ad) (open_next t (length s) (length out))) k (otr_from E q (edition_of edition form) nonce ad t) s out r a
      → OpensBy (call_check edition form known (length nonce) t (length ad) (open_next t (length s) (length out))) k (otr_from E q (edition_of edition form) nonce ad t) s out r' a'
      → (r ≡ r') × (a ≡ a')
  unfolding checks
  opening_decided k = by_open checks k (otr_from E q (edition_of edition form) nonce ad t) s out one

pub opens_decided : (edition form : ℕ) (key nonce ad s : List ℕ) (t : ℕ) (out : List ℕ) (r r' : Answer) (a a' : List ℕ)
    → Opens edition form key nonce ad s t out r a → Opens edition form key nonce ad s t out r' a' → (r ≡ r') × (a ≡ a')
unfolding Opens
opens_decided edition form key nonce ad s t out =
    opening_decided (aes key) (aes_cipher key) (aes key (zeros 16)) edition form (known_key (length key)) nonce ad s t out (aes_ta key (edition_of edition form) ad) (open_runs edition form key nonce ad t s)

pub opens_with_decided : (edition form : ℕ) (p : Prepared) (nonce ad s : List ℕ) (t : ℕ) (out : List ℕ) (r r' : Answer) (a a' : List ℕ)
    → OpensWith edition form p nonce ad s t out r a → OpensWith edition form p nonce ad s t out r' a' → (r ≡ r') × (a ≡ a')
unfolding OpensWith
opens_with_decided edition form p nonce ad s t out =
    opening_decided (cipher_of p) (is_cipher p.rounds p.words) p.zero edition form (known_rounds p.rounds) nonce ad s t out
    (length-ta p.rounds p.words p.zero (edition_of edition form) ad) (open_runs_with edition form p nonce ad t s)

-- What sealing and opening promise, under a raw key and under a prepared one, for every input: the answer, with how many times the cipher
-- ran, and the complete output buffer.
use Rattle.std.specs.Prelude.{◌≡◌, List, ℕ, length, Ok, Err}
use Rattle.lists.specs.Lay.{lay}
use Rattle.aes.specs.Expansion.{aes}
use Rattle.mode.specs.Edition.{edition_of}
use Rattle.mode.specs.Sealing.{otr_from, from_inputs, otr, otr_inputs}
use Rattle.mode.specs.Opening.{Opened, accepted, refused, Allowed}
use Rattle.mode.specs.Undoing.{found_from_inputs, found_inputs}
use Rattle.passes.specs.Shown.{shown}
use Rattle.link.specs.Answers.{Answer, done}
use Rattle.link.specs.Checks.{Check, seal_check, seal_with_check, open_check, open_with_check}
use Rattle.link.specs.Prepared.{cipher_of}
use Rattle.link.specs.declared.answer.Refusal.TheVariants.{Forged}
use Rattle.link.specs.declared.prepared.Prepared.{Prepared}

-- AES-OTR in the edition and form named, over the AES of FIPS 197: what a message seals to
abbrev pub sealing : ℕ → ℕ → List ℕ → List ℕ → List ℕ → ℕ → List ℕ → List ℕ
sealing edition form key nonce ad t = otr (aes key) (edition_of edition form) nonce ad t

-- how many blocks that hands to the cipher; and opening, which goes over the sealed bytes s
abbrev pub seal_runs : ℕ → ℕ → List ℕ → List ℕ → List ℕ → ℕ → List ℕ → ℕ
seal_runs edition form key nonce ad t m = length (otr_inputs (aes key) (edition_of edition form) nonce ad t m)

abbrev pub open_runs : ℕ → ℕ → List ℕ → List ℕ → List ℕ → ℕ → List ℕ → ℕ
open_runs edition form key nonce ad t s = length (found_inputs (aes key) (edition_of edition form) nonce ad t s)

-- ---- sealing: the answer r and the buffer after, for the message m and the buffer out; k is the number of runs
abbrev pub SealsBy : Check → ℕ → List ℕ → List ℕ → Answer → List ℕ → Type 0
SealsBy (Ok n) k bytes out r after = (r ≡ done n k) × (after ≡ lay 0 bytes out)
SealsBy (Err c) k bytes out r after = (r ≡ Err c) × (after ≡ out)

unfoldable pub Seals : ℕ → ℕ → List ℕ → List ℕ → List ℕ → List ℕ → ℕ → List ℕ → Answer → List ℕ → Type 0
Seals edition form key nonce ad m t out r after =
    SealsBy (seal_check edition form (length key) (length nonce) t (length ad) (length m) (length out)) (seal_runs edition form key nonce ad t m)
    (sealing edition form key nonce ad t m) out r after

-- ---- opening, said by sealing alone but for the number of runs k: n message bytes come out of what sealing gives, and zeros where no
-- message seals to s
abbrev pub opened_as : ℕ → ℕ → Opened → Answer
opened_as n k (accepted m) = done n k
opened_as n k refused = Err (Forged k)

abbrev pub OpensBy : Check → ℕ → (List ℕ → List ℕ) → List ℕ → List ℕ → Answer → List ℕ → Type 0
OpensBy (Ok n) k seal s out r after = (o : Opened) × Allowed seal s o × (r ≡ opened_as n k o) × (after ≡ shown o n out)
OpensBy (Err c) k seal s out r after = (r ≡ Err c) × (after ≡ out)

-- the answer r and the buffer after, for the sealed bytes s and the buffer out
unfoldable pub Opens : ℕ → ℕ → List ℕ → List ℕ → List ℕ → List ℕ → ℕ → List ℕ → Answer → List ℕ → Type 0
Opens edition form key nonce ad s t out r after =
    OpensBy (open_check edition form (length key) (length nonce) t (length ad) (length s) (length out)) (open_runs edition form key nonce ad t s)
    (sealing edition form key nonce ad t) s out r after

-- ---- the same under any record p, made by `prepare` or not (document 02, wish 9): the cipher is that of the record, and the data pass's
-- first mask is the one that it holds
abbrev pub sealing_with : ℕ → ℕ → Prepared → List ℕ → List ℕ → ℕ → List ℕ → List ℕ
sealing_with edition form p nonce ad t = otr_from (cipher_of p) p.zero (edition_of edition form) nonce ad t

abbrev pub seal_runs_with : ℕ → ℕ → Prepared → List ℕ → List ℕ → ℕ → List ℕ → ℕ
seal_runs_with edition form p nonce ad t m = length (from_inputs (cipher_of p) p.zero (edition_of edition form) nonce ad t m)

abbrev pub open_runs_with : ℕ → ℕ → Prepared → List ℕ → List ℕ → ℕ → List ℕ → ℕ
open_runs_with edition form p nonce ad t s = length (found_from_inputs (cipher_of p) p.zero (edition_of edition form) nonce ad t s)

unfoldable pub SealsWith : ℕ → ℕ → Prepared → List ℕ → List ℕ → List ℕ → ℕ → List ℕ → Answer → List ℕ → Type 0
SealsWith edition form p nonce ad m t out r after =
    SealsBy (seal_with_check edition form p.rounds (length nonce) t (length ad) (length m) (length out)) (seal_runs_with edition form p nonce ad t m)
    (sealing_with edition form p nonce ad t m) out r after

unfoldable pub OpensWith : ℕ → ℕ → Prepared → List ℕ → List ℕ → List ℕ → ℕ → List ℕ → Answer → List ℕ → Type 0
OpensWith edition form p nonce ad s t out r after =
    OpensBy (open_with_check edition form p.rounds (length nonce) t (length ad) (length s) (length out)) (open_runs_with edition form p nonce ad t s)
    (sealing_with edition form p nonce ad t) s out r after

-- What beginning, feeding and ending promise, for every input and every sealer: the answer with how many times the cipher ran, the
-- complete sealer that comes back, and the complete output buffer. C is any cipher that goes by a round count and round keys, as `cipher`,
-- that of FIPS 197, does; the code's promises are those at `cipher`.
use Rattle.std.specs.Prelude.{◌≡◌, List, ◌++◌, ℕ, length, Result, Ok, Err}
use Rattle.lists.specs.Lay.{lay}
use Rattle.lists.specs.Zeros.{zeros}
use Rattle.aes.specs.Key.{expanded}
use Rattle.mode.specs.Form.{form_of}
use Rattle.mode.specs.declared.edition.Edition.TheVariants.{V3}
use Rattle.mode.specs.Data.{q_inputs, with_data}
use Rattle.mode.specs.Sealing.{call_inputs}
use Rattle.mode.specs.Feeding.{fed_bytes, fed_inputs, end_bytes, end_inputs}
use Rattle.link.specs.Answers.{done}
use Rattle.link.specs.Checks.{Check, known_key, call_check}
use Rattle.link.specs.declared.answer.Refusal.{Refusal}
use Rattle.sealer.specs.declared.Sealer.{Sealer}
use Rattle.sealer.specs.declared.Step.{Step}
use Rattle.sealer.specs.Sealers.{standing, begun_by, fed_by, ended, feed_check, end_check}

-- where the checks pass, n bytes are written after k runs and the sealer is `next`; where they stop, the very sealer s comes back, and the
-- buffer stays
abbrev pub StepBy : Check → ℕ → List ℕ → Sealer → Sealer → List ℕ → Step → List ℕ → Type 0
StepBy (Ok n) k bytes next s out r after = (r ≡ record { answer = done n k; sealer = next }) × (after ≡ lay 0 bytes out)
StepBy (Err c) k bytes next s out r after = (r ≡ record { answer = Err c; sealer = s }) × (after ≡ out)

module _ (C : ℕ → List ℕ → List ℕ → List ℕ) where
  -- ---- beginning, in edition 3: checks 8 and 1 to 4, and a sealer that was fed nothing. The blocks handed to the cipher are those of a
  -- call before its message pass
  abbrev pub keyed : List ℕ → List ℕ → List ℕ
  keyed key = C (expanded key).rounds (expanded key).words

  abbrev pub begun_with : ℕ → List ℕ → List ℕ → List ℕ → ℕ → Sealer
  begun_with form key nonce ad t =
      begun_by (keyed key) (keyed key (zeros 16)) (expanded key).rounds (expanded key).words form nonce ad t

  abbrev pub begin_runs : ℕ → List ℕ → List ℕ → List ℕ → ℕ → ℕ
  begin_runs form key nonce ad t =
      let E = keyed key in
      length (q_inputs (with_data ad) ++ call_inputs E (E (zeros 16)) (V3 (form_of form)) nonce ad t)

  abbrev pub begin_by : Result (Unit {0}) Refusal → ℕ → List ℕ → List ℕ → List ℕ → ℕ → Step
  begin_by (Ok u) form key nonce ad t =
      record { answer = done 0 (begin_runs form key nonce ad t); sealer = begun_with form key nonce ad t }
  begin_by (Err c) form key nonce ad t = record { answer = Err c; sealer = ended }

  unfoldable pub beginning : ℕ → List ℕ → List ℕ → List ℕ → ℕ → Step
  beginning form key nonce ad t =
      begin_by (call_check 3 form (known_key (length key)) (length nonce) t (length ad) (Ok (tt {0}))) form key nonce ad t

  -- ---- feeding the part x: the pairs that are due come out
  unfoldable pub Feeds : Sealer → List ℕ → List ℕ → Step → List ℕ → Type 0
  Feeds s x out r after =
      let E = C s.rounds s.words in
      StepBy (feed_check s.rounds s.tag s.fed (length x) (length out)) (length (fed_inputs E (standing s) x)) (fed_bytes E (standing s) x)
      (fed_by s x) s out r after

  -- ---- ending: the rest and the tag come out
  unfoldable pub Ends : Sealer → List ℕ → Step → List ℕ → Type 0
  Ends s out r after =
      let E = C s.rounds s.words in
      StepBy (end_check s.rounds s.tag s.fed (length out)) (length (end_inputs E (standing s))) (end_bytes E s.added s.tag (standing s))
      ended s out r after

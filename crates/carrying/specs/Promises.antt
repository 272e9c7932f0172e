-- What carrying promises, for every input: the answer with its side and with how many times the cipher ran, the complete output and the
-- complete work buffer. The record is opened as opening promises it: by sealing alone.
use Rattle.std.specs.Prelude.{◌≡◌, List, ℕ, ◌+◌, ◌-◌, length, Ok, Err}
use Rattle.lists.specs.Lay.{lay}
use Rattle.lists.specs.Zeros.{zeros}
use Rattle.mode.specs.Opening.{Opened, accepted, refused, Allowed}
use Rattle.link.specs.Answers.{done}
use Rattle.link.specs.Promises.{sealing, seal_runs, open_runs}
use Rattle.link.specs.declared.answer.Refusal.TheVariants.{Forged}
use Rattle.carrying.specs.Checks.{Settings, other, Sided, carry_check}
use Rattle.carrying.specs.declared.Carried.{Carried}
use Rattle.carrying.specs.declared.Side.TheVariants.{Neither, Old}

-- what a message seals to on a side; how many blocks that hands to the cipher; and opening the record s
module _ (edition : ℕ) (side : Settings) (t : ℕ) where
  abbrev pub sealing_on : List ℕ → List ℕ
  sealing_on = sealing edition side.form side.key side.nonce side.ad t

  abbrev pub seal_runs_on : List ℕ → ℕ
  seal_runs_on = seal_runs edition side.form side.key side.nonce side.ad t

  abbrev pub open_runs_on : List ℕ → ℕ
  open_runs_on = open_runs edition side.form side.key side.nonce side.ad t

-- ---- once the checks have passed: the record, of n bytes, was sealed of a message, which is then sealed anew; or of none, which is 7 on
-- the old side, and nothing is written. j are the runs of opening, k m those of sealing m anew
abbrev pub carried_as : ℕ → ℕ → (List ℕ → ℕ) → Opened → Carried
carried_as n j k (accepted m) = record { side = Neither; answer = done n (j + k m) }
carried_as n j k refused = record { side = Old; answer = Err (Forged j) }

abbrev pub written_as : (List ℕ → List ℕ) → Opened → List ℕ → List ℕ
written_as anew (accepted m) out = lay 0 (anew m) out
written_as anew refused out = out

-- ---- the answer r, the output `after` and the work buffer `cleared` when the call has ended, for the record s, and for the buffers out
-- and work before
module _ (edition : ℕ) (old : Settings) (t : ℕ) (s : List ℕ) (new : Settings) (out work : List ℕ) (r : Carried) (after cleared : List ℕ) where
  abbrev pub CarriesBy : Sided → Type 0
  CarriesBy (Ok u) =
      (o : Opened)
      × Allowed (sealing_on edition old t) s o
      × (r ≡ carried_as (length s) (open_runs_on edition old t s) (seal_runs_on (other edition) new t) o)
      × (after ≡ written_as (sealing_on (other edition) new t) o out)
      × (cleared ≡ lay 0 (zeros (length s - t)) work)
  CarriesBy (Err c) = (r ≡ record { side = c.side; answer = Err c.refusal }) × (after ≡ out) × (cleared ≡ work)

  unfoldable pub Carries : Type 0
  Carries = CarriesBy (carry_check edition old t s new out work)

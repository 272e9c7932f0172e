-- What an allowed result is: a refusal of the checks; or, once they have passed, a record carried over, or the refusal 7. Assumes nothing.
use mathlib.Core.Path.{◌≡◌, sym, subst, ◌∙◌}
use mathlib.Core.List.{List}
use Prim.Native.Nat.{ℕ, ◌+◌, ◌-◌}
use lib.ListN.{length}
use Rattle.lists.specs.Lay.{lay}
use Rattle.lists.specs.Zeros.{zeros}
use Rattle.mode.specs.Opening.{accepted, refused}
use Rattle.std.specs.Prelude.{Err}
use Rattle.link.specs.Answers.{done}
use Rattle.link.specs.declared.answer.Refusal.{Refusal}
use Rattle.link.specs.declared.answer.Refusal.TheVariants.{Forged}
use Rattle.carrying.specs.Checks.{Settings, other, passed, stopped, carry_check}
use Rattle.carrying.specs.Promises.{sealing_on, seal_runs_on, open_runs_on, CarriesBy, Carries}
use Rattle.carrying.specs.declared.Carried.{Carried}
use Rattle.carrying.specs.declared.Side.{Side}
use Rattle.carrying.specs.declared.Side.TheVariants.{Neither, Old}
use Rattle.carrying.proofs.Verdicts.{Came, through, held, Fits, carry_verdict, passed_or_stopped, passes_all}
use Rattle.carrying.proofs.SealedAnew.{sealing_injective}

module _ (edition : ℕ) (old : Settings) (t : ℕ) (s : List ℕ) (new : Settings) (out work : List ℕ) (r : Carried) (after cleared : List ℕ) where
  -- done: m was sealed to the record
  pub record Over (m : List ℕ) : Type 0 where
    pub seals : sealing_on edition old t m ≡ s
    pub answers : r ≡ record { side = Neither; answer = done (length s) (open_runs_on edition old t s + seal_runs_on (other edition) new t m) }
    pub writes : after ≡ lay 0 (sealing_on (other edition) new t m) out
    pub clears : cleared ≡ lay 0 (zeros (length s - t)) work

  -- 7: no message was
  pub record NotSealed : Type 0 where
    pub none : (m : List ℕ) → sealing_on edition old t m ≡ s → ⊥
    pub answers : r ≡ record { side = Old; answer = Err (Forged (open_runs_on edition old t s)) }
    pub leaves : after ≡ out
    pub clears : cleared ≡ lay 0 (zeros (length s - t)) work

  pub data Result : Type 0 where
    over : Fits edition old t (length s) new (length out) (length work) → (m : List ℕ) → Over m → Result
    forged : Fits edition old t (length s) new (length out) (length work) → NotSealed → Result
    refusal : (side : Side) (c : Refusal) → carry_check edition old t s new out work ≡ stopped side c
        → (r ≡ record { side = side; answer = Err c }) × (after ≡ out) × (cleared ≡ work) → Result

  pub result : Carries edition old t s new out work r after cleared → Result
  unfolding Carries
  result p = go (carry_verdict edition old t s new out work)
    where
      by : Fits edition old t (length s) new (length out) (length work) → CarriesBy edition old t s new out work r after cleared passed → Result
      by f (accepted m, a, is, b, c) = over f m (record { seals = a; answers = is; writes = b; clears = c })
      by f (refused, a, is, b, c) = forged f (record { none = a; answers = is; leaves = b; clears = c })

      go : Came (Fits edition old t (length s) new (length out) (length work)) (carry_check edition old t s new out work) → Result
      go (through f e) = by f (subst (CarriesBy edition old t s new out work r after cleared) e p)
      go (held side c e) = refusal side c e (subst (CarriesBy edition old t s new out work r after cleared) e p)

  -- a record that is known to be sealed of m, with all that the checks make sure of: m is carried over
  pub carried_from : Fits edition old t (length s) new (length out) (length work) → (m : List ℕ) → sealing_on edition old t m ≡ s → Carries edition old t s new out work r after cleared → Over m
  carried_from f m is p = go (result p)
    where
      go : Result → Over m
      go (over g n o) = subst Over (sealing_injective edition old t f.old_side.nonces.1 f.old_side.tags.1 n m (o.seals ∙ sym is)) o
      go (forged g o) = absurd (o.none m is)
      go (refusal side c e q) = absurd (passed_or_stopped side c (sym (passes_all edition old t s new out work f) ∙ e))

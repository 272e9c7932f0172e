-- From the checks, the opening and the sealing to what carrying promises. Assumes nothing.
use mathlib.Core.Path.{◌≡◌, refl, sym, ap, ap₂, subst, ◌∙◌}
use mathlib.Core.List.{List, ◌++◌}
use Prim.Native.Nat.{ℕ, ◌+◌, ◌-◌, ◌≤◌}
use native.Mathlib.Omega.{arith}
use lib.ListN.{length, take, length-append}
use Rattle.lists.specs.Lay.{lay}
use Rattle.lists.specs.Zeros.{zeros}
use Rattle.lists.proofs.Laid.{take-lay, lay_over}
use Rattle.lists.proofs.Zeros.{length-zeros}
use Rattle.aes.specs.Expansion.{aes}
use Rattle.mode.specs.Edition.{edition_of}
use Rattle.mode.specs.declared.edition.Edition.{Edition}
use Rattle.mode.specs.Data.{q_inputs, with_data}
use Rattle.mode.specs.Sealing.{from_inputs}
use Rattle.mode.specs.Opening.{Opened, accepted, refused, Allowed}
use Rattle.mode.specs.Undoing.{found_from_inputs}
use Rattle.mode.proofs.Otr.{length-otr, otr_injective, otr_one_answer}
use Rattle.mode.proofs.Runs.{length-from_inputs, length-found_from_inputs}
use Rattle.std.specs.Prelude.{Ok, Err}
use Rattle.link.specs.Answers.{Answer, done, length_of, runs_of}
use Rattle.link.specs.Checks.{Check, known_key}
use Rattle.link.specs.Promises.{SealsBy, Seals, OpensBy, Opens}
use Rattle.link.specs.declared.answer.Done.{Done}
use Rattle.link.proofs.Verdicts.{open_passes, seal_passes}
use Rattle.link.proofs.Entries.{one_at_most, aes_cipher, aes_ta}
use Rattle.carrying.specs.Checks.{Settings, other, passed, carry_check}
use Rattle.carrying.specs.Promises.{sealing_on, seal_runs_on, open_runs_on, CarriesBy, Carries}
use Rattle.carrying.specs.declared.check.Stopped.{Stopped}
use Rattle.carrying.specs.declared.Carried.{Carried}
use Rattle.carrying.specs.declared.Side.TheVariants.{Neither, Old}
use Rattle.carrying.proofs.Verdicts.{Came, through, held, Fits, carry_verdict, passed_or_stopped}

-- ---- a side within its limits
module _ (edition : ℕ) (side : Settings) (t : ℕ) (nonces : length side.nonce ≤ 15) (tags : t ≤ 16) where
  abbrev f : Edition
  f = edition_of edition side.form

  abbrev E : List ℕ → List ℕ
  E = aes side.key

  -- what a message seals to is longer by the tag, and is no other message's; and a record allows one answer alone
  pub sealed_long : (m : List ℕ) → length (sealing_on edition side t m) ≡ length m + t
  sealed_long = length-otr E (aes_cipher side.key) (E (zeros 16)) f side.nonce side.ad t (aes_ta side.key f side.ad) nonces tags

  pub sealing_injective : (m n : List ℕ) → sealing_on edition side t m ≡ sealing_on edition side t n → m ≡ n
  sealing_injective = otr_injective E (aes_cipher side.key) (E (zeros 16)) f side.nonce side.ad t (aes_ta side.key f side.ad) nonces tags

  pub one_answer : (s : List ℕ) (o p : Opened) → Allowed (sealing_on edition side t) s o → Allowed (sealing_on edition side t) s p → o ≡ p
  one_answer = otr_one_answer E (aes_cipher side.key) (E (zeros 16)) f side.nonce side.ad t (aes_ta side.key f side.ad) nonces tags

  -- there are at most 1,283 runs
  module _ (most : length side.ad ≤ 4096) where
    few : (others : List (List ℕ)) → length others ≤ 1282 → length (q_inputs (with_data side.ad) ++ others) ≤ 1283
    few others h = omega (arith, h, length-append (q_inputs (with_data side.ad)) others, one_at_most (with_data side.ad))

    seal_few : (m : List ℕ) → length m ≤ 16384 → seal_runs_on edition side t m ≤ 1283
    seal_few m h =
        few (from_inputs E (E (zeros 16)) f side.nonce side.ad t m) (omega (arith, h, most, length-from_inputs E (E (zeros 16)) f side.nonce side.ad t m))

    open_few : (s : List ℕ) → length s - t ≤ 16384 → open_runs_on edition side t s ≤ 1283
    open_few s h =
        few (found_from_inputs E (E (zeros 16)) f side.nonce side.ad t s) (omega (arith, h, most, length-found_from_inputs E (E (zeros 16)) f side.nonce side.ad t s))

-- an opening of the record s that is done, with n bytes and j runs: the message, and where it stands
pub record Found (edition : ℕ) (old : Settings) (t : ℕ) (s work : List ℕ) (n j : ℕ) (holds : List ℕ) : Type 0 where
  pub message : List ℕ
  pub seals : sealing_on edition old t message ≡ s
  pub long : length message ≡ n
  pub bytes : n ≡ length s - t
  pub runs : j ≡ open_runs_on edition old t s
  pub stands : holds ≡ lay 0 message work

module _ (edition : ℕ) (old : Settings) (t : ℕ) (s : List ℕ) (new : Settings) (out work : List ℕ) where
  -- ---- the checks: one that fails ends the call, and nothing is written; or they have passed
  pub carry_refused : (x : Stopped) → Err x ≡ carry_check edition old t s new out work
      → Carries edition old t s new out work (record { side = x.side; answer = Err x.refusal }) out work
  unfolding Carries
  carry_refused x e =
      subst (CarriesBy edition old t s new out work (record { side = x.side; answer = Err x.refusal }) out work) e (refl, refl, refl)

  pub come_to : carry_check edition old t s new out work ≡ passed → (r : Carried) (after cleared : List ℕ) → CarriesBy edition old t s new out work r after cleared passed
      → Carries edition old t s new out work r after cleared
  unfolding Carries
  come_to come r after cleared = subst (CarriesBy edition old t s new out work r after cleared) (sym come)

  pub fits_of : carry_check edition old t s new out work ≡ passed → Fits edition old t (length s) new (length out) (length work)
  fits_of come = go (carry_verdict edition old t s new out work)
    where
      go : Came (Fits edition old t (length s) new (length out) (length work)) (carry_check edition old t s new out work) → Fits edition old t (length s) new (length out) (length work)
      go (through f e) = f
      go (held side x e) = absurd (passed_or_stopped side x (sym come ∙ e))

  module _ (come : carry_check edition old t s new out work ≡ passed) where
    fits : Fits edition old t (length s) new (length out) (length work)
    fits = fits_of come

    -- ---- the opening
    opened : (r : Answer) (holds : List ℕ) → Opens edition old.form old.key old.nonce old.ad s t work r holds
        → OpensBy (Ok (length s - t)) (open_runs_on edition old t s) (sealing_on edition old t) s work r holds
    unfolding Opens
    opened r holds =
        subst (λ (c : Check). OpensBy c (open_runs_on edition old t s) (sealing_on edition old t) s work r holds)
        (open_passes edition old.form (known_key (length old.key)) (length old.nonce) t (length old.ad) fits.old_side (length s) (length work) fits.least fits.most fits.work_room)

    -- one that is not done is 7: no message was sealed to the record
    pub none_found : (r : Answer) (holds : List ℕ) → Opens edition old.form old.key old.nonce old.ad s t work r holds → ((d : Done) → r ≡ Ok d → ⊥)
        → CarriesBy edition old t s new out work (record { side = Old; answer = r }) out holds passed
    none_found r holds p not_done = go (opened r holds p)
      where
        go : OpensBy (Ok (length s - t)) (open_runs_on edition old t s) (sealing_on edition old t) s work r holds
            → CarriesBy edition old t s new out work (record { side = Old; answer = r }) out holds passed
        go (accepted m, a, is, b) = absurd (not_done (record { length = length s - t; runs = open_runs_on edition old t s }) is)
        go (refused, a, is, b) = (refused, a, ap (λ (x : Answer). record { side = Old; answer = x }) is, refl, b)

    pub found : (n j : ℕ) (holds : List ℕ) → Opens edition old.form old.key old.nonce old.ad s t work (done n j) holds → Found edition old t s work n j holds
    found n j holds p = go (opened (done n j) holds p)
      where
        go : OpensBy (Ok (length s - t)) (open_runs_on edition old t s) (sealing_on edition old t) s work (done n j) holds → Found edition old t s work n j holds
        go (accepted m, a, is, b) =
            let n_is : n ≡ length s - t = ap length_of is in
            let s_long : length s ≡ length m + t = sym (ap length a) ∙ sealed_long edition old t fits.old_side.nonces.1 fits.old_side.tags.1 m in
            record { message = m; seals = a; long = omega arith; bytes = n_is; runs = ap runs_of is; stands = b }
        go (refused, a, is, b) = absurd (cc)

    -- ---- the sealing anew of what was found, and the clearing
    module _ (n j : ℕ) (holds : List ℕ) (g : Found edition old t s work n j holds) where
      -- it stands in the work buffer
      pub within_work : n ≤ length work
      within_work = omega (arith, g.bytes, fits.work_room)

      fits_work : 0 + length g.message ≤ length work
      fits_work = omega (arith, g.long, within_work)

      front : take n holds ≡ g.message
      front =
          let place : n ≡ 0 + length g.message = omega (arith, g.long) in
          ap₂ take place g.stands ∙ take-lay 0 g.message work fits_work

      module _ (r : Answer) (after : List ℕ) (p : Seals (other edition) new.form new.key new.nonce new.ad (take n holds) t out r after) where
        anew : SealsBy (Ok (length g.message + t)) (seal_runs_on (other edition) new t g.message) (sealing_on (other edition) new t g.message) out r after
        unfolding Seals
        anew =
            subst (λ (c : Check). SealsBy c (seal_runs_on (other edition) new t g.message) (sealing_on (other edition) new t g.message) out r after)
            (seal_passes (other edition) new.form (known_key (length new.key)) (length new.nonce) t (length new.ad) fits.new_side (length g.message) (length out)
            (omega (arith, g.long, g.bytes, fits.most)) (omega (arith, g.long, g.bytes, fits.least, fits.room)))
            (subst (λ (m : List ℕ). Seals (other edition) new.form new.key new.nonce new.ad m t out r after) front p)

        pub few_runs : j + runs_of r ≤ 2566
        few_runs =
            omega (
              arith,
              g.runs,
              ap runs_of anew.0,
              open_few edition old t fits.old_side.nonces.1 fits.old_side.tags.1 fits.old_side.data_most s (omega (arith, fits.most)),
              seal_few (other edition) new t fits.new_side.nonces.1 fits.new_side.tags.1 fits.new_side.data_most g.message (omega (arith, g.long, g.bytes, fits.most)),
            )

        pub carried_over : (cleared : List ℕ) → cleared ≡ lay 0 (zeros n) holds
            → CarriesBy edition old t s new out work (record { side = Neither; answer = done (length s) (j + runs_of r) }) after cleared passed
        carried_over cleared is = (
          accepted g.message,
          g.seals,
          ap₂ (λ (i k : ℕ). record { side = Neither; answer = done (length s) (i + k) }) g.runs (ap runs_of anew.0),
          anew.1,
          is
              ∙ ap (lay 0 (zeros n)) g.stands
              ∙ lay_over g.message (zeros n) work (omega (arith, g.long, length-zeros n))
              ∙ ap (λ (k : ℕ). lay 0 (zeros k) work) g.bytes,
        )

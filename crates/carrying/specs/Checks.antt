-- Document 02, wish 8, carrying a record over to the other edition: its two sides, and its checks in their order. They go by the numbers
-- of the edition and the forms, by lengths alone, and 11 by the bytes of the keys.
use Rattle.std.specs.Prelude.{Bool, not, ◌&&◌, List, ℕ, zero, suc, ◌+◌, ◌-◌, leb, length, Result, Ok, Err}
use Rattle.lists.specs.Same.{same}
use Rattle.link.specs.Checks.{from_to, unless, known_key, call_check}
use Rattle.link.specs.declared.answer.Refusal.{Refusal}
use Rattle.link.specs.declared.answer.Refusal.TheVariants.{Length, Room, SameKey}
use Rattle.carrying.specs.declared.check.Stopped.{Stopped}
use Rattle.carrying.specs.declared.Side.{Side}
use Rattle.carrying.specs.declared.Side.TheVariants.{Neither, Old, New}

-- what a call names of a side. Its edition is named of the old side alone: that of the new one is the other; and both have the tag length
-- that is named once
pub record Settings : Type 0 where
  pub form : ℕ
  pub key : List ℕ
  pub nonce : List ℕ
  pub ad : List ℕ

abbrev pub settings : ℕ → List ℕ → List ℕ → List ℕ → Settings
settings form key nonce ad = record { form = form; key = key; nonce = nonce; ad = ad }

-- 3 for 1, and 1 for 3. No other number names an edition: check 10 refuses it, and no promise uses what stands here for it
abbrev pub other : ℕ → ℕ
other zero = 1
other (suc zero) = 3
other (suc (suc n)) = 1

-- the old side's checks 10, 8 and 1 to 5, for a record of s bytes
abbrev pub old_check : ℕ → ℕ → ℕ → ℕ → ℕ → ℕ → ℕ → Result (Unit {0}) Refusal
old_check edition form key nonce t ad s =
    call_check edition form (known_key key) nonce t ad (unless (from_to t (16384 + t) s) Length (Ok (tt {0})))

-- the new side's 8, 1, 2 and 4: those that all calls share, of which 10 and 3 pass here, as the other edition is one, and the tag length
-- is the old side's
abbrev pub new_check : ℕ → ℕ → ℕ → ℕ → ℕ → ℕ → Result (Unit {0}) Refusal
new_check edition form key nonce t ad = call_check (other edition) form (known_key key) nonce t ad (Ok (tt {0}))

-- 6, for an output of o bytes, which is to have room for the record sealed anew, and a work buffer of w, which is to have room for its
-- message; and 11, unless the keys are apart
abbrev pub room_check : ℕ → ℕ → ℕ → ℕ → Bool → Result (Unit {0}) Refusal
room_check t s o w apart = unless (leb s o && leb (s - t) w) Room (unless apart SameKey (Ok (tt {0})))

-- what all of them come to: they pass; or the first that fails stops the call, and its side is known
abbrev pub Sided : Type 0
Sided = Result (Unit {0}) Stopped

abbrev pub passed : Sided
passed = Ok (tt {0})

abbrev pub stopped : Side → Refusal → Sided
stopped side c = Err (record { side = side; refusal = c })

-- the checks of a side, and what comes after them
abbrev pub of : Side → Result (Unit {0}) Refusal → Sided → Sided
of side (Ok u) next = next
of side (Err c) next = stopped side c

unfoldable pub carry_check : ℕ → Settings → ℕ → List ℕ → Settings → List ℕ → List ℕ → Sided
carry_check edition old t s new out work =
    of Old (old_check edition old.form (length old.key) (length old.nonce) t (length old.ad) (length s))
    (of New (new_check edition new.form (length new.key) (length new.nonce) t (length new.ad))
    (of Neither (room_check t (length s) (length out) (length work) (not (same old.key new.key))) passed))

-- What the checks of carrying come to: they pass, and then both sides are within their limits, there is room, and the keys differ; or the
-- first that fails stops the call, with its side. Assumes nothing.
use mathlib.Core.Path.{◌≡◌, refl, sym, ap, ◌∙◌}
use mathlib.Core.Bool.{Bool, true, false, not, ◌&&◌}
use mathlib.Core.List.{List}
use Prim.Native.Nat.{ℕ, ◌+◌, ◌-◌, ◌≤◌}
use native.Mathlib.Omega.{arith}
use lib.Dec.{leb}
use lib.ListN.{length}
use borrow.Author.Tests.{leb-true, le-leb}
use Rattle.lists.specs.Same.{same}
use Rattle.std.specs.Prelude.{Result, Ok}
use Rattle.link.specs.Checks.{from_to, unless, known_key}
use Rattle.link.specs.declared.answer.Refusal.{Refusal}
use Rattle.link.specs.declared.answer.Refusal.TheVariants.{Length, Room, SameKey}
use Rattle.link.proofs.Verdicts.{Verdict, passes, stops, checked, and_true, within, in_range, Called, then_verdict, call_verdict, lets_by_all}
use Rattle.carrying.specs.Checks.{Settings, other, old_check, new_check, room_check, Sided, passed, stopped, of, carry_check}
use Rattle.carrying.specs.declared.Side.{Side}
use Rattle.carrying.specs.declared.Side.TheVariants.{Neither, Old, New}

-- ---- the checks of each side
abbrev pub OldFits : ℕ → ℕ → ℕ → ℕ → ℕ → ℕ → ℕ → Type 0
OldFits edition form key nonce t ad s = Called edition form (known_key key) nonce t ad × (t ≤ s) × (s ≤ 16384 + t)

pub old_verdict : (edition form key nonce t ad s : ℕ) → Verdict (OldFits edition form key nonce t ad s) (tt {0}) (old_check edition form key nonce t ad s)
old_verdict edition form key nonce t ad s =
    then_verdict edition form (known_key key) nonce t ad (OldFits edition form key nonce t ad s) (tt {0}) (unless (from_to t (16384 + t) s) Length (Ok (tt {0}))) λ h.
    checked (from_to t (16384 + t) s) Length λ l.
    passes (h, (within t (16384 + t) s l).0, (within t (16384 + t) s l).1) refl

pub new_verdict : (edition form key nonce t ad : ℕ) → Verdict (Called (other edition) form (known_key key) nonce t ad) (tt {0}) (new_check edition form key nonce t ad)
new_verdict edition form key nonce t ad = call_verdict (other edition) form (known_key key) nonce t ad

pub room_verdict : (t s o w : ℕ) (apart : Bool) → Verdict ((s ≤ o) × (s - t ≤ w) × (apart ≡ true)) (tt {0}) (room_check t s o w apart)
room_verdict t s o w apart =
    checked (leb s o && leb (s - t) w) Room λ l.
    checked apart SameKey λ a.
    let both = and_true (leb s o) (leb (s - t) w) l in
    passes (leb-true s o both.0, leb-true (s - t) w both.1, a) refl

-- ---- all of them
pub passed_or_stopped : (side : Side) (c : Refusal) → passed ≡ stopped side c → ⊥
passed_or_stopped side c e = let z : ◌≡◌ {A = ℕ} 0 1 = cc in omega arith

pub data Came (P : Type 0) (c : Sided) : Type 0 where
  through : P → c ≡ passed → Came P c
  held : (side : Side) (r : Refusal) → c ≡ stopped side r → Came P c

came : {P Q : Type 0} {n : Unit {0}} {c : Result (Unit {0}) Refusal} {next : Sided} (side : Side) → Verdict P n c → (P → Came Q next) → Came Q (of side c next)
came {Q = Q} {c = c} {next = next} side (passes p e) f = go (f p)
  where
    is : of side c next ≡ next
    is = ap (λ (d : Result (Unit {0}) Refusal). of side d next) e

    go : Came Q next → Came Q (of side c next)
    go (through q h) = through q (is ∙ h)
    go (held x r h) = held x r (is ∙ h)
came {next = next} side (stops r e) f = held side r (ap (λ (d : Result (Unit {0}) Refusal). of side d next) e)

-- what they make sure of
pub record Fits (edition : ℕ) (old : Settings) (t s : ℕ) (new : Settings) (out work : ℕ) : Type 0 where
  pub old_side : Called edition old.form (known_key (length old.key)) (length old.nonce) t (length old.ad)
  pub least : t ≤ s
  pub most : s ≤ 16384 + t
  pub new_side : Called (other edition) new.form (known_key (length new.key)) (length new.nonce) t (length new.ad)
  pub room : s ≤ out
  pub work_room : s - t ≤ work
  pub keys_differ : same old.key new.key ≡ false

not_so : (b : Bool) → not b ≡ true → b ≡ false
not_so true h = sym h
not_so false h = refl

module _ (edition : ℕ) (old : Settings) (t : ℕ) (s : List ℕ) (new : Settings) (out work : List ℕ) where
  pub carry_verdict : Came (Fits edition old t (length s) new (length out) (length work)) (carry_check edition old t s new out work)
  unfolding carry_check
  carry_verdict =
      came Old (old_verdict edition old.form (length old.key) (length old.nonce) t (length old.ad) (length s)) λ o.
      came New (new_verdict edition new.form (length new.key) (length new.nonce) t (length new.ad)) λ n.
      came Neither (room_verdict t (length s) (length out) (length work) (not (same old.key new.key))) λ r.
      through
      (record {
        old_side = o.0;
        least = o.1;
        most = o.2;
        new_side = n;
        room = r.0;
        work_room = r.1;
        keys_differ = not_so (same old.key new.key) r.2;
      })
      refl

  -- where all of that is so, they pass
  pub passes_all : Fits edition old t (length s) new (length out) (length work) → carry_check edition old t s new out work ≡ passed
  unfolding carry_check
  passes_all f =
      rw (
        lets_by_all edition old.form (known_key (length old.key)) (length old.nonce) t (length old.ad) f.old_side (unless (from_to t (16384 + t) (length s)) Length (Ok (tt {0}))),
        lets_by_all (other edition) new.form (known_key (length new.key)) (length new.nonce) t (length new.ad) f.new_side (Ok (tt {0})),
        in_range t (16384 + t) (length s) f.least f.most,
        le-leb (length s) (length out) f.room,
        le-leb (length s - t) (length work) f.work_room,
        f.keys_differ,
      )

-- ---- the checks of a side, as the code runs them: where they pass, what they make sure of is known
pub sure_of : {P : Type 0} {n : Unit {0}} {c : Result (Unit {0}) Refusal} (side : Side) → Verdict P n c → (u : Unit {0}) → Ok u ≡ of side c passed → P
sure_of side (passes p e) u h = p
sure_of side (stops r e) u h = absurd (passed_or_stopped side r (h ∙ ap (λ (d : Result (Unit {0}) Refusal). of side d passed) e))

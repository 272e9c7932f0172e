-- Document 02, wish 8: where carrying over answers 0, carrying back with the sides exchanged and enough room answers 0 and returns the
-- first record exactly. Assumes nothing.
use mathlib.Core.Path.{◌≡◌, sym, ap, subst, ◌∙◌}
use mathlib.Core.Bool.{true, false}
use mathlib.Core.Logic.{◌⊎◌, inl, inr}
use mathlib.Core.List.{List}
use Prim.Native.Nat.{ℕ, ◌+◌, ◌-◌, ◌≤◌}
use native.Mathlib.Omega.{arith}
use lib.Dec.{eqb}
use lib.ListN.{length, take}
use borrow.Author.Tests.{eqb-true}
use Rattle.lists.specs.Lay.{lay}
use Rattle.lists.specs.Same.{same}
use Rattle.lists.specs.Zeros.{zeros}
use Rattle.lists.proofs.Laid.{take-lay}
use Rattle.lists.proofs.Same.{same_false, not_same}
use Rattle.link.specs.Answers.{number_of, length_of}
use Rattle.link.specs.Checks.{known_edition, known_key}
use Rattle.link.proofs.Verdicts.{Called}
use Rattle.link.proofs.Entries.{either}
use Rattle.carrying.specs.Checks.{Settings, other}
use Rattle.carrying.specs.Promises.{sealing_on, Carries}
use Rattle.carrying.specs.declared.Carried.{Carried}
use Rattle.carrying.specs.declared.Side.TheVariants.{Neither}
use Rattle.carrying.proofs.Verdicts.{Fits}
use Rattle.carrying.proofs.SealedAnew.{sealed_long}
use Rattle.carrying.proofs.Results.{carried_from}
use Rattle.demands.proofs.CarryOver.{is_over}

-- the other edition's other is the edition itself
twice : (edition : ℕ) → known_edition edition ≡ true → other (other edition) ≡ edition
twice edition h = go (either (eqb edition 1) (eqb edition 3) h)
  where
    go : (eqb edition 1 ≡ true) ⊎ (eqb edition 3 ≡ true) → other (other edition) ≡ edition
    go (inl e) = let is = eqb-true edition 1 e in ap (λ (x : ℕ). other (other x)) is ∙ sym is
    go (inr e) = let is = eqb-true edition 3 e in ap (λ (x : ℕ). other (other x)) is ∙ sym is

-- what carrying back comes to, from the buffers out and work: done on neither side, with the record s in front of the output, and zeros
-- over its message's length in the work buffer
pub record Returned (t : ℕ) (s out work : List ℕ) (r : Carried) (after cleared : List ℕ) : Type 0 where
  pub neither : r.side ≡ Neither
  pub done : number_of r.answer ≡ 0
  pub long : length_of r.answer ≡ length s
  pub writes : after ≡ lay 0 s out
  pub clears : cleared ≡ lay 0 (zeros (length s - t)) work

module _ (edition : ℕ) (old : Settings) (t : ℕ) (s : List ℕ) (new : Settings) where
  -- the message m was carried over to s' = what the new side seals of it
  module _ (m : List ℕ) (is_sealed : sealing_on edition old t m ≡ s) (s' : List ℕ) (anew : s' ≡ sealing_on (other edition) new t m)
      (old_side : Called edition old.form (known_key (length old.key)) (length old.nonce) t (length old.ad))
      (new_side : Called (other edition) new.form (known_key (length new.key)) (length new.nonce) t (length new.ad))
      (apart : same old.key new.key ≡ false) (least : t ≤ length s) (most : length s ≤ 16384 + t) where
    long_too : length s' ≡ length s
    long_too =
        ap length anew
        ∙ sealed_long (other edition) new t new_side.nonces.1 new_side.tags.1 m
        ∙ sym (sealed_long edition old t old_side.nonces.1 old_side.tags.1 m)
        ∙ ap length is_sealed

    same_edition : other (other edition) ≡ edition
    same_edition = twice edition old_side.editions

    module _ (out work : List ℕ) (room : length s ≤ length out) (work_room : length s - t ≤ length work) (r : Carried) (after cleared : List ℕ) where
      fits_back : Fits (other edition) new t (length s') old (length out) (length work)
      fits_back =
          record {
            old_side = new_side;
            least = omega (arith, long_too, least);
            most = omega (arith, long_too, most);
            new_side = subst (λ (e : ℕ). Called e old.form (known_key (length old.key)) (length old.nonce) t (length old.ad)) (sym same_edition) old_side;
            room = omega (arith, long_too, room);
            work_room = omega (arith, long_too, work_room);
            keys_differ = not_same new.key old.key (λ e. same_false old.key new.key apart (sym e));
          }

      back : Carries (other edition) new t s' old out work r after cleared → Returned t s out work r after cleared
      back p =
          let o = carried_from (other edition) new t s' old out work r after cleared fits_back m (sym anew) p in
          record {
            neither = ap (λ (x : Carried). x.side) o.answers;
            done = ap (λ (x : Carried). number_of x.answer) o.answers;
            long = ap (λ (x : Carried). length_of x.answer) o.answers ∙ long_too;
            writes = o.writes ∙ ap (λ (e : ℕ). lay 0 (sealing_on e old t m) out) same_edition ∙ ap (λ (x : List ℕ). lay 0 x out) is_sealed;
            clears = o.clears ∙ ap (λ (n : ℕ). lay 0 (zeros (n - t)) work) long_too;
          }

  -- the record that was carried over is the first `length s` bytes of the output
  pub carried_back : (out work : List ℕ) (r : Carried) (after cleared : List ℕ) → Carries edition old t s new out work r after cleared → number_of r.answer ≡ 0
      → (out' work' : List ℕ) → length s ≤ length out' → length s - t ≤ length work'
      → (r' : Carried) (after' cleared' : List ℕ) → Carries (other edition) new t (take (length s) after) old out' work' r' after' cleared'
      → Returned t s out' work' r' after' cleared'
  carried_back out work r after cleared p z out' work' room work_room r' after' cleared' =
      let (f, m, o) = is_over edition old t s new out work r after cleared p z in
      let anew = sealing_on (other edition) new t m in
      let long : length s ≡ 0 + length anew =
      omega (
        arith,
        ap length o.seals,
        sealed_long edition old t f.old_side.nonces.1 f.old_side.tags.1 m,
        sealed_long (other edition) new t f.new_side.nonces.1 f.new_side.tags.1 m,
      ) in
      let front : take (length s) after ≡ anew = ap (take (length s)) o.writes ∙ ap (λ (n : ℕ). take n (lay 0 anew out)) long ∙ take-lay 0 anew out (omega (arith, f.room, long)) in
      back m o.seals (take (length s) after) front f.old_side f.new_side f.keys_differ f.least f.most out' work' room work_room r' after' cleared'

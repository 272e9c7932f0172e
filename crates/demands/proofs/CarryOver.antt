-- Document 02, wish 8, as statements about the promise of carrying: it decides; its answers come in the fixed order, with their sides; what
-- was carried over is what the other edition seals of the one message that sealed to the record; and carrying back returns the record.
-- Assumes nothing.
use mathlib.Core.Path.{◌≡◌, refl, sym, ap, ap₂, ◌∙◌}
use mathlib.Core.Bool.{Bool, true, false, not, ◌&&◌}
use mathlib.Core.Logic.{◌⊎◌, inl, inr, ◌↔◌}
use mathlib.Core.List.{List, [], ◌∷◌}
use Prim.Native.Nat.{ℕ, zero, suc, ◌+◌, ◌-◌, ◌≤◌}
use native.Mathlib.Omega.{arith}
use lib.Dec.{leb}
use lib.ListN.{length}
use Rattle.std.specs.Prelude.{Ok, Err}
use Rattle.lists.specs.Lay.{lay}
use Rattle.lists.specs.Same.{same}
use Rattle.lists.specs.Zeros.{zeros}
use Rattle.lists.proofs.Same.{not_same}
use Rattle.mode.specs.Edition.{edition_of}
use Rattle.mode.specs.Opening.{Opened, Allowed}
use Rattle.link.specs.Answers.{number_of, length_of, runs_of}
use Rattle.link.specs.Checks.{from_to, unless, known_edition, last_form, known_key, call_check}
use Rattle.link.specs.declared.answer.Refusal.{Refusal}
use Rattle.link.specs.declared.answer.Refusal.TheVariants.{Key, Nonce, Tag, Data, Length, Room, Form, Edition, SameKey}
use Rattle.link.proofs.Answers.{never_0, no_runs}
use Rattle.carrying.specs.Checks.{Settings, other, Sided, passed, stopped, of, carry_check}
use Rattle.carrying.specs.Promises.{sealing_on, seal_runs_on, open_runs_on, carried_as, written_as, CarriesBy, Carries}
use Rattle.carrying.specs.declared.Carried.{Carried}
use Rattle.carrying.specs.declared.Side.{Side}
use Rattle.carrying.specs.declared.Side.TheVariants.{Neither, Old, New}
use Rattle.carrying.proofs.Verdicts.{Fits, passes_all}
use Rattle.carrying.proofs.SealedAnew.{sealed_long, sealing_injective, one_answer, fits_of}
use Rattle.carrying.proofs.Results.{Over, Result, over, forged, refusal, result, carried_from}
use Rattle.demands.specs.Calls.{first_of, key_known, Limits, OneOf, formula}
use Rattle.demands.specs.CarryOver.{said, carry_checks, first_said}
use Rattle.demands.proofs.Limits.{known, within}
use Rattle.demands.proofs.Demand1.{refusal_length, first_has}
use Rattle.demands.proofs.Count.{seal_runs_lem, open_runs_lem}

-- ---- what the checks that stop a call say, and neither and 0 where they pass
abbrev pub said_by : Sided → Side × ℕ
said_by (Ok u) = (Neither, 0)
said_by (Err x) = (x.side, number_of (Err x.refusal))

-- the checks as a list, and what they come to, agree in that. Of those that the new side shares with all calls 10, which is k, passes, and 3 has
-- passed with the old side's
said_of : (k : Bool) → k ≡ true → (v a b c d e f a' b' c' e' g h : Bool)
    → said_by
    (of Old (unless v Edition (unless a Form (unless b Key (unless c Nonce (unless d Tag (unless e Data (unless f Length (Ok (tt {0})))))))))
    (of New (unless k Edition (unless a' Form (unless b' Key (unless c' Nonce (unless d Tag (unless e' Data (Ok (tt {0}))))))))
    (of Neither (unless g Room (unless h SameKey (Ok (tt {0})))) passed)))
    ≡ first_of (Neither, 0)
    (((Old, 10), v) ∷ ((Old, 8), a) ∷ ((Old, 1), b) ∷ ((Old, 2), c) ∷ ((Old, 3), d) ∷ ((Old, 4), e) ∷ ((Old, 5), f) ∷ ((New, 8), a') ∷ ((New, 1), b') ∷ ((New, 2), c') ∷ ((New, 4), e') ∷ ((Neither, 6), g) ∷ ((Neither, 11), h) ∷ [])
said_of true is true true true true true true true true true true true true true = refl
said_of true is true true true true true true true true true true true true false = refl
said_of true is true true true true true true true true true true true false h = refl
said_of true is true true true true true true true true true true false g h = refl
said_of true is true true true true true true true true true false e' g h = refl
said_of true is true true true true true true true true false c' e' g h = refl
said_of true is true true true true true true true false b' c' e' g h = refl
said_of true is true true true true true true false a' b' c' e' g h = refl
said_of true is true true true true true false f a' b' c' e' g h = refl
said_of true is true true true true false e f a' b' c' e' g h = refl
said_of true is true true true false d e f a' b' c' e' g h = refl
said_of true is true true false c d e f a' b' c' e' g h = refl
said_of true is true false b c d e f a' b' c' e' g h = refl
said_of true is false a b c d e f a' b' c' e' g h = refl
said_of false is v a b c d e f a' b' c' e' g h = absurd (let z : ◌≡◌ {A = ℕ} 0 1 = cc in omega arith)

other_known : (edition : ℕ) → known_edition (other edition) ≡ true
other_known zero = refl
other_known (suc zero) = refl
other_known (suc (suc n)) = refl

module _ (edition : ℕ) (old : Settings) (t : ℕ) (s : List ℕ) (new : Settings) (out work : List ℕ) where
  check_said : said_by (carry_check edition old t s new out work) ≡ first_said edition old t s new out work
  unfolding carry_check call_check
  check_said =
      said_of (known_edition (other edition)) (other_known edition) (known_edition edition) (leb old.form (last_form edition)) (known_key (length old.key)) (from_to 1 15 (length old.nonce)) (from_to 4 16 t) (leb (length old.ad) 4096)
      (from_to t (16384 + t) (length s)) (leb new.form (last_form (other edition))) (known_key (length new.key)) (from_to 1 15 (length new.nonce)) (leb (length new.ad) 4096)
      (leb (length s) (length out) && leb (length s - t) (length work)) (not (same old.key new.key))

  -- they do not stop at 7
  never_7 : (first_said edition old t s new out work).1 ≡ 7 → ⊥
  never_7 =
      first_has (λ (x : Side × ℕ). x.1 ≡ 7 → ⊥) (Neither, 0) (carry_checks edition old t s new out work) (λ z. omega arith) (
        λ z. omega arith,
        (λ z. omega arith, (λ z. omega arith, (λ z. omega arith, (λ z. omega arith, (λ z. omega arith, (λ z. omega arith, (λ z. omega arith, (λ z. omega arith, (λ z. omega arith, (λ z. omega arith, (λ z. omega arith, (λ z. omega arith, tt)))))))))))),
      )

  -- one that stops the call is the first that fails
  stopped_said : (side : Side) (c : Refusal) → carry_check edition old t s new out work ≡ stopped side c → (side, number_of (Err c)) ≡ first_said edition old t s new out work
  stopped_said side c e = sym (ap said_by e) ∙ check_said

  -- where all that they make sure of is so, none fails
  none_fails : Fits edition old t (length s) new (length out) (length work) → first_said edition old t s new out work ≡ (Neither, 0)
  none_fails f = sym check_said ∙ ap said_by (passes_all edition old t s new out work f)

-- ---- what a call comes back with, where `first` is what the first failing check says and n the number of message bytes
pub record Answers (first : Side × ℕ) (n : ℕ) (out work : List ℕ) (r : Carried) (after cleared : List ℕ) : Type 0 where
  -- a check that fails gives its own side and number, runs no cipher, and changes neither buffer
  pub stops : (first.1 ≡ 0 → ⊥) → (said r ≡ first) × (runs_of r.answer ≡ 0) × (after ≡ out) × (cleared ≡ work)
  -- where none fails the answer is done, on neither side, or 7, on the old one
  pub through : first.1 ≡ 0 → (said r ≡ (Neither, 0)) ⊎ (said r ≡ (Old, 7))
  -- any refusal, 7 included, has no length and leaves the output as it was
  pub untouched : (number_of r.answer ≡ 0 → ⊥) → (length_of r.answer ≡ 0) × (after ≡ out)
  -- done and 7 leave zeros over the message's length in the work buffer, and the rest as it was
  pub zeroed : (number_of r.answer ≡ 0) ⊎ (number_of r.answer ≡ 7) → cleared ≡ lay 0 (zeros n) work

module _ (edition : ℕ) (old : Settings) (t : ℕ) (s : List ℕ) (new : Settings) (out work : List ℕ) (r : Carried) (after cleared : List ℕ)
    (p : Carries edition old t s new out work r after cleared) where
  abbrev answered : Carried → ℕ
  answered x = number_of x.answer

  pub carrying_answers : Answers (first_said edition old t s new out work) (length s - t) out work r after cleared
  carrying_answers = go (result edition old t s new out work r after cleared p)
    where
      go : Result edition old t s new out work r after cleared → Answers (first_said edition old t s new out work) (length s - t) out work r after cleared
      go (over f m o) =
          record {
            stops = λ z. absurd (z (ap (λ (x : Side × ℕ). x.1) (none_fails edition old t s new out work f)));
            through = λ z. inl (ap said o.answers);
            untouched = λ z. absurd (z (ap answered o.answers));
            zeroed = λ z. o.clears;
          }
      go (forged f o) =
          record {
            stops = λ z. absurd (z (ap (λ (x : Side × ℕ). x.1) (none_fails edition old t s new out work f)));
            through = λ z. inr (ap said o.answers);
            untouched = λ z. (ap (λ (x : Carried). length_of x.answer) o.answers, o.leaves);
            zeroed = λ z. o.clears;
          }
      go (refusal side c e q) =
          let first_is : said r ≡ first_said edition old t s new out work = ap said q.0 ∙ stopped_said edition old t s new out work side c e in
          let not_0 : answered r ≡ 0 → ⊥ = λ z. never_0 c (sym (ap answered q.0) ∙ z) in
          let not_7 : answered r ≡ 7 → ⊥ = λ z. never_7 edition old t s new out work (sym (ap (λ (x : Side × ℕ). x.1) first_is) ∙ z) in
          record {
            stops = λ z. (first_is, no_runs r.answer not_0 not_7, q.1, q.2);
            through = λ z. absurd (not_0 (ap (λ (x : Side × ℕ). x.1) first_is ∙ z));
            untouched = λ z. (refusal_length r.answer z, q.1);
            zeroed = λ z. absurd (neither not_0 not_7 z);
          }
        where
          neither : (answered r ≡ 0 → ⊥) → (answered r ≡ 7 → ⊥) → (answered r ≡ 0) ⊎ (answered r ≡ 7) → ⊥
          neither a b (inl z) = a z
          neither a b (inr z) = b z

  -- ---- where it answers 0: the output begins with what the other edition seals of the one message that sealed to the record
  pub is_over : answered r ≡ 0 → Fits edition old t (length s) new (length out) (length work) × (m : List ℕ) × Over edition old t s new out work r after cleared m
  is_over z = go (result edition old t s new out work r after cleared p)
    where
      go : Result edition old t s new out work r after cleared → Fits edition old t (length s) new (length out) (length work) × (m : List ℕ) × Over edition old t s new out work r after cleared m
      go (over f m o) = (f, m, o)
      go (forged f o) =
          let seven : answered r ≡ 7 = ap answered o.answers in
          absurd (omega arith)
      go (refusal side c e q) = absurd (never_0 c (sym (ap answered q.0) ∙ z))

  pub carried : answered r ≡ 0
      → (m : List ℕ)
      × (sealing_on edition old t m ≡ s)
      × ((n : List ℕ) → sealing_on edition old t n ≡ s → n ≡ m)
      × (after ≡ lay 0 (sealing_on (other edition) new t m) out)
      × (length_of r.answer ≡ length (sealing_on (other edition) new t m))
  carried z =
      let (f, m, o) = is_over z in
      let old_side = f.old_side in
      let new_side = f.new_side in
      let s_long : length s ≡ length m + t = sym (ap length o.seals) ∙ sealed_long edition old t old_side.nonces.1 old_side.tags.1 m in (
        m,
        o.seals,
        λ n g. sealing_injective edition old t old_side.nonces.1 old_side.tags.1 n m (g ∙ sym o.seals),
        o.writes,
        ap (λ (x : Carried). length_of x.answer) o.answers ∙ s_long ∙ sym (sealed_long (other edition) new t new_side.nonces.1 new_side.tags.1 m),
      )

  -- where no check fails it answers 7 exactly if no message at all sealed to the record
  pub forged_exactly : (first_said edition old t s new out work).1 ≡ 0 → (answered r ≡ 7) ↔ ((m : List ℕ) → sealing_on edition old t m ≡ s → ⊥)
  forged_exactly first-0 = go (result edition old t s new out work r after cleared p)
    where
      go : Result edition old t s new out work r after cleared → (answered r ≡ 7) ↔ ((m : List ℕ) → sealing_on edition old t m ≡ s → ⊥)
      go (over f m o) =
          let zero : answered r ≡ 0 = ap answered o.answers in
          (λ z. absurd (omega arith), λ none. absurd (none m o.seals))
      go (forged f o) = (λ z. o.none, λ none. ap answered o.answers)
      go (refusal side c e q) =
          absurd (never_0 c (ap (λ (x : Side × ℕ). x.1) (stopped_said edition old t s new out work side c e) ∙ first-0))

  -- ---- the runs: the sum of both sides; and on 7 those of the old side's opening
  pub runs_over : answered r ≡ 0
      → runs_of r.answer ≡ formula (edition_of edition old.form) (length s - t) (length old.ad) + formula (edition_of (other edition) new.form) (length s - t) (length new.ad)
  runs_over z =
      let (f, m, o) = is_over z in
      let long : length m ≡ length s - t = omega (arith, sym (ap length o.seals) ∙ sealed_long edition old t f.old_side.nonces.1 f.old_side.tags.1 m) in
      ap (λ (x : Carried). runs_of x.answer) o.answers
      ∙ ap₂ ◌+◌ (open_runs_lem edition old.form old.key old.nonce old.ad t s)
      (seal_runs_lem (other edition) new.form new.key new.nonce new.ad t m ∙ ap (λ (n : ℕ). formula (edition_of (other edition) new.form) n (length new.ad)) long)

  pub runs_forged : answered r ≡ 7 → runs_of r.answer ≡ formula (edition_of edition old.form) (length s - t) (length old.ad)
  runs_forged z = go (result edition old t s new out work r after cleared p)
    where
      go : Result edition old t s new out work r after cleared → runs_of r.answer ≡ formula (edition_of edition old.form) (length s - t) (length old.ad)
      go (over f m o) =
          let zero : answered r ≡ 0 = ap answered o.answers in
          absurd (omega arith)
      go (forged f o) = ap (λ (x : Carried). runs_of x.answer) o.answers ∙ open_runs_lem edition old.form old.key old.nonce old.ad t s
      go (refusal side c e q) =
          absurd (never_7 edition old t s new out work (sym (ap (λ (x : Side × ℕ). x.1) (ap said q.0 ∙ stopped_said edition old t s new out work side c e)) ∙ z))

-- ---- the promise decides: two results that it allows are equal, answer with its side and its runs, output and work buffer
module _ (edition : ℕ) (old : Settings) (t : ℕ) (s : List ℕ) (new : Settings) (out work : List ℕ) (r r' : Carried) (after after' cleared cleared' : List ℕ) where
  by_carry : (c : Sided) → (c ≡ passed → (o q : Opened) → Allowed (sealing_on edition old t) s o → Allowed (sealing_on edition old t) s q → o ≡ q)
      → CarriesBy edition old t s new out work r after cleared c → CarriesBy edition old t s new out work r' after' cleared' c → (r ≡ r') × (after ≡ after') × (cleared ≡ cleared')
  by_carry (Ok u) one p q =
      let same-one = one refl p.0 q.0 p.1 q.1 in (
        p.2 ∙ ap (carried_as (length s) (open_runs_on edition old t s) (seal_runs_on (other edition) new t)) same-one ∙ sym q.2,
        p.3 ∙ ap (λ (o : Opened). written_as (sealing_on (other edition) new t) o out) same-one ∙ sym q.3,
        p.4 ∙ sym q.4,
      )
  by_carry (Err x) one p q = (p.0 ∙ sym q.0, p.1 ∙ sym q.1, p.2 ∙ sym q.2)

  pub carries_decided : Carries edition old t s new out work r after cleared → Carries edition old t s new out work r' after' cleared' → (r ≡ r') × (after ≡ after') × (cleared ≡ cleared')
  unfolding Carries
  carries_decided = by_carry (carry_check edition old t s new out work) one
    where
      one : carry_check edition old t s new out work ≡ passed → (o q : Opened) → Allowed (sealing_on edition old t) s o → Allowed (sealing_on edition old t) s q → o ≡ q
      one come =
          let f = fits_of edition old t s new out work come in
          one_answer edition old t f.old_side.nonces.1 f.old_side.tags.1 s

-- ---- what was sealed within the limits is carried over, given room and another key
module _ (edition : ℕ) (old : Settings) (t : ℕ) (new : Settings) (out work : List ℕ) (m : List ℕ) (short : length m ≤ 16384) (room : length m + t ≤ length out) (work_room : length m ≤ length work)
    (old-limits : Limits edition old.form (length old.nonce) t (length old.ad)) (old-key : OneOf 16 24 32 (length old.key))
    (new-limits : Limits (other edition) new.form (length new.nonce) t (length new.ad)) (new-key : OneOf 16 24 32 (length new.key))
    (apart : old.key ≡ new.key → ⊥) where
  record_long : length (sealing_on edition old t m) ≡ length m + t
  record_long = sealed_long edition old t old-limits.nonces.1 old-limits.tags.1 m

  fits : Fits edition old t (length (sealing_on edition old t m)) new (length out) (length work)
  fits =
      record {
        old_side = within edition old.form (key_known old.key) (length old.nonce) t (length old.ad) (known 16 24 32 (length old.key) old-key) old-limits;
        least = omega (arith, record_long);
        most = omega (arith, record_long, short);
        new_side = within (other edition) new.form (key_known new.key) (length new.nonce) t (length new.ad) (known 16 24 32 (length new.key) new-key) new-limits;
        room = omega (arith, record_long, room);
        work_room = omega (arith, record_long, work_room);
        keys_differ = not_same old.key new.key apart;
      }

  pub is_carried : (r : Carried) (after cleared : List ℕ) → Carries edition old t (sealing_on edition old t m) new out work r after cleared
      → (said r ≡ (Neither, 0)) × (after ≡ lay 0 (sealing_on (other edition) new t m) out) × (cleared ≡ lay 0 (zeros (length m)) work)
  is_carried r after cleared p =
      let o = carried_from edition old t (sealing_on edition old t m) new out work r after cleared fits m refl p in
      let long : length (sealing_on edition old t m) - t ≡ length m = omega (arith, record_long) in
      (ap said o.answers, o.writes, o.clears ∙ ap (λ (n : ℕ). lay 0 (zeros n) work) long)

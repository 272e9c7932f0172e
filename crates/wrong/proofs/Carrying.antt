-- Wrong programs of document 02's wish 8, each at a named input at which its result does not meet the promise, in either direction and
-- whatever forms are named. The old side has the key 00 .. 01, the new side the key of 16 zeros; both have the nonce of 12 zeros, no
-- associated data and 16 bytes of tag. The record is sealed of one byte, or is that with its last byte changed. Assumes nothing.
use mathlib.Core.Path.{◌≡◌, refl, sym, ap, ◌∙◌}
use mathlib.Core.Logic.{inl, inr}
use mathlib.Core.List.{List, []}
use Prim.Native.Nat.{ℕ, ◌-◌}
use native.Mathlib.Omega.{arith}
use lib.ListN.{length, take, get_or, set, length-set}
use lib.Seq.{take_at, take-set-le, get_or-set_same}
use Rattle.lists.specs.Hex.{bytes}
use Rattle.lists.specs.Lay.{lay}
use Rattle.lists.specs.Same.{same}
use Rattle.lists.specs.Zeros.{zeros}
use Rattle.lists.proofs.Laid.{lay_whole}
use Rattle.aes.specs.Expansion.{aes}
use Rattle.mode.specs.Edition.{edition_of}
use Rattle.mode.specs.Masks.{Masks}
use Rattle.mode.specs.Message.{body}
use Rattle.mode.specs.Sealing.{sealed, masks, otr}
use Rattle.mode.specs.Undoing.{unbody}
use Rattle.mode.proofs.Otr.{otr_undone, otr-length-body}
use Rattle.link.specs.Answers.{number_of}
use Rattle.link.proofs.Entries.{aes_cipher, aes_ta}
use Rattle.carrying.specs.Checks.{Settings, settings, other}
use Rattle.carrying.specs.Promises.{sealing_on, Carries}
use Rattle.carrying.specs.declared.Carried.{Carried}
use Rattle.carrying.specs.declared.Side.{Side}
use Rattle.carrying.specs.declared.Side.TheVariants.{Neither, Old, New}
use Rattle.carrying.proofs.SealedAnew.{sealed_long}
use Rattle.demands.specs.Calls.{Named}
use Rattle.demands.specs.CarryOver.{said, first_said}
use Rattle.demands.proofs.Limits.{edition_known, form_known}
use Rattle.demands.proofs.CarryOver.{carrying_answers, forged_exactly, is_carried}
use Rattle.wrong.proofs.Named.{key, nonce, one, first_some, editions_apart}
use Rattle.wrong.proofs.Calls.{room, small, third_parallel, first_parallel, limits}

abbrev pub key1 : List ℕ
key1 = bytes 16 1

abbrev pub side : ℕ → List ℕ → Settings
side form k = settings form k nonce []

keys_apart : key1 ≡ key → ⊥
keys_apart e = let z : ◌≡◌ {A = ℕ} 1 0 = ap (λ (l : List ℕ). get_or l 15 0) e in omega arith

-- what the byte x seals to on the old side
pub sealed_byte : ℕ → ℕ → ℕ → List ℕ
sealed_byte edition form x = sealing_on edition (side form key1) 16 (one x)

-- the same with its last byte v in place of the right one
pub damaged : ℕ → ℕ → ℕ → ℕ → List ℕ
damaged edition form x v = set (sealed_byte edition form x) 16 v

-- a call that is to be refused says what its first failing check says
refused_with : (edition : ℕ) (old : Settings) (s : List ℕ) (new : Settings) (x : Side) (n : ℕ) → first_said edition old 16 s new [] [] ≡ (x, n) → (n ≡ 0 → ⊥)
    → (r : Carried) (after cleared : List ℕ) → Carries edition old 16 s new [] [] r after cleared → said r ≡ (x, n)
refused_with edition old s new x n first some r after cleared p =
    ((carrying_answers edition old 16 s new [] [] r after cleared p).stops (λ z. some (sym (ap (λ (y : Side × ℕ). y.1) first) ∙ z))).0 ∙ first

module _ (edition form form2 : ℕ) (named : Named edition form) (named2 : Named (other edition) form2) where
  byte_long : (x : ℕ) → length (sealed_byte edition form x) ≡ 17
  unfolding sealed_byte
  byte_long x = sealed_long edition (side form key1) 16 (omega arith) (omega arith) (one x)

  -- a record of one byte, carried over: the output is all that the new side seals of it, and the work buffer is zero
  over : (x : ℕ) (r : Carried) (after cleared : List ℕ) → Carries edition (side form key1) 16 (sealed_byte edition form x) (side form2 key) room small r after cleared
      → (said r ≡ (Neither, 0)) × (after ≡ otr (aes key) (edition_of (other edition) form2) nonce [] 16 (one x)) × (cleared ≡ zeros 1)
  unfolding sealed_byte zeros
  over x r after cleared p =
      let q =
      is_carried edition (side form key1) 16 (side form2 key) room small (one x) (omega arith) (omega arith) (omega arith) (limits edition form named) (inl refl) (limits (other edition) form2 named2) (inl refl) keys_apart r after cleared p in
      let anew = sealing_on (other edition) (side form2 key) 16 (one x) in
      (q.0, q.1 ∙ lay_whole anew room (omega (arith, sealed_long (other edition) (side form2 key) 16 (omega arith) (omega arith) (one x))), q.2)

  -- no message seals to a damaged one: what begins with the same ciphertext is sealed of the same message
  same_front : (m n : List ℕ) → take (length m) (sealing_on edition (side form key1) 16 m) ≡ take (length n) (sealing_on edition (side form key1) 16 n) → m ≡ n
  unfolding sealed
  same_front m n e =
      sym (undone m)
      ∙ ap (unbody E k) (sym (front m) ∙ e ∙ front n)
      ∙ undone n
    where
      E : List ℕ → List ℕ
      E = aes key1

      k : Masks
      k = masks E (E (zeros 16)) (edition_of edition form) nonce [] 16

      undone : (x : List ℕ) → unbody E k (body E k x) ≡ x
      undone = otr_undone E (aes_cipher key1) (E (zeros 16)) (edition_of edition form) nonce [] 16 (aes_ta key1 (edition_of edition form) []) (omega arith) (omega arith)

      front : (x : List ℕ) → take (length x) (sealing_on edition (side form key1) 16 x) ≡ body E k x
      front x = take_at (body E k x) _ (length x) (otr-length-body E (aes_cipher key1) (E (zeros 16)) (edition_of edition form) nonce [] 16 (aes_ta key1 (edition_of edition form) []) (omega arith) (omega arith) x)

  module _ (x v : ℕ) (other_byte : v ≡ get_or (sealed_byte edition form x) 16 0 → ⊥) where
    damaged_long : length (damaged edition form x v) ≡ 17
    unfolding damaged
    damaged_long = length-set (sealed_byte edition form x) 16 v ∙ byte_long x

    none_sealed : (m : List ℕ) → sealing_on edition (side form key1) 16 m ≡ damaged edition form x v → ⊥
    unfolding sealed_byte damaged
    none_sealed m e =
        let m_long : length m ≡ 1 = omega (arith, sealed_long edition (side form key1) 16 (omega arith) (omega arith) m, ap length e, damaged_long) in
        let front : take (length m) (sealing_on edition (side form key1) 16 m) ≡ take 1 (sealed_byte edition form x) =
        ap (λ (n : ℕ). take n (sealing_on edition (side form key1) 16 m)) m_long ∙ ap (take 1) e ∙ take-set-le 1 (sealed_byte edition form x) 16 v (omega arith) in
        let m_is : m ≡ one x = same_front m (one x) front in
        other_byte
        (sym (get_or-set_same (sealed_byte edition form x) 16 v 0 (omega (arith, byte_long x)))
        ∙ ap (λ (l : List ℕ). get_or l 16 0) (sym e ∙ ap (sealing_on edition (side form key1) 16) m_is))

    -- so carrying it answers 7, leaves the output, and has zeros in the work buffer
    not_carried : (r : Carried) (after cleared : List ℕ) → Carries edition (side form key1) 16 (damaged edition form x v) (side form2 key) room small r after cleared
        → (number_of r.answer ≡ 7) × (after ≡ room) × (cleared ≡ zeros 1)
    unfolding zeros same
    not_carried r after cleared p =
        let old = side form key1 in
        let new = side form2 key in
        let s = damaged edition form x v in
        let a = carrying_answers edition old 16 s new room small r after cleared p in
        let first : first_said edition old 16 s new room small ≡ (Neither, 0) =
        rw (edition_known edition form named, form_known edition form named, form_known (other edition) form2 named2, damaged_long) in
        let seven : number_of r.answer ≡ 7 =
        (forged_exactly edition old 16 s new room small r after cleared p (ap (λ (y : Side × ℕ). y.1) first)).1 none_sealed in
        (seven, (a.untouched (λ z. omega arith)).1, a.zeroed (inr seven) ∙ ap (λ (n : ℕ). lay 0 (zeros (n - 16)) small) damaged_long)

    -- ---- seals the new side before the old one has opened, and leaves that there on 7: what the byte 0 seals to, the record's own where x
    -- is 0, which is not the 17 zeros of the output
    pub seals_first : (r : Carried) (cleared : List ℕ)
        → Carries edition (side form key1) 16 (damaged edition form x v) (side form2 key) room small r (otr (aes key) (edition_of (other edition) form2) nonce [] 16 (one 0)) cleared → ⊥
    seals_first r cleared p =
        let anew = otr (aes key) (edition_of (other edition) form2) nonce [] 16 (one 0) in
        first_some (edition_of (other edition) form2) (ap (λ (l : List ℕ). get_or l 0 0) (not_carried r anew cleared p).1)

    -- ---- leaves plaintext in the work buffer on 7: the byte 1, the record's own where x is 1
    pub plaintext_on_7 : (r : Carried) (after : List ℕ) → Carries edition (side form key1) 16 (damaged edition form x v) (side form2 key) room small r after (one 1) → ⊥
    unfolding zeros
    plaintext_on_7 r after p =
        let z : ◌≡◌ {A = ℕ} 1 0 = ap (λ (l : List ℕ). get_or l 0 0) (not_carried r after (one 1) p).2 in
        omega arith

  -- ---- or on 0
  pub plaintext_on_0 : (r : Carried) (after : List ℕ) → Carries edition (side form key1) 16 (sealed_byte edition form 1) (side form2 key) room small r after (one 1) → ⊥
  unfolding zeros
  plaintext_on_0 r after p =
      let z : ◌≡◌ {A = ℕ} 1 0 = ap (λ (l : List ℕ). get_or l 0 0) (over 1 r after (one 1) p).2 in
      omega arith

  -- ---- compares keys by their length only, and so answers 11 to two that differ
  pub keys_by_length : (x : ℕ) (r : Carried) (after cleared : List ℕ) → number_of r.answer ≡ 11
      → Carries edition (side form key1) 16 (sealed_byte edition form x) (side form2 key) room small r after cleared → ⊥
  keys_by_length x r after cleared h p =
      let z : number_of r.answer ≡ 0 = ap (λ (y : Side × ℕ). y.1) (over x r after cleared p).0 in
      omega arith

  -- ---- answers 11 before 6: both keys are the same, and the output has no room for the 16 bytes of tag
  pub eleven_before_6 : (r : Carried) (after cleared : List ℕ) → number_of r.answer ≡ 11
      → Carries edition (side form key) 16 (bytes 16 0) (side form2 key) [] [] r after cleared → ⊥
  unfolding same
  eleven_before_6 r after cleared h p =
      let first : first_said edition (side form key) 16 (bytes 16 0) (side form2 key) [] [] ≡ (Neither, 6) =
      rw (edition_known edition form named, form_known edition form named, form_known (other edition) form2 named2) in
      let six : number_of r.answer ≡ 6 =
      ap (λ (y : Side × ℕ). y.1) (refused_with edition (side form key) (bytes 16 0) (side form2 key) Neither 6 first (λ z. omega arith) r after cleared p) in
      omega arith

-- ---- keeps the edition: what the new side's key seals in the old edition is not what it seals in the other
pub keeps_third : (r : Carried) (cleared : List ℕ)
    → Carries 3 (side 0 key1) 16 (sealed_byte 3 0 0) (side 0 key) room small r (otr (aes key) (edition_of 3 0) nonce [] 16 (one 0)) cleared → ⊥
keeps_third r cleared p = editions_apart (over 3 0 0 third_parallel first_parallel 0 r (otr (aes key) (edition_of 3 0) nonce [] 16 (one 0)) cleared p).1

pub keeps_first : (r : Carried) (cleared : List ℕ)
    → Carries 1 (side 0 key1) 16 (sealed_byte 1 0 0) (side 0 key) room small r (otr (aes key) (edition_of 1 0) nonce [] 16 (one 0)) cleared → ⊥
keeps_first r cleared p = editions_apart (sym (over 1 0 0 first_parallel third_parallel 0 r (otr (aes key) (edition_of 1 0) nonce [] 16 (one 0)) cleared p).1)

-- ---- looks at the new side first: the old side's key has 17 bytes, and the new side's form is none
pub new_before_old : (r : Carried) (after cleared : List ℕ) → r.side ≡ New → Carries 3 (side 0 (bytes 17 0)) 16 (bytes 16 0) (side 2 key) [] [] r after cleared → ⊥
new_before_old r after cleared h p =
    let old-1 = refused_with 3 (side 0 (bytes 17 0)) (bytes 16 0) (side 2 key) Old 1 refl (λ z. omega arith) r after cleared p in
    let same_side : Old ≡ New = sym (ap (λ (y : Side × ℕ). y.0) old-1) ∙ h in
    let z : ◌≡◌ {A = ℕ} 0 1 = cc in
    omega arith

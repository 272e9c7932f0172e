-- Within the limits every check passes. Assumes nothing.
use mathlib.Core.Path.{◌≡◌, refl, ap}
use mathlib.Core.Bool.{Bool, true, false, ◌||◌}
use mathlib.Core.Logic.{inl, inr}
use Prim.Native.Nat.{ℕ, ◌+◌, ◌-◌, ◌≤◌}
use native.Mathlib.Omega.{arith}
use lib.Dec.{eqb, leb}
use borrow.Author.Tests.{eq-eqb, leb-true, le-leb}
use Rattle.std.specs.Prelude.{Ok}
use Rattle.link.specs.Checks.{last_form, call_check, seal_next, open_next}
use Rattle.link.proofs.Verdicts as Verdicts
use Rattle.link.proofs.Verdicts.{Called}
use Rattle.demands.specs.Calls.{Named, Limits, OneOf}

left : (x y : Bool) → x ≡ true → (x || y) ≡ true
left x y e = rw e

right : (x y : Bool) → y ≡ true → (x || y) ≡ true
right true y e = refl
right false y e = e

pub known : (a b c n : ℕ) → OneOf a b c n → (eqb n a || (eqb n b || eqb n c)) ≡ true
known a b c n (inl e) = left (eqb n a) (eqb n b || eqb n c) (eq-eqb n a e)
known a b c n (inr (inl e)) = right (eqb n a) (eqb n b || eqb n c) (left (eqb n b) (eqb n c) (eq-eqb n b e))
known a b c n (inr (inr e)) = right (eqb n a) (eqb n b || eqb n c) (right (eqb n b) (eqb n c) (eq-eqb n c e))

pub edition_known : (edition form : ℕ) → Named edition form → (eqb edition 1 || eqb edition 3) ≡ true
edition_known e form (inl (is, f)) = left (eqb e 1) (eqb e 3) (eq-eqb e 1 is)
edition_known e form (inr (is, f)) = right (eqb e 1) (eqb e 3) (eq-eqb e 3 is)

pub form_known : (edition form : ℕ) → Named edition form → leb form (last_form edition) ≡ true
form_known e form (inl (is, f)) =
    let last : last_form e ≡ 0 = ap last_form is in
    le-leb form (last_form e) (omega arith)
form_known e form (inr (is, f)) =
    let last : last_form e ≡ 1 = ap last_form is in
    le-leb form (last_form e) (omega arith)

module _ (edition form : ℕ) (known : Bool) (nonce t ad : ℕ) (is : known ≡ true) (f : Limits edition form nonce t ad) where
  pub within : Called edition form known nonce t ad
  within =
      record {
        editions = edition_known edition form f.named;
        forms = leb-true form (last_form edition) (form_known edition form f.named);
        known = is;
        nonces = f.nonces;
        tags = f.tags;
        data_most = f.most;
      }

  pub seal_passes : (m o : ℕ) → m ≤ 16384 → m + t ≤ o → call_check edition form known nonce t ad (seal_next t m o) ≡ Ok (m + t)
  seal_passes = Verdicts.seal_passes edition form known nonce t ad within

  pub open_passes : (s o : ℕ) → t ≤ s → s ≤ 16384 + t → s - t ≤ o → call_check edition form known nonce t ad (open_next t s o) ≡ Ok (s - t)
  open_passes = Verdicts.open_passes edition form known nonce t ad within

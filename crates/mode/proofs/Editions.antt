-- What the numbers of a call name. Assumes nothing.
use mathlib.Core.Path.{◌≡◌, refl, ap}
use mathlib.Core.List.{List}
use Prim.Native.Nat.{ℕ, zero, suc}
use Rattle.mode.specs.Form.{Parallel, form_of}
use Rattle.mode.specs.Edition.{edition_of, form_in}
use Rattle.mode.specs.Masks.{first, third, masks_of}

pub is_parallel : (n : ℕ) → n ≡ 0 → form_of n ≡ Parallel
is_parallel n h = ap form_of h

-- form 0 is the parallel one, whatever the edition
pub form_0 : (e : ℕ) → form_in (edition_of e 0) ≡ Parallel
form_0 zero = refl
form_0 (suc zero) = refl
form_0 (suc (suc n)) = refl

-- the masks go by the edition and not by its form
pub masks_alike : (e form : ℕ) (x u : List ℕ) → x ≡ u → masks_of (edition_of e 0) x ≡ masks_of (edition_of e form) u
masks_alike zero form x u h = ap third h
masks_alike (suc zero) form x u h = ap first h
masks_alike (suc (suc n)) form x u h = ap third h

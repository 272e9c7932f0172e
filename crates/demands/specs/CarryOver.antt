-- The words that carrying over is stated in (document 02, wish 8).
use Rattle.std.specs.Prelude.{Bool, not, ◌&&◌, ◌||◌, List, [], ◌∷◌, ℕ, ◌+◌, ◌-◌, eqb, leb, length}
use Rattle.lists.specs.Same.{same}
use Rattle.link.specs.Answers.{number_of}
use Rattle.link.specs.Checks.{from_to, last_form}
use Rattle.carrying.specs.Checks.{Settings, other}
use Rattle.carrying.specs.declared.Carried.{Carried}
use Rattle.carrying.specs.declared.Side.{Side}
use Rattle.carrying.specs.declared.Side.TheVariants.{Neither, Old, New}
use Rattle.demands.specs.Calls.{first_of, key_known}

-- an answer's side and number
abbrev pub said : Carried → Side × ℕ
said r = (r.side, number_of r.answer)

-- the checks in their order, each with its side, its number and whether it passes: the old side's 10, 8 and 1 to 5, then the new side's 8,
-- 1, 2 and 4, then 6 and 11, which are neither's
abbrev pub carry_checks : ℕ → Settings → ℕ → List ℕ → Settings → List ℕ → List ℕ → List ((Side × ℕ) × Bool)
carry_checks edition old t s new out work =
    ((Old, 10), eqb edition 1 || eqb edition 3)
    ∷ ((Old, 8), leb old.form (last_form edition))
    ∷ ((Old, 1), key_known old.key)
    ∷ ((Old, 2), from_to 1 15 (length old.nonce))
    ∷ ((Old, 3), from_to 4 16 t)
    ∷ ((Old, 4), leb (length old.ad) 4096)
    ∷ ((Old, 5), from_to t (16384 + t) (length s))
    ∷ ((New, 8), leb new.form (last_form (other edition)))
    ∷ ((New, 1), key_known new.key)
    ∷ ((New, 2), from_to 1 15 (length new.nonce))
    ∷ ((New, 4), leb (length new.ad) 4096)
    ∷ ((Neither, 6), leb (length s) (length out) && leb (length s - t) (length work))
    ∷ ((Neither, 11), not (same old.key new.key))
    ∷ []

-- what the first that fails says, and neither and 0 where none does
abbrev pub first_said : ℕ → Settings → ℕ → List ℕ → Settings → List ℕ → List ℕ → Side × ℕ
first_said edition old t s new out work = first_of (Neither, 0) (carry_checks edition old t s new out work)

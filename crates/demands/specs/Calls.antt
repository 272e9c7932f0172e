-- The words that the demands are stated in.
use Rattle.std.specs.Prelude.{◌≡◌, Bool, true, false, ◌||◌, ◌⊎◌, List, [], ◌∷◌, ℕ, zero, suc, ◌+◌, ◌-◌, ◌/◌, ◌≤◌, eqb, leb, length}
use Rattle.mode.specs.declared.edition.Form.TheVariants.{Parallel, Serial}
use Rattle.mode.specs.declared.edition.Edition.{Edition}
use Rattle.mode.specs.declared.edition.Edition.TheVariants.{V1, V3}
use Rattle.link.specs.Checks.{from_to, last_form}
use Rattle.link.specs.declared.prepared.Prepared.{Prepared}

-- checks in their order, each with what it answers and whether it passes: what the first that fails answers, and `none` where none does
abbrev pub first_of : {A : Type 0} → A → List (A × Bool) → A
first_of none [] = none
first_of none ((a, true) ∷ checks) = first_of none checks
first_of none ((a, false) ∷ checks) = a

-- the number of the first that fails, and 0 where none does
abbrev pub first_failing : List (ℕ × Bool) → ℕ
first_failing checks = first_of 0 checks

-- check 1: whether a raw key is known, by its bytes, and a prepared one, by its rounds (document 02, wish 9)
abbrev pub key_known : List ℕ → Bool
key_known key = eqb (length key) 16 || (eqb (length key) 24 || eqb (length key) 32)

abbrev pub rounds_known : Prepared → Bool
rounds_known p = eqb p.rounds 10 || (eqb p.rounds 12 || eqb p.rounds 14)

-- check 10 of document 02's wish 7, check 8 of wishes 1 and 7, and document 01's checks 1 to 4 (check 2 as wish 5 has it), which all calls
-- share, and what comes after them
abbrev pub call_checks : ℕ → ℕ → Bool → List ℕ → List ℕ → ℕ → List (ℕ × Bool) → List (ℕ × Bool)
call_checks edition form known nonce ad t checks =
    (10, eqb edition 1 || eqb edition 3)
    ∷ (8, leb form (last_form edition))
    ∷ (1, known)
    ∷ (2, from_to 1 15 (length nonce))
    ∷ (3, from_to 4 16 t)
    ∷ (4, leb (length ad) 4096)
    ∷ checks

-- all eight, for sealing a message and for opening sealed bytes
abbrev pub seal_checks : ℕ → ℕ → Bool → List ℕ → List ℕ → List ℕ → ℕ → List ℕ → List (ℕ × Bool)
seal_checks edition form known nonce ad m t out =
    call_checks edition form known nonce ad t ((5, leb (length m) 16384) ∷ (6, leb (length m + t) (length out)) ∷ [])

abbrev pub open_checks : ℕ → ℕ → Bool → List ℕ → List ℕ → List ℕ → ℕ → List ℕ → List (ℕ × Bool)
open_checks edition form known nonce ad s t out =
    call_checks edition form known nonce ad t ((5, from_to t (16384 + t) (length s)) ∷ (6, leb (length s - t) (length out)) ∷ [])

-- numbers that name an edition and its form (document 02, wishes 1 and 7)
abbrev pub Named : ℕ → ℕ → Type 0
Named edition form = ((edition ≡ 1) × (form ≡ 0)) ⊎ ((edition ≡ 3) × (form ≤ 1))

-- the limits on these and on the lengths of nonce, tag and associated data (document 01; document 02, wish 5); and those on a key: the
-- bytes of a raw one are one of 16, 24 and 32, and the rounds of a prepared one one of 10, 12 and 14
pub record Limits (edition form nonce t ad : ℕ) : Type 0 where
  pub named : Named edition form
  pub nonces : (1 ≤ nonce) × (nonce ≤ 15)
  pub tags : (4 ≤ t) × (t ≤ 16)
  pub most : ad ≤ 4096

abbrev pub OneOf : ℕ → ℕ → ℕ → ℕ → Type 0
OneOf a b c n = (n ≡ a) ⊎ ((n ≡ b) ⊎ (n ≡ c))

-- ---- how many times the cipher runs (document 02, wish 6), by lengths alone
-- a length over 16, rounded up
abbrev pub rounded : ℕ → ℕ
rounded b = (b + 15) / 16

-- parallel data in v3.1: if there is any, its blocks and one
abbrev pub data_runs : ℕ → ℕ
data_runs zero = 0
data_runs (suc b) = rounded (suc b) + 1

-- the same from the steps of AF in v1 (source document 003, Fig. 1) and of AF-S (source document 000, Fig. 3): if there is any, line 2
-- for γ or Q, line 5 for each block before the last, and line 8 or 9, in AF-S 7 or 8, for that
abbrev pub step_runs : ℕ → ℕ
step_runs zero = 0
step_runs (suc b) = 1 + (rounded (suc b) - 1) + 1

-- a message of m bytes and data of ad. In v3.1, parallel: 2, the message length over 16 rounded up, and the data's; serial: the nonce
-- block, the data's, the message's blocks and TE. In v1: the nonce block, the message's blocks and TE, and the data's
abbrev pub formula : Edition → ℕ → ℕ → ℕ
formula V1 m ad = 1 + rounded m + 1 + step_runs ad
formula (V3 Parallel) m ad = 2 + rounded m + data_runs ad
formula (V3 Serial) m ad = 1 + step_runs ad + rounded m + 1

-- under a prepared key, whatever was named, the one for the zero block is lost (wish 9): nonce block, TE, the message's blocks and the
-- data's
abbrev pub formula_with : ℕ → ℕ → ℕ
formula_with m ad = 2 + rounded m + rounded ad

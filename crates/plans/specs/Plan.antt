-- Document 02, wish 13: a plan says which engine carries out which pair. It is bytes, three an entry: a pair's number, high byte first,
-- and an engine. The pairs are those before the final one or two blocks, numbered from 0.
use Rattle.std.specs.Prelude.{◌≡◌, Bool, true, false, List, ℕ, ◌+◌, ◌*◌, ◌/◌, ◌<◌, length, get_or}

abbrev pub entries : List ℕ → ℕ
entries p = length p / 3

-- the pair that entry j is for, and its engine
abbrev pub pair_at : List ℕ → ℕ → ℕ
pair_at p j = 256 * get_or p (3 * j) 0 + get_or p (3 * j + 1) 0

abbrev pub engine_at : List ℕ → ℕ → ℕ
engine_at p j = get_or p (3 * j + 2) 0

-- pair i occurs once: one entry is for it, and no other
pub record Once (p : List ℕ) (i : ℕ) : Type 0 where
  pub entry : ℕ
  pub within : entry < entries p
  pub for_it : pair_at p entry ≡ i
  pub alone : (j : ℕ) → j < entries p → pair_at p j ≡ i → j ≡ entry

-- a plan for n pairs: whole entries, every pair once, no other number, and the engines 0 to 3
pub record Accepted (n : ℕ) (p : List ℕ) : Type 0 where
  pub whole : length p ≡ 3 * entries p
  pub every : (i : ℕ) → i < n → Once p i
  pub no_other : (j : ℕ) → j < entries p → pair_at p j < n
  pub engines : (j : ℕ) → j < entries p → engine_at p j < 4

-- what a check may say of a plan
abbrev pub Judged : Bool → ℕ → List ℕ → Type 0
Judged true n p = Accepted n p
Judged false n p = Accepted n p → ⊥

-- q has the entries of p in any order, and its engines by any names: entry j of q is entry `from j` of p
pub record Rearranged (p q : List ℕ) : Type 0 where
  pub long : length q ≡ length p
  pub from : ℕ → ℕ
  pub to : ℕ → ℕ
  pub from_within : (j : ℕ) → j < entries p → from j < entries p
  pub to_within : (j : ℕ) → j < entries p → to j < entries p
  pub from_to : (j : ℕ) → j < entries p → from (to j) ≡ j
  pub to_from : (j : ℕ) → j < entries p → to (from j) ≡ j
  pub pairs : (j : ℕ) → j < entries p → pair_at q j ≡ pair_at p (from j)
  pub name : ℕ → ℕ
  pub names : (e : ℕ) → e < 4 → name e < 4
  pub engines : (j : ℕ) → j < entries p → engine_at q j ≡ name (engine_at p (from j))

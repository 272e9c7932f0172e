-- The four tables that join substitution and column mixing, one behind another: 1,024 words.
use Rattle.std.specs.Prelude.{List, [], ◌∷◌, ℕ, ◌+◌, ◌-◌, ◌/◌, ◌%◌, get_or}
use Rattle.lists.specs.Table.{table}
use Rattle.words.specs.Word.{number}
use Rattle.field.specs.Field.{product}
use Rattle.field.specs.Substitution.{substitute}

-- how many rows row r is below row k, counted round the end of the column
abbrev pub below : ℕ → ℕ → ℕ
below k r = (r + 4 - k) % 4

-- FIPS 197, (5.6), read by columns: what a substituted byte s in row k puts into row r of its column. It is 2s in its own row, 3s in
-- the row above, which is three below, and s in the other two
abbrev pub share : ℕ → ℕ → ℕ → ℕ
share k r s = get_or (product 2 s ∷ s ∷ s ∷ product 3 s ∷ []) (below k r) 0

-- all that it puts there, the four rows as one word
abbrev pub shares : ℕ → ℕ → ℕ
shares k s = number (share k 0 s ∷ share k 1 s ∷ share k 2 s ∷ share k 3 s ∷ [])

-- table k at byte b
unfoldable pub entry : ℕ → ℕ → ℕ
entry k b = shares k (substitute b)

unfoldable pub joined : List ℕ
joined = table (λ i. entry (i / 256) (i % 256)) 1024

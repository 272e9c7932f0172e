-- A rule, written out as a table.
use Rattle.std.specs.Prelude.{List, [], ◌∷◌, ℕ, zero, suc}

-- f i, f (i + 1), .., n of them
unfoldable pub table_from : (ℕ → ℕ) → ℕ → ℕ → List ℕ
table_from f i zero = []
table_from f i (suc n) = f i ∷ table_from f (suc i) n

-- f 0, f 1, .., f (n - 1)
abbrev pub table : (ℕ → ℕ) → ℕ → List ℕ
table f n = table_from f 0 n

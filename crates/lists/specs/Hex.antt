-- A byte string written as one hexadecimal number, as published examples print it: n bytes, the first byte first.
use Rattle.std.specs.Prelude.{List, [], ◌∷◌, ◌++◌, ℕ, zero, suc, ◌/◌, ◌%◌}

abbrev pub bytes : ℕ → ℕ → List ℕ
bytes zero x = []
bytes (suc n) x = bytes n (x / 256) ++ (x % 256 ∷ [])

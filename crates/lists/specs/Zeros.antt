-- n zeros.
use Rattle.std.specs.Prelude.{List, ℕ, replicate}

unfoldable pub zeros : ℕ → List ℕ
zeros n = replicate n 0

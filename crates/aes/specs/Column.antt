-- Column mixing of one column (section 5.1.3): what MixColumns makes of each.
use Rattle.std.specs.Prelude.{List, ℕ, ◌+◌, ◌%◌, get_or}
use Rattle.aes.specs.State.{column}
use Rattle.aes.specs.Cipher.{mixed}

abbrev pub mixed_column : List ℕ → List ℕ
mixed_column a = column (λ r. mixed (get_or a r 0) (get_or a ((r + 1) % 4) 0) (get_or a ((r + 2) % 4) 0) (get_or a ((r + 3) % 4) 0))

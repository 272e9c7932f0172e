-- The cipher under round keys, as the passes take them: E of the papers.
use Rattle.std.specs.Prelude.{List, ℕ}
use Rattle.aes.specs.Cipher.{cipher}
use Rattle.aes.specs.declared.key.RoundKeys.{RoundKeys}

abbrev pub cipher_under : RoundKeys → List ℕ → List ℕ
cipher_under k = cipher k.rounds k.words

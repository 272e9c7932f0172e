-- A block as two words of eight bytes each: with the first byte of a word its lowest, as it is read from memory, and with the first byte
-- its highest, as a number to count with.
use Rattle.std.specs.Prelude.{List, ◌++◌, ℕ, get_or}
use Rattle.lists.specs.Hex.{bytes as big}
use Rattle.words.specs.Word.{little}

unfoldable pub bytes_of : List ℕ → List ℕ
bytes_of x = little 8 (get_or x 0 0) ++ little 8 (get_or x 1 0)

unfoldable pub big_of : List ℕ → List ℕ
big_of x = big 8 (get_or x 0 0) ++ big 8 (get_or x 1 0)

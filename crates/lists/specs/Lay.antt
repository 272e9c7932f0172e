-- A part laid into a list: from place `i` on the elements are those of `new`, all others stay.
use Rattle.std.specs.Prelude.{List, ◌++◌, ℕ, ◌+◌, length, take, drop}

abbrev pub lay : ℕ → List ℕ → List ℕ → List ℕ
lay i new out = take i out ++ (new ++ drop (i + length new) out)

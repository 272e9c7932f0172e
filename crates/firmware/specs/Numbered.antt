-- Document 02, wish 2: the number alone is the answer.
use Rattle.std.specs.Prelude.{◌≡◌, List, ℕ}
use Rattle.link.specs.Answers.{Answer, number_of}

-- what Promise says of an answer and of the buffer after, said of the answer's number: n is that of an answer that it allows
abbrev pub Numbered : (Answer → List ℕ → Type 0) → ℕ → List ℕ → Type 0
Numbered Promise n after = (r : Answer) × (n ≡ number_of r) × Promise r after

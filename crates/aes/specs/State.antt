-- The state of FIPS 197, section 3.4: sixteen bytes in four columns of four. A state is the list of its columns.
use Rattle.std.specs.Prelude.{List, [], ◌∷◌, ℕ, ◌+◌, ◌*◌, get_or}

-- the byte at row r and column c
abbrev pub at : List (List ℕ) → ℕ → ℕ → ℕ
at s r c = get_or (get_or s c []) r 0

abbrev pub column : (ℕ → ℕ) → List ℕ
column f = f 0 ∷ f 1 ∷ f 2 ∷ f 3 ∷ []

-- the state whose byte at row r and column c is f r c
abbrev pub state : (ℕ → ℕ → ℕ) → List (List ℕ)
state f = column (λ r. f r 0) ∷ column (λ r. f r 1) ∷ column (λ r. f r 2) ∷ column (λ r. f r 3) ∷ []

-- (3.3) and (3.4): the state is filled, and read, column by column
abbrev pub input : List ℕ → List (List ℕ)
input b = state (λ r c. get_or b (r + 4 * c) 0)

abbrev pub output : List (List ℕ) → List ℕ
output s =
    at s 0 0 ∷ at s 1 0 ∷ at s 2 0 ∷ at s 3 0 ∷ at s 0 1 ∷ at s 1 1 ∷ at s 2 1 ∷ at s 3 1
    ∷ at s 0 2 ∷ at s 1 2 ∷ at s 2 2 ∷ at s 3 2 ∷ at s 0 3 ∷ at s 1 3 ∷ at s 2 3 ∷ at s 3 3 ∷ []

-- word i of an expanded key, which is a list of bytes, four to a word
abbrev pub word : List ℕ → ℕ → List ℕ
word w i = column (λ r. get_or w (4 * i + r) 0)

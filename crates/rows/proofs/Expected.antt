-- Made by tools/expected-rows from the second program's `aes-rows`; tools/test makes it anew and compares. A row is the edition,
-- the form, the lengths of the key (only with AES), the message, the data and the nonce, t, the runs of the cipher, and the sealed
-- bytes as one number.
use mathlib.Core.List.{List, [], ◌∷◌}
use Prim.Native.Nat.{ℕ}

abbrev pub Row : Type 0
Row = ℕ × ℕ × ℕ × ℕ × ℕ × ℕ × ℕ × ℕ × ℕ

abbrev pub expected : List Row
expected =
    (3, 0, 16, 17, 0, 12, 16, 4, 0x1e9d7863b628a13f38fd59c9523c0a8e827e322d1dda151489accf827f898eecb2) ∷
    (3, 0, 32, 16, 0, 12, 16, 3, 0x903fe78cf636387c44c26d042d01a667d452109ec6888c67f625418efd89cbab) ∷
    (3, 1, 16, 1, 5, 12, 16, 5, 0x7f9d0e024655b82a54fd78055ba5471899) ∷
    (3, 1, 16, 16, 0, 12, 16, 3, 0x4cb65eb778872ea0bb222e351e8d8ccbb0f16f3089aa6a6149fae2eb0e809593) ∷
    (1, 0, 16, 17, 0, 12, 16, 4, 0x3855185ba023c34b5f254869653029e20e80ad8da8bbca1b4537e875bd007e1778) ∷
    (1, 0, 24, 16, 5, 12, 16, 5, 0xaaecd63b09a2553d7e7947611a5d45c4784185d6358a47b68fafdfc0ae923f62) ∷
    []

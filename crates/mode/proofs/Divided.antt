-- Made by tools/expected-rows from the second program's `standin-parts`; tools/test makes it anew and compares. A row is the form,
-- the lengths of the data and the nonce, t, and the runs of beginning; then for each part its length, and of its call the runs, the
-- number of bytes that came out, and these as one number; then the same of the end.
use mathlib.Core.List.{List, [], ◌∷◌}
use Prim.Native.Nat.{ℕ}

abbrev pub Row : Type 0
Row = ℕ × ℕ × ℕ × ℕ × ℕ × List (ℕ × ℕ × ℕ × ℕ) × ℕ × ℕ × ℕ

abbrev pub expected : List Row
expected =
    (0, 0, 12, 16, 1, [], 1, 16, 0x5c18d0f4dbf5402f8d7ba6da8eb4fa0d) ∷
    (1, 5, 12, 16, 3, (0, 0, 0, 0x0) ∷ [], 1, 16, 0x382cec5a3b624128b5532f795396ac6b) ∷
    (0, 5, 15, 15, 3, (31, 0, 0, 0x0) ∷ (0, 0, 0, 0x0) ∷ (1, 0, 0, 0x0) ∷ (1, 2, 32, 0xdf16d27e02aeda9ec2e632eeb20ec19e8a362cb1e8ee1466604e8463f0a40bf9) ∷ [], 2, 16, 0xd1561904c08032ebbac302676d171ec5) ∷
    (1, 16, 12, 16, 3, (32, 0, 0, 0x0) ∷ (1, 2, 32, 0x64dcd9f0b5b9a70f08d60d6a430f66640a49dbb11984c5353ccde3c6143aeb59) ∷ [], 2, 17, 0x8d92bfd03710225818626339ccd79ebc73) ∷
    (0, 17, 1, 4, 4, (16, 0, 0, 0x0) ∷ (16, 0, 0, 0x0) ∷ [], 3, 36, 0x3d8b91431583f19b2d3bf1b672ca04f1c8d86868d808586818085858eb6769297e9c618b) ∷
    (1, 0, 15, 15, 1, (33, 2, 32, 0x4c6842614ac0e2749230fa1f823d3302b653f21caff7c71a2de18c6e02fd80b5) ∷ [], 2, 16, 0xbd0d5583770d601b2b61d4ef1fd1edd4) ∷
    (0, 0, 12, 16, 1, (64, 2, 32, 0x08cb6b63b27eea0ef2f6a2ae427e078868fae49a386ea41643e6fc5e00099d6b) ∷ (1, 2, 32, 0x6d299f360a60621457d8728422b8ff9b6e1a500ff2a9012ef4ad950eab8fa1c4) ∷ [], 2, 17, 0x7cdcf5ff794fd96413350e6ef8ea2166de) ∷
    (1, 17, 1, 4, 4, (65, 4, 64, 0xa2ced1b2ffce991a2fbe1cfdb2d564c01180229244bd87ea2cac1a624df1f4e9a34dc8c7b09027ef10d0694a0a0594eb0f9d6b530233a8fb2d2c71df2b21a3f2) ∷ (31, 0, 0, 0x0) ∷ (0, 0, 0, 0x0) ∷ [], 3, 36, 0x8ede1965a3281e6cbc5779eddb6592eadc85c213a6ac0ddbc3a1b9b97e4dc4ad77cf307e) ∷
    (0, 16, 12, 16, 3, (20, 0, 0, 0x0) ∷ (30, 2, 32, 0x08cb6b63b27eea0ef2f6a2ae427e078868fae49a386ea41643e6fc5e00099d6b) ∷ (50, 4, 64, 0x6d299f360a60621457d8728422b8ff9b6e1a500ff2a9012ef4ad950eab8fa1c40f45e841def385c3acc9ff90852490f18a448d3b4fec19b13b4139010f74da86) ∷ [], 2, 20, 0xd02ff53475ebccc7c09dfb8ff41f3f72e1036379) ∷
    (1, 5, 12, 16, 3, (1, 0, 0, 0x0) ∷ (1, 0, 0, 0x0) ∷ (31, 2, 32, 0xd4ec8abb965be947843d745701d6035e99490fed43ca9ed979a3033d15ae08db) ∷ (32, 2, 32, 0xb56346cb02715731ea7b6ecea565b827f852d44917f2c27f01cc247dd0c2f114) ∷ (33, 2, 32, 0xdf32e74bdea5ef6d8a621ec47b9e5a29b3e5a9f4c679da1293b1552d977a2b06) ∷ [], 2, 18, 0x7049f62949a3d50726bc07c27a3e2783f745) ∷
    []

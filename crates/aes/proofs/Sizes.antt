-- What a known key length says of rounds and words. Assumes nothing.
use mathlib.Core.Path.{◌≡◌, refl, ap}
use mathlib.Core.Bool.{Bool, true, false}
use Prim.Native.Nat.{ℕ, ◌+◌, ◌*◌, ◌/◌, ◌≤◌}
use native.Mathlib.Omega.{arith}
use lib.Dec.{eqb}
use borrow.Author.Tests.{eqb-true}
use Rattle.std.specs.Prelude.{Some, None}
use Rattle.aes.specs.Key.{size_of, pick_size, known}
use Rattle.aes.specs.declared.key.KeySize.{KeySize}

-- of a key of n bytes with r rounds and w words
pub record Sizes (n r w : ℕ) : Type 0 where
  pub whole : n ≡ 4 * (n / 4)
  pub least : 4 ≤ n / 4
  pub most : n / 4 ≤ 8
  pub rounds : r ≡ n / 4 + 6
  pub words : w ≡ 4 * (r + 1)

sized : (nk n : ℕ) (s : KeySize) → 4 ≤ nk → nk ≤ 8 → n ≡ 4 * nk → known (nk + 6) (4 * (nk + 7)) ≡ Some s → Sizes n s.rounds s.words
sized nk n s l m a e =
    let is : record { rounds = nk + 6; words = 4 * (nk + 7) } ≡ s = cc in
    let r : nk + 6 ≡ s.rounds = ap (λ (k : KeySize). k.rounds) is in
    let w : 4 * (nk + 7) ≡ s.words = ap (λ (k : KeySize). k.words) is in
    record { whole = omega arith; least = omega arith; most = omega arith; rounds = omega arith; words = omega arith }

pub sizes : (n : ℕ) (s : KeySize) → size_of n ≡ Some s → Sizes n s.rounds s.words
unfolding size_of
sizes n s e = go (eqb n 16) (eqb n 24) (eqb n 32) refl refl refl e
  where
    go : (a b c : Bool) → eqb n 16 ≡ a → eqb n 24 ≡ b → eqb n 32 ≡ c
        → pick_size a (known 10 44) (pick_size b (known 12 52) (pick_size c (known 14 60) None)) ≡ Some s → Sizes n s.rounds s.words
    go true b c p q t e = sized 4 n s (omega arith) (omega arith) (eqb-true n 16 p) e
    go false true c p q t e = sized 6 n s (omega arith) (omega arith) (eqb-true n 24 q) e
    go false false true p q t e = sized 8 n s (omega arith) (omega arith) (eqb-true n 32 t) e
    go false false false p q t e = absurd (let z : ◌≡◌ {A = ℕ} 0 1 = cc in omega arith)

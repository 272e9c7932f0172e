-- The small rows of document 01, W1 to W12, computed from the definitions. Assumes nothing.
use mathlib.Core.Path.{◌≡◌, refl}
use mathlib.Core.List.{List, [], ◌∷◌, zip_with}
use Prim.Native.Nat.{ℕ}
use Rattle.lists.specs.Hex.{bytes}
use Rattle.lists.specs.Xor.{xor}
use Rattle.lists.specs.Zeros.{zeros}
use Rattle.field.specs.Field.{product, inverse}
use Rattle.field.specs.Substitution.{affine, substitute}
use Rattle.block.specs.Block.{pad, shift, double, triple_twice, seven}
use Rattle.mode.specs.Nonce.{format}

abbrev computed : List (List ℕ)
computed =
    pad []
    ∷ pad (bytes 15 0xaaaaaaaaaaaaaaaaaaaaaaaaaaaaaa)
    ∷ double (bytes 16 0x00000000000000000000000000000001)
    ∷ double (bytes 16 0x80000000000000000000000000000000)
    ∷ double (bytes 16 0xffffffffffffffffffffffffffffffff)
    ∷ triple_twice (bytes 16 0x00000000000000000000000000000001)
    ∷ seven (bytes 16 0x00000000000000000000000000000001)
    ∷ format 16 (bytes 12 0xa0a1a2a3a4a5a6a7a8a9aaab)
    ∷ format 4 (bytes 12 0xa0a1a2a3a4a5a6a7a8a9aaab)
    ∷ format 8 (bytes 1 0xab)
    ∷ (substitute 0x00 ∷ [])
    ∷ (substitute 0x53 ∷ [])
    ∷ []

abbrev rows : List (List ℕ)
rows =
    bytes 16 0x80000000000000000000000000000000
    ∷ bytes 16 0xaaaaaaaaaaaaaaaaaaaaaaaaaaaaaa80
    ∷ bytes 16 0x00000000000000000000000000000002
    ∷ bytes 16 0x00000000000000000000000000000087
    ∷ bytes 16 0xffffffffffffffffffffffffffffff79
    ∷ bytes 16 0x00000000000000000000000000000005
    ∷ bytes 16 0x00000000000000000000000000000007
    ∷ bytes 16 0x00000001a0a1a2a3a4a5a6a7a8a9aaab
    ∷ bytes 16 0x40000001a0a1a2a3a4a5a6a7a8a9aaab
    ∷ bytes 16 0x800000000000000000000000000001ab
    ∷ bytes 1 0x63
    ∷ bytes 1 0xed
    ∷ []

pub w1_to_w12 : computed ≡ rows
unfolding xor zeros product inverse affine substitute pad shift double zip_with format
w1_to_w12 = refl

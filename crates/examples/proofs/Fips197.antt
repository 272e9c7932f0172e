-- FIPS 197's own examples, computed from the definitions: the ciphers of appendices B, C.1, C.2 and C.3, and of appendix A the
-- last word of each expanded key. Each row is computed by itself, since all of them pass what antt computes in one declaration;
-- `examples` is the one claim. Assumes nothing.
use mathlib.Core.Path.{◌≡◌, refl, ap₂}
use mathlib.Core.List.{List, [], ◌∷◌}
use Prim.Native.Nat.{ℕ}
use Rattle.lists.specs.Hex.{bytes}
use Rattle.lists.specs.Xor.{xor}
use Rattle.field.specs.Field.{product, inverse}
use Rattle.field.specs.Substitution.{affine, substitute}
use Rattle.aes.specs.State.{word}
use Rattle.aes.specs.Cipher.{add_round_key, round, last_round, rounds, cipher}
use Rattle.aes.specs.Expansion.{power, temp, next, words, key_expansion, aes}

-- the three keys of appendix A, the first of which is that of appendix B; the keys and the block of appendix C
abbrev a1 : List ℕ
a1 = bytes 16 0x2b7e151628aed2a6abf7158809cf4f3c

abbrev a2 : List ℕ
a2 = bytes 24 0x8e73b0f7da0e6452c810f32b809079e562f8ead2522c6b7b

abbrev a3 : List ℕ
a3 = bytes 32 0x603deb1015ca71be2b73aef0857d77811f352c073b6108d72d9810a30914dff4

abbrev c1 : List ℕ
c1 = bytes 16 0x000102030405060708090a0b0c0d0e0f

abbrev c2 : List ℕ
c2 = bytes 24 0x000102030405060708090a0b0c0d0e0f1011121314151617

abbrev c3 : List ℕ
c3 = bytes 32 0x000102030405060708090a0b0c0d0e0f101112131415161718191a1b1c1d1e1f

abbrev input : List ℕ
input = bytes 16 0x00112233445566778899aabbccddeeff

row_b : aes a1 (bytes 16 0x3243f6a8885a308d313198a2e0370734) ≡ bytes 16 0x3925841d02dc09fbdc118597196a0b32
unfolding xor product inverse affine substitute add_round_key round last_round rounds cipher power temp next words key_expansion aes
row_b = refl

row_c1 : aes c1 input ≡ bytes 16 0x69c4e0d86a7b0430d8cdb78070b4c55a
unfolding xor product inverse affine substitute add_round_key round last_round rounds cipher power temp next words key_expansion aes
row_c1 = refl

row_c2 : aes c2 input ≡ bytes 16 0xdda97ca4864cdfe06eaf70a0ec0d7191
unfolding xor product inverse affine substitute add_round_key round last_round rounds cipher power temp next words key_expansion aes
row_c2 = refl

row_c3 : aes c3 input ≡ bytes 16 0x8ea2b7ca516745bfeafc49904b496089
unfolding xor product inverse affine substitute add_round_key round last_round rounds cipher power temp next words key_expansion aes
row_c3 = refl

last_words : word (key_expansion a1) 43 ∷ word (key_expansion a2) 51 ∷ word (key_expansion a3) 59 ∷ []
    ≡ bytes 4 0xb6630ca6 ∷ bytes 4 0x01002202 ∷ bytes 4 0x706c631e ∷ []
unfolding xor product inverse affine substitute power temp next words key_expansion
last_words = refl

abbrev computed : List (List ℕ)
computed =
    aes a1 (bytes 16 0x3243f6a8885a308d313198a2e0370734)
    ∷ aes c1 input ∷ aes c2 input ∷ aes c3 input
    ∷ word (key_expansion a1) 43 ∷ word (key_expansion a2) 51 ∷ word (key_expansion a3) 59 ∷ []

abbrev published : List (List ℕ)
published =
    bytes 16 0x3925841d02dc09fbdc118597196a0b32
    ∷ bytes 16 0x69c4e0d86a7b0430d8cdb78070b4c55a
    ∷ bytes 16 0xdda97ca4864cdfe06eaf70a0ec0d7191
    ∷ bytes 16 0x8ea2b7ca516745bfeafc49904b496089
    ∷ bytes 4 0xb6630ca6 ∷ bytes 4 0x01002202 ∷ bytes 4 0x706c631e ∷ []

pub examples : computed ≡ published
examples = ap₂ ◌∷◌ row_b (ap₂ ◌∷◌ row_c1 (ap₂ ◌∷◌ row_c2 (ap₂ ◌∷◌ row_c3 last_words)))

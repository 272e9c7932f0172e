-- The key expansion of FIPS 197, section 5.2, and the cipher under a key. A key of 16, 24 or 32 bytes has nk = 4, 6 or 8 words.
use Rattle.std.specs.Prelude.{Bool, true, false, List, [], ◌∷◌, ◌++◌, ℕ, zero, suc, ◌+◌, ◌-◌, ◌*◌, ◌/◌, ◌%◌, eqb, ltb, length, get_or}
use Rattle.lists.specs.Xor.{xor}
use Rattle.field.specs.Field.{xtime}
use Rattle.field.specs.Substitution.{substitute}
use Rattle.aes.specs.State.{column, word}
use Rattle.aes.specs.Cipher.{cipher}

-- each byte of a word substituted
abbrev pub sub_word : List ℕ → List ℕ
sub_word a = column (λ r. substitute (get_or a r 0))

-- [a0, a1, a2, a3] becomes [a1, a2, a3, a0]
abbrev pub rot_word : List ℕ → List ℕ
rot_word a = column (λ r. get_or a ((r + 1) % 4) 0)

-- xⁿ in the field, and the round constant word [xⁱ⁻¹, 0, 0, 0]
unfoldable pub power : ℕ → ℕ
power zero = 1
power (suc n) = xtime (power n)

abbrev pub rcon : ℕ → List ℕ
rcon i = power (i - 1) ∷ 0 ∷ 0 ∷ 0 ∷ []

abbrev pub if : Bool → List ℕ → List ℕ → List ℕ
if true a b = a
if false a b = b

-- Figure 11: what is added to word i - nk, made from the word before i. The second case is that of 32-byte keys
unfoldable pub temp : ℕ → ℕ → List ℕ → List ℕ
temp nk i a =
    if (eqb (i % nk) 0) (xor (sub_word (rot_word a)) (rcon (i / nk)))
    (if (ltb 6 nk) (if (eqb (i % nk) 4) (sub_word a) a) a)

-- Figure 11: word i is word i - nk ⊕ temp
unfoldable pub next : ℕ → ℕ → List ℕ → List ℕ
next nk i w = xor (word w (i - nk)) (temp nk i (word w (i - 1)))

-- Figure 11: the key, and n words more
unfoldable pub words : ℕ → List ℕ → ℕ → List ℕ
words nk key zero = key
words nk key (suc n) = words nk key n ++ next nk (nk + n) (words nk key n)

-- Figure 4: nr = nk + 6 rounds, for which there are 4 · (nr + 1) words
abbrev pub key_words : List ℕ → ℕ
key_words key = length key / 4

abbrev pub key_rounds : List ℕ → ℕ
key_rounds key = key_words key + 6

unfoldable pub key_expansion : List ℕ → List ℕ
key_expansion key = words (key_words key) key (4 * (key_rounds key + 1) - key_words key)

-- the cipher of FIPS 197 under a key
unfoldable pub aes : List ℕ → List ℕ → List ℕ
aes key b = cipher (key_rounds key) (key_expansion key) b

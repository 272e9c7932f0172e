-- Keys, as a call takes them: what each length has, the round keys as one array, and the cipher of a block.
use Rattle.std.specs.Prelude.{Bool, true, false, List, ℕ, Option, Some, None, option_map, unwrap_or, eqb, length}
use Rattle.lists.specs.Lay.{lay}
use Rattle.lists.specs.Zeros.{zeros}
use Rattle.aes.specs.Expansion.{key_expansion, aes}
use Rattle.aes.specs.declared.key.KeySize.{KeySize}
use Rattle.aes.specs.declared.key.RoundKeys.{RoundKeys}

abbrev pub pick_size : Bool → Option KeySize → Option KeySize → Option KeySize
pick_size true a b = a
pick_size false a b = b

abbrev pub known : ℕ → ℕ → Option KeySize
known r n = Some (record { rounds = r; words = n })

-- FIPS 197, Figure 4: rounds and words for keys of 16, 24 and 32 bytes; no other length has any
unfoldable pub size_of : ℕ → Option KeySize
size_of n = pick_size (eqb n 16) (known 10 44) (pick_size (eqb n 24) (known 12 52) (pick_size (eqb n 32) (known 14 60) None))

-- the round keys of a key of some size: the expanded key at the front of 240 bytes
abbrev pub expanded_as : List ℕ → KeySize → RoundKeys
expanded_as key s = record { rounds = s.rounds; words = lay 0 (key_expansion key) (zeros 240) }

-- the round keys of a key; a refused key has none
abbrev pub expansion_of : List ℕ → Option RoundKeys
expansion_of key = option_map (expanded_as key) (size_of (length key))

-- the same as a record always: a refused key has a record of zeros
unfoldable pub expanded : List ℕ → RoundKeys
expanded key = unwrap_or (expansion_of key) (record { rounds = 0; words = zeros 240 })

-- the cipher of a block under a key; a refused key gives none
unfoldable pub ciphered_of : List ℕ → List ℕ → Option (List ℕ)
ciphered_of key b = option_map (λ s. aes key b) (size_of (length key))

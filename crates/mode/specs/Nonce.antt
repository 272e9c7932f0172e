-- The nonce block, for nonces of k bytes, 1 to 15, and tags of t bytes. In v3.1 it is Format (source document 000, Fig. 1 and Fig. 3;
-- document 02, wish 5). In bits that is n2s(τ mod n, 7) ∥ 0…0 ∥ 1 ∥ N, where τ = 8t. The seven bits are the first of byte 0, and the 1 is
-- the last of byte 15 − k: at k = 15 that is byte 0 too, so the two parts are added.
use mathlib.Core.List.{List, ◌∷◌, ◌++◌, zip_with}
use Rattle.std.specs.Prelude.{ℕ, ◌+◌, ◌-◌, ◌*◌, ◌%◌, length}
use Rattle.lists.specs.Zeros.{zeros}
use Rattle.block.specs.Block.{pad}
use Rattle.mode.specs.Edition.{Edition, V1, V3}

-- byte 0 carries the tag byte, 2 · (8t mod 128)
abbrev pub tag_byte : ℕ → ℕ
tag_byte t = 2 * (8 * t % 128)

abbrev pub tag_part : ℕ → List ℕ
tag_part t = tag_byte t ∷ zeros 15

-- byte 15 − k carries 1, and the nonce stands behind it
abbrev pub nonce_part : List ℕ → List ℕ
nonce_part n = zeros (15 - length n) ++ (1 ∷ n)

-- added byte by byte
unfoldable pub format : ℕ → List ℕ → List ℕ
format t n = zip_with ◌+◌ (tag_part t) (nonce_part n)

-- v1 pads the nonce like a short block, and the tag length is not in it (source document 003, Fig. 1, EF, line 2; document 02, wish 7)
abbrev pub nonce_block : Edition → ℕ → List ℕ → List ℕ
nonce_block V1 t n = pad n
nonce_block (V3 f) t n = format t n

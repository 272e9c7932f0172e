-- The definitions computed: the nonce block, held to rows W8 to W10 of document 01 and to document 02's wish 5; and all of them over a
-- small stand-in cipher, held to what the second program gives and to how many times its cipher ran, with the first mask that a call
-- makes and with one that is lent; and which editions bind the tag length. Assumes nothing.
use mathlib.Core.Path.{◌≡◌, refl}
use mathlib.Core.Bool.{Bool, true, false}
use mathlib.Core.List.{List, [], ◌∷◌, map, zip_with}
use Prim.Native.Nat.{ℕ, zero, suc, ◌+◌, ◌*◌, ◌%◌}
use lib.Dec.{eqb}
use lib.ListN.{length, get_or, take}
use Rattle.lists.specs.Hex.{bytes}
use Rattle.lists.specs.Same.{same}
use Rattle.lists.specs.Table.{table, table_from}
use Rattle.lists.specs.Xor.{xor}
use Rattle.lists.specs.Zeros.{zeros}
use Rattle.block.specs.Block.{pad, shift, double}
use Rattle.mode.specs.Form.{Parallel, Serial}
use Rattle.mode.specs.Edition.{Edition, V1, V3, edition_of}
use Rattle.mode.specs.Masks.{doubles}
use Rattle.mode.specs.Message.{blocks, pairs_of, even, short, sum, pairs, pairs_inputs, body, body_inputs, checksum, te}
use Rattle.mode.specs.Data.{data_sum, sum_inputs, chain, chain_inputs, ta, ta_inputs}
use Rattle.mode.specs.Nonce.{format}
use Rattle.mode.specs.Sealing.{tag, sealed, sealed_inputs, otr_from, from_inputs, otr, otr_inputs}
use Rattle.mode.proofs.Expected.{Row, expected}
use Rattle.mode.proofs.Lent.{expected as lent}

-- W8, W9 and W10
pub nonces : format 16 (bytes 12 0xa0a1a2a3a4a5a6a7a8a9aaab) ∷ format 4 (bytes 12 0xa0a1a2a3a4a5a6a7a8a9aaab) ∷ format 8 (bytes 1 0xab) ∷ []
    ≡ bytes 16 0x00000001a0a1a2a3a4a5a6a7a8a9aaab ∷ bytes 16 0x40000001a0a1a2a3a4a5a6a7a8a9aaab ∷ bytes 16 0x800000000000000000000000000001ab ∷ []
unfolding zeros zip_with format
nonces = refl

-- 15 bytes, with tags of 15, 16 and 4
abbrev nonce15 : List ℕ
nonce15 = bytes 15 0xa0a1a2a3a4a5a6a7a8a9aaabacadae

pub nonces_of_15 : format 15 nonce15 ∷ format 16 nonce15 ∷ format 4 nonce15 ∷ []
    ≡ bytes 16 0xf1a0a1a2a3a4a5a6a7a8a9aaabacadae ∷ bytes 16 0x01a0a1a2a3a4a5a6a7a8a9aaabacadae ∷ bytes 16 0x41a0a1a2a3a4a5a6a7a8a9aaabacadae ∷ []
unfolding zeros zip_with format
nonces_of_15 = refl

-- byte i is 5 times byte i, 3 times the next, and 7i + 11
unfoldable pub stand_in : List ℕ → List ℕ
stand_in b = table (λ i. (5 * get_or b i 0 + 3 * get_or b ((i + 1) % 16) 0 + 7 * i + 11) % 256) 16

-- strings by their lengths: byte i of a message is 7i + 3, of the data 11i + 5, of a nonce 13i + 1
abbrev pub message : ℕ → List ℕ
message = table (λ i. (7 * i + 3) % 256)

abbrev pub data_of : ℕ → List ℕ
data_of = table (λ i. (11 * i + 5) % 256)

abbrev pub nonce_of : ℕ → List ℕ
nonce_of = table (λ i. (13 * i + 1) % 256)

-- a rule of sealing, at the strings of a row
pub of_strings : (Edition → List ℕ → List ℕ → ℕ → List ℕ → ℕ × List ℕ) → Row → ℕ × List ℕ
of_strings seal (e, f, m, a, k, t, n, x) =
    seal (edition_of e f) (nonce_of k) (data_of a) t (message m)

-- the number of blocks handed to the cipher, and the row sealed
pub computed : Row → ℕ × List ℕ
computed = of_strings λ f nonce ad t m. (length (otr_inputs stand_in f nonce ad t m), otr stand_in f nonce ad t m)

-- the same with a first mask that is lent, and is not E of the zero block: its byte i is 19i + 7
pub computed_lent : Row → ℕ × List ℕ
computed_lent = of_strings λ f nonce ad t m. (length (from_inputs stand_in q f nonce ad t m), otr_from stand_in q f nonce ad t m)
  where
    q : List ℕ
    q = table (λ i. (19 * i + 7) % 256) 16

pub given : Row → ℕ × List ℕ
given (e, f, m, a, k, t, n, x) = (n, bytes (m + t) x)

-- the rows of one kind: of v3.1 parallel, serial without data, serial with data; of v1 without data, with data
abbrev pub third_kind : ℕ → ℕ → ℕ
third_kind zero a = 0
third_kind (suc f) zero = 1
third_kind (suc f) (suc a) = 2

abbrev pub first_kind : ℕ → ℕ
first_kind zero = 3
first_kind (suc a) = 4

abbrev pub kind : Row → ℕ
kind (zero, f, m, a, k, t, n, x) = third_kind f a
kind (suc zero, f, m, a, k, t, n, x) = first_kind a
kind (suc (suc e), f, m, a, k, t, n, x) = third_kind f a

abbrev pub keep : Bool → Row → List Row → List Row
keep true row others = row ∷ others
keep false row others = others

pub of : ℕ → List Row → List Row
of i [] = []
of i (row ∷ others) = keep (eqb (kind row) i) row (of i others)

pub parallel_rows : map computed (of 0 expected) ≡ map given (of 0 expected)
unfolding of of_strings computed given stand_in table_from xor zeros pad shift double doubles blocks pairs_of even short sum pairs pairs_inputs body body_inputs checksum te data_sum sum_inputs chain chain_inputs ta ta_inputs zip_with format tag sealed sealed_inputs
parallel_rows = refl

pub serial_rows_without_data : map computed (of 1 expected) ≡ map given (of 1 expected)
unfolding of of_strings computed given stand_in table_from xor zeros pad shift double doubles blocks pairs_of even short sum pairs pairs_inputs body body_inputs checksum te data_sum sum_inputs chain chain_inputs ta ta_inputs zip_with format tag sealed sealed_inputs
serial_rows_without_data = refl

pub serial_rows_with_data : map computed (of 2 expected) ≡ map given (of 2 expected)
unfolding of of_strings computed given stand_in table_from xor zeros pad shift double doubles blocks pairs_of even short sum pairs pairs_inputs body body_inputs checksum te data_sum sum_inputs chain chain_inputs ta ta_inputs zip_with format tag sealed sealed_inputs
serial_rows_with_data = refl

pub first_rows_without_data : map computed (of 3 expected) ≡ map given (of 3 expected)
unfolding of of_strings computed given stand_in table_from xor zeros pad shift double doubles blocks pairs_of even short sum pairs pairs_inputs body body_inputs checksum te data_sum sum_inputs chain chain_inputs ta ta_inputs zip_with format tag sealed sealed_inputs
first_rows_without_data = refl

pub first_rows_with_data : map computed (of 4 expected) ≡ map given (of 4 expected)
unfolding of of_strings computed given stand_in table_from xor zeros pad shift double doubles blocks pairs_of even short sum pairs pairs_inputs body body_inputs checksum te data_sum sum_inputs chain chain_inputs ta ta_inputs zip_with format tag sealed sealed_inputs
first_rows_with_data = refl

pub lent_rows : map computed_lent lent ≡ map given lent
unfolding of_strings computed_lent given stand_in table_from xor zeros pad shift double doubles blocks pairs_of even short sum pairs pairs_inputs body body_inputs checksum te data_sum sum_inputs chain chain_inputs ta ta_inputs zip_with format tag sealed sealed_inputs
lent_rows = refl

-- 20 bytes sealed with a tag of 4, beside the front of them sealed with 16: in v1 the same, in v3.1 not
pub cut : Edition → Bool
cut f = same (otr stand_in f (nonce_of 12) [] 4 (message 20)) (take 24 (otr stand_in f (nonce_of 12) [] 16 (message 20)))

pub binds_the_tag_length : map cut (V1 ∷ V3 Parallel ∷ V3 Serial ∷ []) ≡ true ∷ false ∷ false ∷ []
unfolding cut same stand_in table_from xor zeros pad shift double doubles blocks pairs_of even short sum pairs body checksum te ta zip_with format tag sealed
binds_the_tag_length = refl

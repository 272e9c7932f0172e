-- AES-OTR with AES in the cipher's place, in both editions and forms, computed and held to what the second program gives, its runs of the
-- cipher too. Each row is computed by itself, since together they pass what antt computes in one declaration; `rows` is the one claim.
-- Assumes nothing.
use mathlib.Core.Path.{◌≡◌, refl, ap₂}
use mathlib.Core.List.{List, ◌∷◌, map, zip_with}
use Prim.Native.Nat.{ℕ, ◌+◌, ◌*◌, ◌%◌}
use lib.ListN.{length, get_or}
use Rattle.lists.specs.Hex.{bytes}
use Rattle.lists.specs.Table.{table, table_from}
use Rattle.lists.specs.Xor.{xor}
use Rattle.lists.specs.Zeros.{zeros}
use Rattle.field.specs.Field.{product, inverse}
use Rattle.field.specs.Substitution.{affine, substitute}
use Rattle.aes.specs.Cipher.{add_round_key, round, last_round, rounds, cipher}
use Rattle.aes.specs.Expansion.{power, temp, next, words, key_expansion, aes}
use Rattle.block.specs.Block.{pad, shift, double}
use Rattle.mode.specs.Edition.{edition_of}
use Rattle.mode.specs.Masks.{doubles}
use Rattle.mode.specs.Message.{blocks, pairs_of, even, short, sum, pairs, pairs_inputs, body, body_inputs, checksum, te}
use Rattle.mode.specs.Data.{data_sum, sum_inputs, chain, chain_inputs, ta, ta_inputs}
use Rattle.mode.specs.Nonce.{format}
use Rattle.mode.specs.Sealing.{tag, sealed, sealed_inputs, otr, otr_inputs}
use Rattle.mode.proofs.Agreement.{message, data_of, nonce_of}
use Rattle.rows.proofs.Expected.{Row, expected}

-- byte i of the key is 17i + 2; the other strings are those of the rows over the stand-in cipher
pub computed : Row → ℕ × List ℕ
computed (e, f, key, m, a, k, t, n, x) =
    let E = aes (table (λ i. (17 * i + 2) % 256) key) in
    let nonce = nonce_of k in
    let ad = data_of a in
    (length (otr_inputs E (edition_of e f) nonce ad t (message m)), otr E (edition_of e f) nonce ad t (message m))

pub given : Row → ℕ × List ℕ
given (e, f, key, m, a, k, t, n, x) = (n, bytes (m + t) x)

row_at : ℕ → Row
row_at i = get_or expected i (0, 0, 0, 0, 0, 0, 0, 0, 0)

row_0 : computed (row_at 0) ≡ given (row_at 0)
unfolding row_at computed given table_from xor zeros product inverse affine substitute add_round_key round last_round rounds cipher power temp next words key_expansion aes pad shift double doubles blocks pairs_of even short sum pairs pairs_inputs body body_inputs checksum te data_sum sum_inputs chain chain_inputs ta ta_inputs zip_with format tag sealed sealed_inputs
row_0 = refl

row_1 : computed (row_at 1) ≡ given (row_at 1)
unfolding row_at computed given table_from xor zeros product inverse affine substitute add_round_key round last_round rounds cipher power temp next words key_expansion aes pad shift double doubles blocks pairs_of even short sum pairs pairs_inputs body body_inputs checksum te data_sum sum_inputs chain chain_inputs ta ta_inputs zip_with format tag sealed sealed_inputs
row_1 = refl

row_2 : computed (row_at 2) ≡ given (row_at 2)
unfolding row_at computed given table_from xor zeros product inverse affine substitute add_round_key round last_round rounds cipher power temp next words key_expansion aes pad shift double doubles blocks pairs_of even short sum pairs pairs_inputs body body_inputs checksum te data_sum sum_inputs chain chain_inputs ta ta_inputs zip_with format tag sealed sealed_inputs
row_2 = refl

row_3 : computed (row_at 3) ≡ given (row_at 3)
unfolding row_at computed given table_from xor zeros product inverse affine substitute add_round_key round last_round rounds cipher power temp next words key_expansion aes pad shift double doubles blocks pairs_of even short sum pairs pairs_inputs body body_inputs checksum te data_sum sum_inputs chain chain_inputs ta ta_inputs zip_with format tag sealed sealed_inputs
row_3 = refl

row_4 : computed (row_at 4) ≡ given (row_at 4)
unfolding row_at computed given table_from xor zeros product inverse affine substitute add_round_key round last_round rounds cipher power temp next words key_expansion aes pad shift double doubles blocks pairs_of even short sum pairs pairs_inputs body body_inputs checksum te data_sum sum_inputs chain chain_inputs ta ta_inputs zip_with format tag sealed sealed_inputs
row_4 = refl

row_5 : computed (row_at 5) ≡ given (row_at 5)
unfolding row_at computed given table_from xor zeros product inverse affine substitute add_round_key round last_round rounds cipher power temp next words key_expansion aes pad shift double doubles blocks pairs_of even short sum pairs pairs_inputs body body_inputs checksum te data_sum sum_inputs chain chain_inputs ta ta_inputs zip_with format tag sealed sealed_inputs
row_5 = refl

pub rows : map computed expected ≡ map given expected
unfolding row_at
rows = ap₂ ◌∷◌ row_0 (ap₂ ◌∷◌ row_1 (ap₂ ◌∷◌ row_2 (ap₂ ◌∷◌ row_3 (ap₂ ◌∷◌ row_4 (ap₂ ◌∷◌ row_5 refl)))))

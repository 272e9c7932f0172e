-- The definitions of sealing in parts computed, over the stand-in cipher: every call's runs and bytes, held to what the second program
-- gives. Assumes nothing.
use mathlib.Core.Path.{◌≡◌, refl}
use mathlib.Core.List.{List, [], ◌∷◌, ◌++◌, map, zip_with}
use Prim.Native.Nat.{ℕ, ◌+◌, ◌*◌, ◌%◌}
use lib.ListN.{length}
use Rattle.lists.specs.Hex.{bytes}
use Rattle.lists.specs.Table.{table, table_from}
use Rattle.lists.specs.Xor.{xor}
use Rattle.lists.specs.Zeros.{zeros}
use Rattle.block.specs.Block.{pad, shift, double}
use Rattle.mode.specs.Form.{form_of}
use Rattle.mode.specs.Edition.{V3}
use Rattle.mode.specs.Masks.{doubles}
use Rattle.mode.specs.Message.{blocks, pairs_of, even, short, sum, pairs, pairs_inputs, body, body_inputs, checksum}
use Rattle.mode.specs.Data.{data_sum, sum_inputs, chain, chain_inputs, ta, ta_inputs, q_inputs, with_data}
use Rattle.mode.specs.Nonce.{format}
use Rattle.mode.specs.Sealing.{masks, added, call_inputs}
use Rattle.mode.specs.Feeding.{Between, begun, fed, fed_bytes, fed_inputs, end_bytes, end_inputs}
use Rattle.mode.proofs.Agreement.{stand_in, data_of, nonce_of}
use Rattle.mode.proofs.Divided.{Row, expected}

-- the calls behind the beginning, where i bytes are fed, each with its runs and what comes out; byte i of a message is 7i + 3
pub calls : List ℕ → ℕ → Between → ℕ → List (ℕ × ℕ × ℕ × ℕ) → List (ℕ × List ℕ)
calls a t s i [] = (length (end_inputs stand_in s), end_bytes stand_in a t s) ∷ []
calls a t s i ((n, runs, long, x) ∷ parts) =
    let part = table (λ j. (7 * (i + j) + 3) % 256) n in
    (length (fed_inputs stand_in s part), fed_bytes stand_in s part) ∷ calls a t (fed s part) (i + n) parts

-- the beginning's runs, and the calls behind it
pub computed : Row → ℕ × List (ℕ × List ℕ)
computed (f, a, k, t, n, parts, runs, long, x) =
    let nonce = nonce_of k in
    let ad = data_of a in
    let q = stand_in (zeros 16) in (
      length (q_inputs (with_data ad) ++ call_inputs stand_in q (V3 (form_of f)) nonce ad t),
      calls (added stand_in q (V3 (form_of f)) nonce ad t) t (begun (masks stand_in q (V3 (form_of f)) nonce ad t)) 0 parts,
    )

pub given : Row → ℕ × List (ℕ × List ℕ)
given (f, a, k, t, n, parts, runs, long, x) = (n, map (λ g. (g.1, bytes g.2 g.3)) parts ++ ((runs, bytes long x) ∷ []))

pub divisions : map computed expected ≡ map given expected
unfolding calls computed given stand_in table_from xor zeros pad shift double doubles blocks pairs_of even short sum pairs pairs_inputs body body_inputs checksum data_sum sum_inputs chain chain_inputs ta ta_inputs zip_with format
divisions = refl

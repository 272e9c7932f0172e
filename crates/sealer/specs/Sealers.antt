-- Document 02, wish 3: the sealers that go on, begun, fed and ended, and the checks of feeding and ending.
use Rattle.std.specs.Prelude.{Bool, ◌&&◌, List, ℕ, ◌+◌, ◌*◌, leb, length, Ok}
use Rattle.lists.specs.Zeros.{zeros}
use Rattle.block.specs.Block.{triple}
use Rattle.mode.specs.Form.{form_of}
use Rattle.mode.specs.declared.edition.Edition.TheVariants.{V3}
use Rattle.mode.specs.Message.{pairs_of}
use Rattle.mode.specs.Sealing.{u, added}
use Rattle.mode.specs.Feeding.{Between, keeps}
use Rattle.link.specs.Checks.{Check, from_to, unless, known_rounds}
use Rattle.link.specs.declared.answer.Refusal.TheVariants.{Length, Room, Ended}
use Rattle.parts.specs.State.{between, fed_state}
use Rattle.sealer.specs.declared.Sealer.{Sealer}

-- A sealer goes on where its round count, its tag length and the number of bytes fed are ones that a call can have left. Any other value,
-- whoever made it, counts as ended. None keeps more than 32 bytes, as their number follows from the number fed (`keeps`).
abbrev pub going_on : ℕ → ℕ → ℕ → Bool
going_on rounds t fed = known_rounds rounds && (from_to 4 16 t && leb fed 16384)

-- what stands between two calls, in the mode's words
abbrev pub standing : Sealer → Between
standing s = between s.state (keeps s.fed)

-- ---- a sealer that was fed nothing: the masks of the first pair are U and 3U. E is the cipher of the round count nr and the round keys w,
-- and q a first mask of the data pass
abbrev pub begun_by : (List ℕ → List ℕ) → List ℕ → ℕ → List ℕ → ℕ → List ℕ → List ℕ → ℕ → Sealer
begun_by E q nr w form nonce ad t =
    record {
      rounds = nr;
      words = w;
      state =
          record {
            left = u E q (V3 (form_of form)) nonce ad t;
            right = triple (u E q (V3 (form_of form)) nonce ad t);
            sum = zeros 16;
            kept = zeros 32;
          };
      added = added E q (V3 (form_of form)) nonce ad t;
      tag = t;
      fed = 0;
    }

-- one that has taken in the part x
abbrev pub fed_by : Sealer → List ℕ → Sealer
fed_by s x =
    record {
      rounds = s.rounds;
      words = s.words;
      state = fed_state s.state (keeps s.fed) x;
      added = s.added;
      tag = s.tag;
      fed = s.fed + length x;
    }

-- a sealer after its end, and after a beginning that was refused: zeros all over
abbrev pub ended : Sealer
ended =
    record {
      rounds = 0;
      words = zeros 240;
      state = record { left = zeros 16; right = zeros 16; sum = zeros 16; kept = zeros 32 };
      added = zeros 16;
      tag = 0;
      fed = 0;
    }

-- ---- the checks
-- feeding x bytes into o: 9, 5, and 6 where what is due has no room
unfoldable pub feed_check : ℕ → ℕ → ℕ → ℕ → ℕ → Check
feed_check rounds t fed x o =
    unless (going_on rounds t fed) Ended
    (unless (leb (fed + x) 16384) Length
    (unless (leb (32 * pairs_of (keeps fed + x)) o) Room (Ok (32 * pairs_of (keeps fed + x)))))

-- ending into o: 9, and 6 where the rest and the tag have no room
unfoldable pub end_check : ℕ → ℕ → ℕ → ℕ → Check
end_check rounds t fed o = unless (going_on rounds t fed) Ended (unless (leb (keeps fed + t) o) Room (Ok (keeps fed + t)))

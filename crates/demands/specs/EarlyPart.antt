-- Document 02, wish 12, about a promise: what an early part may reveal.
use Rattle.std.specs.Prelude.{◌≡◌, ◌↔◌, List, ℕ}
use Rattle.mode.specs.EarlyPart.{early, Longer}
use Rattle.link.specs.Answers.{Answer, number_of}

-- `Sealed ad m out r after` is what the promise allows for the associated data ad and the message m, with all else held fast: the answer r
-- and the buffer after, from the buffer out. Of two messages, each longer than 32·j bytes, both sealed with answer 0, what comes out
-- agrees on the first 32·j bytes exactly if the messages do, whatever follows, and whatever the associated data.
--
-- It is for the parallel form alone: the serial U depends on the associated data (source document 000, Fig. 3, EF-S, line 2), so that two
-- data give two first pairs of one message (computed in `Rattle.mode`, `StaysOut`, `data_tell`). Why a length of exactly 32·j stays out is
-- there too
abbrev pub EarlyPart : (List ℕ → List ℕ → List ℕ → Answer → List ℕ → Type 0) → Type 0
EarlyPart Sealed =
    (j : ℕ) (ad ad' m m' out out' : List ℕ) (r r' : Answer) (after after' : List ℕ)
    → Longer j m → Longer j m'
    → Sealed ad m out r after → Sealed ad' m' out' r' after'
    → number_of r ≡ 0 → number_of r' ≡ 0
    → (early j after ≡ early j after') ↔ (early j m ≡ early j m')

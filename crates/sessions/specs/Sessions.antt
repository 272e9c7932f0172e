-- The words that the statements about sessions are made in. C is any cipher that goes by a round count and round keys.
use Rattle.std.specs.Prelude.{◌≡◌, Bool, true, false, ◌⊎◌, ◌↔◌, List, [], ◌++◌, ℕ, zero, suc, ◌+◌, ◌-◌, ◌*◌, ◌/◌, eqb, length, take}
use Rattle.link.specs.Answers.{number_of, length_of, runs_of}
use Rattle.sealer.specs.declared.Sealer.{Sealer}
use Rattle.sealer.specs.declared.Step.{Step}
use Rattle.sealer.specs.Sealers.{going_on, ended}
use Rattle.sealer.specs.Promises.{beginning, Feeds, Ends}

-- after n bytes fed so many are out (document 02, wish 3): nothing if n is 0, otherwise 32·(⌈n/32⌉ − 1)
abbrev pub out_after : ℕ → ℕ
out_after zero = 0
out_after (suc n) = 32 * ((suc n + 31) / 32 - 1)

-- a call, with the buffer that it is lent: a part is fed, or the end is asked for
pub data Call : Type 0 where
  feed : List ℕ → List ℕ → Call
  end : List ℕ → Call

abbrev pub buffer : Call → List ℕ
buffer (feed x out) = out
buffer (end out) = out

-- that it keeps its promise, with the step r and the buffer after
abbrev pub Kept : (ℕ → List ℕ → List ℕ → List ℕ) → Sealer → Call → Step → List ℕ → Type 0
Kept C s (feed x out) r after = Feeds C s x out r after
Kept C s (end out) r after = Ends C s out r after

-- the bytes that a call takes in: those of a part that was accepted
abbrev pub fed_if : Bool → List ℕ → List ℕ
fed_if true x = x
fed_if false x = []

abbrev pub taken_in : Call → Step → List ℕ
taken_in (feed x out) r = fed_if (eqb (number_of r.answer) 0) x
taken_in (end out) r = []

-- calls in turn, from the sealer s to the sealer `last`, each with the sealer that the one before handed back: the bytes that were taken
-- in, what was written, joined, and how many times the cipher ran
pub data Session (C : ℕ → List ℕ → List ℕ → List ℕ) : Sealer → List ℕ → List ℕ → ℕ → Sealer → Type 0 where
  none : (s : Sealer) → Session C s [] [] 0 s
  call : (s : Sealer) (c : Call) (r : Step) (after : List ℕ) → Kept C s c r after → (m o : List ℕ) (k : ℕ) (last : Sealer)
      → Session C r.sealer m o k last
      → Session C s (taken_in c r ++ m) (take (length_of r.answer) after ++ o) (runs_of r.answer + k) last

-- how it stands after calls that took in m, wrote o and ran the cipher j times, the beginning included, where one call seals m to `whole m`
-- with `runs m` runs: the sealer goes on, and so much of that has come out as wish 3 says; or it has ended, and all of it has
pub data Came (whole : List ℕ → List ℕ) (runs : List ℕ → ℕ) (m o : List ℕ) (j : ℕ) (s : Sealer) : Type 0 where
  goes_on : going_on s.rounds s.tag s.fed ≡ true → length o ≡ out_after (length m) → o ≡ take (out_after (length m)) (whole m)
      → Came whole runs m o j s
  has_ended : s ≡ ended → o ≡ whole m → j ≡ runs m → Came whole runs m o j s

-- ---- document 02, wish 12
-- a sealer that was begun with these settings, has taken in m and written o, in whatever calls, and goes on
pub record Running (C : ℕ → List ℕ → List ℕ → List ℕ) (form : ℕ) (key nonce ad : List ℕ) (t : ℕ) (m o : List ℕ) : Type 0 where
  pub begun : number_of (beginning C form key nonce ad t).answer ≡ 0
  pub runs : ℕ
  pub now : Sealer
  pub calls : Session C (beginning C form key nonce ad t).sealer m o runs now
  pub going : going_on now.rounds now.tag now.fed ≡ true

-- two data that, with all other settings the same, leave the masks alike: any in the parallel form, and in the serial one, whose U is made
-- of them, the same
abbrev pub Alike : ℕ → List ℕ → List ℕ → Type 0
Alike form ad ad' = (form ≡ 0) ⊎ (ad ≡ ad')

-- what has come out depends on those settings and on so many bytes of those taken in as wish 3 says are out, and tells these apart, exactly
abbrev pub EarlyPart : (ℕ → List ℕ → List ℕ → List ℕ) → ℕ → List ℕ → List ℕ → ℕ → Type 0
EarlyPart C form key nonce t =
    (ad ad' m m' o o' : List ℕ)
    → Alike form ad ad'
    → Running C form key nonce ad t m o → Running C form key nonce ad' t m' o'
    → (o ≡ o') ↔ (take (out_after (length m)) m ≡ take (out_after (length m')) m')

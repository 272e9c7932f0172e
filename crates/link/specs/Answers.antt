-- Document 01, 'What comes back', and document 02, wishes 1, 3, 6, 7, 8 and 13: the number, the length and the runs of the cipher of
-- each answer.
use Rattle.std.specs.Prelude.{[], ◌∷◌, ℕ, get_or, Result, Ok, Err}
use Rattle.link.specs.declared.answer.Done.{Done}
use Rattle.link.specs.declared.answer.Refusal.{Refusal}
use Rattle.link.specs.declared.answer.Refusal.TheVariants.{Key, Nonce, Tag, Data, Length, Room, Forged, Form, Ended, Edition, SameKey, Plan}

abbrev pub Answer : Type 0
Answer = Result Done Refusal

-- done, with n bytes written after k runs
abbrev pub done : ℕ → ℕ → Answer
done n k = Ok (record { length = n; runs = k })

abbrev pub number_of : Answer → ℕ
number_of (Ok d) = 0
number_of (Err Key) = 1
number_of (Err Nonce) = 2
number_of (Err Tag) = 3
number_of (Err Data) = 4
number_of (Err Length) = 5
number_of (Err Room) = 6
number_of (Err (Forged k)) = 7
number_of (Err Form) = 8
number_of (Err Ended) = 9
number_of (Err Edition) = 10
number_of (Err SameKey) = 11
number_of (Err Plan) = 13

abbrev pub length_of : Answer → ℕ
length_of (Ok d) = d.length
length_of (Err r) = 0

abbrev pub runs_of : Answer → ℕ
runs_of (Ok d) = d.runs
runs_of (Err Key) = 0
runs_of (Err Nonce) = 0
runs_of (Err Tag) = 0
runs_of (Err Data) = 0
runs_of (Err Length) = 0
runs_of (Err Room) = 0
runs_of (Err (Forged k)) = k
runs_of (Err Form) = 0
runs_of (Err Ended) = 0
runs_of (Err Edition) = 0
runs_of (Err SameKey) = 0
runs_of (Err Plan) = 0

-- the answer that a number from 0 to 11, or 13, stands for, where a call that is done has length n, and one that ran the cipher ran it
-- k times; no answer has another number, which gives that of 11
abbrev pub answer_of : ℕ → ℕ → ℕ → Answer
answer_of i n k =
    get_or (done n k ∷ Err Key ∷ Err Nonce ∷ Err Tag ∷ Err Data ∷ Err Length ∷ Err Room ∷ Err (Forged k) ∷ Err Form ∷ Err Ended ∷ Err Edition ∷ Err SameKey ∷ Err SameKey ∷ Err Plan ∷ []) i (Err SameKey)

-- Whatever calls follow a beginning that was accepted, refused ones and parts of no bytes among them: what has come out is the front of
-- what one call seals, as long as wish 3 says, and after the end it is all of that; and so with the runs. For any cipher and both forms.
-- Assumes nothing.
use mathlib.Core.Path.{◌≡◌, refl, sym, ap, ap₂, subst, ◌∙◌}
use mathlib.Core.Bool.{Bool, true}
use mathlib.Core.List.{List, [], ◌++◌, append_assoc, append-nil}
use Prim.Native.Nat.{ℕ, zero, suc, ◌+◌, ◌*◌, ◌≤◌}
use native.Mathlib.Nat.{add-zero, zero-add, add_assoc}
use native.Mathlib.Omega.{arith}
use lib.Dec.{eqb}
use lib.ListN.{length, take, drop, length-append, length-drop}
use lib.Seq.{take_at}
use borrow.Author.Tests.{le-leb, ne_eqb}
use Rattle.std.specs.Prelude.{Result, Ok}
use Rattle.lists.specs.Lay.{lay}
use Rattle.lists.specs.Zeros.{zeros}
use Rattle.lists.proofs.Zeros.{length-zeros}
use Rattle.aes.specs.Key.{expanded}
use Rattle.mode.specs.Form.{form_of}
use Rattle.mode.specs.declared.edition.Edition.{Edition}
use Rattle.mode.specs.declared.edition.Edition.TheVariants.{V3}
use Rattle.mode.specs.Masks.{Masks, IsCipher, AreMasks}
use Rattle.mode.specs.Message.{blocks, pairs_of, rest, pairs, pairs_inputs}
use Rattle.mode.specs.Data.{q_inputs, with_data}
use Rattle.mode.specs.Sealing.{data_tag, masks, added, sealed_inputs, call_inputs, otr, otr_inputs}
use Rattle.mode.specs.Feeding.{Between, keeps, fed_bytes, fed_inputs, end_bytes, end_inputs}
use Rattle.mode.proofs.Counts.{pairs_are, pairs-within}
use Rattle.mode.proofs.Pairs.{length_pairs}
use Rattle.mode.proofs.Data.{length-data_tag}
use Rattle.mode.proofs.Otr.{otr-masks, length-otr}
use Rattle.mode.proofs.EarlyPart.{early_is}
use Rattle.mode.proofs.Feeding.{reached, fed_joined, fed_inputs_joined, end_joined, end_inputs_joined, count_fed}
use Rattle.link.specs.Answers.{done, number_of, length_of, runs_of}
use Rattle.link.specs.Checks.{Check, known_key, call_check}
use Rattle.link.specs.declared.answer.Refusal.{Refusal}
use Rattle.link.proofs.Answers.{never_0}
use Rattle.link.proofs.Verdicts.{Verdict, passes, stops, Called, call_verdict, sure}
use Rattle.link.proofs.Entries.{rounds_known_lem}
use Rattle.sealer.specs.declared.Sealer.{Sealer}
use Rattle.sealer.specs.declared.Step.{Step}
use Rattle.sealer.specs.Sealers.{going_on, standing, fed_by, ended, feed_check, end_check}
use Rattle.sealer.specs.Promises.{keyed, begun_with, begin_runs, begin_by, beginning, Feeds, Ends}
use Rattle.sealer.proofs.Verdicts.{feed_verdict, end_verdict}
use Rattle.sessions.specs.Sessions.{out_after, Call, feed, end, buffer, Kept, fed_if, taken_in, Session, none, call, Came, goes_on, has_ended}
use Rattle.sessions.proofs.Checked.{IsRefusal, is_ended, Unchanged, Outcome, accepted, refused, feed_outcome, end_outcome, stays_ended}
use Rattle.sessions.proofs.Reached.{sealer_at, sealer_none, sealer_stands, sealer_fed}

-- the client's rule is the mode's number of pairs
pub out_is : (n : ℕ) → out_after n ≡ 32 * pairs_of n
out_is zero = omega (arith, pairs_are 0)
out_is (suc n) = omega (arith, pairs_are (suc n))

-- what is laid at the front, taken again
front_taken : (bytes out : List ℕ) (n : ℕ) → length bytes ≡ n → take n (lay 0 bytes out) ≡ bytes
front_taken bytes out n h = take_at bytes (drop (0 + length bytes) out) n h

-- the number of bytes that checks passed with
counted : {P : Type 0} {i : ℕ} {c : Check} → Verdict P i c → (n : ℕ) → c ≡ Ok n → n ≡ i
counted v n h =
    let e = (sure v n h).1 in
    cc

module _ (C : ℕ → List ℕ → List ℕ → List ℕ) (ciphers : (nr : ℕ) (w : List ℕ) → IsCipher (C nr w)) (form : ℕ) (key nonce ad : List ℕ) (t : ℕ) where
  -- ---- a beginning that was accepted
  abbrev E : List ℕ → List ℕ
  E = keyed C key

  abbrev f : Edition
  f = V3 (form_of form)

  abbrev k : Masks
  k = masks E (E (zeros 16)) f nonce ad t

  abbrev a : List ℕ
  a = added E (E (zeros 16)) f nonce ad t

  begun : {P : Type 0} {c : Result (Unit {0}) Refusal} → Verdict P (tt {0}) c → number_of (begin_by C c form key nonce ad t).answer ≡ 0 → P × (c ≡ Ok (tt {0}))
  begun (passes p e) h = (p, e)
  begun (stops r e) h = absurd (never_0 r (sym (ap (λ (c : Result (Unit {0}) Refusal). number_of (begin_by C c form key nonce ad t).answer) e) ∙ h))

  module _ (yes : number_of (beginning C form key nonce ad t).answer ≡ 0) where
    pub begun_with_lem : Called 3 form (known_key (length key)) (length nonce) t (length ad) × (call_check 3 form (known_key (length key)) (length nonce) t (length ad) (Ok (tt {0})) ≡ Ok (tt {0}))
    unfolding beginning
    begun_with_lem = begun (call_verdict 3 form (known_key (length key)) (length nonce) t (length ad)) yes

    begin_is : beginning C form key nonce ad t ≡ record { answer = done 0 (begin_runs C form key nonce ad t); sealer = begun_with C form key nonce ad t }
    unfolding beginning
    begin_is = ap (λ (c : Result (Unit {0}) Refusal). begin_by C c form key nonce ad t) begun_with_lem.1

    e : IsCipher E
    e = ciphers (expanded key).rounds (expanded key).words

    ta_long : length (data_tag E (E (zeros 16)) f ad) ≡ 16
    ta_long = length-data_tag E e (E (zeros 16)) (e (zeros 16) (length-zeros 16)) f ad

    pub are : AreMasks k
    are = otr-masks E e (E (zeros 16)) f nonce ad t ta_long begun_with_lem.0.nonces.1

    sealed_long : (m : List ℕ) → length (otr E f nonce ad t m) ≡ length m + t
    sealed_long = length-otr E e (E (zeros 16)) f nonce ad t ta_long begun_with_lem.0.nonces.1 begun_with_lem.0.tags.1

    goes : (m : List ℕ) → length m ≤ 16384 → going_on (expanded key).rounds t (length m) ≡ true
    goes m h =
        let tags = begun_with_lem.0.tags in
        rw (rounds_known_lem key begun_with_lem.0.known, le-leb 4 t tags.0, le-leb t 16 tags.1, le-leb (length m) 16384 h)

    -- ---- lengths of what a part and the end give
    out_long : (m : List ℕ) → length (pairs E k (pairs_of (length m)) m) ≡ 32 * pairs_of (length m)
    out_long m = length_pairs E e k are (pairs_of (length m)) m (pairs-within (length m))

    fed_long : (m x : List ℕ) → length (fed_bytes E (reached k m) x) ≡ 32 * pairs_of (keeps (length m) + length x)
    fed_long m x =
        let all = ap length (fed_joined k m x E) in
        let hand = ap pairs_of (length-append (rest m) x ∙ ap (λ (n : ℕ). n + length x) (length-drop (32 * pairs_of (length m)) m)) in
        omega (
          arith,
          all,
          length-append (pairs E k (pairs_of (length m)) m) (fed_bytes E (reached k m) x),
          out_long m,
          out_long (m ++ x),
          count_fed k m x,
          hand,
        )

    end_long : (m : List ℕ) → length (end_bytes E a t (reached k m)) ≡ keeps (length m) + t
    end_long m =
        let all = ap length (end_joined E k m a t) in
        omega (
          arith,
          all,
          length-append (pairs E k (pairs_of (length m)) m) (end_bytes E a t (reached k m)),
          out_long m,
          sealed_long m,
          pairs-within (length m),
        )

    -- so many bytes of what one call seals are the pairs
    pub out_front : (m : List ℕ) → take (out_after (length m)) (otr E f nonce ad t m) ≡ pairs E k (pairs_of (length m)) m
    out_front m =
        ap (λ (n : ℕ). take n (otr E f nonce ad t m)) (out_is (length m)) ∙ early_is E e k are (pairs_of (length m)) a t m (omega arith)

    -- ---- how it stands once the bytes of m are taken in, o is out, and the cipher has run j times since the beginning
    data Stands (m o : List ℕ) (j : ℕ) (s : Sealer) : Type 0 where
      going : s ≡ sealer_at C form key nonce ad t m → length m ≤ 16384 → o ≡ pairs E k (pairs_of (length m)) m → j ≡ length (pairs_inputs E k (pairs_of (length m)) m) → Stands m o j s
      over : s ≡ ended → o ≡ otr E f nonce ad t m → j ≡ length (sealed_inputs E k m) → Stands m o j s

    -- the same by other names
    moved : (m m' o o' : List ℕ) (j j' : ℕ) (s s' : Sealer) → m ≡ m' → o ≡ o' → j ≡ j' → s ≡ s' → Stands m o j s → Stands m' o' j' s'
    moved m m' o o' j j' s s' hm ho hj hs h =
        subst (Stands m' o' j') hs (subst (λ (n : ℕ). Stands m' o' n s) hj (subst (λ (l : List ℕ). Stands m' l j s) ho (subst (λ (l : List ℕ). Stands l o j s) hm h)))

    -- a refused call leaves it so
    nothing_taken : (c : Call) (r : Step) → IsRefusal r.answer → taken_in c r ≡ []
    nothing_taken (feed x out) r h = ap (λ (b : Bool). fed_if b x) (ne_eqb (number_of r.answer) 0 h.number)
    nothing_taken (end out) r h = refl

    unchanged : (m o : List ℕ) (j : ℕ) (s : Sealer) → Stands m o j s → (c : Call) (r : Step) (after : List ℕ) → Unchanged s (buffer c) r after
        → Stands (m ++ taken_in c r) (o ++ take (length_of r.answer) after) (j + runs_of r.answer) r.sealer
    unchanged m o j s h c r after u =
        moved m (m ++ taken_in c r) o (o ++ take (length_of r.answer) after) j (j + runs_of r.answer) s r.sealer
        (sym (ap (λ (l : List ℕ). m ++ l) (nothing_taken c r u.refusal) ∙ append-nil m))
        (sym (ap (λ (n : ℕ). o ++ take n after) u.refusal.long ∙ append-nil o)) (sym (ap (λ (n : ℕ). j + n) u.refusal.runs ∙ add-zero j)) (sym u.sealer) h

    module _ (m : List ℕ) (short : length m ≤ 16384) where
      S : Sealer
      S = sealer_at C form key nonce ad t m

      O : List ℕ
      O = pairs E k (pairs_of (length m)) m

      J : ℕ
      J = length (pairs_inputs E k (pairs_of (length m)) m)

      stands : Stands m O J S
      unfolding S O J
      stands = going refl short refl refl

      -- a part fed
      after_feed : (x out : List ℕ) (r : Step) (after : List ℕ) → Feeds C S x out r after
          → Stands (m ++ taken_in (feed x out) r) (O ++ take (length_of r.answer) after) (J + runs_of r.answer) r.sealer
      unfolding S O J
      after_feed x out r after h = go (feed_outcome C S x out r after h)
        where
          go : Outcome (feed_check S.rounds S.tag S.fed (length x) (length out)) (length (fed_inputs E (standing S) x)) (fed_bytes E (standing S) x) (fed_by S x) S out r after
              → Stands (m ++ taken_in (feed x out) r) (O ++ take (length_of r.answer) after) (J + runs_of r.answer) r.sealer
          go (refused q) = unchanged m O J S stands (feed x out) r after q
          go (accepted n come is laid) =
              let at : standing S ≡ reached k m = sealer_stands C form key nonce ad t m in
              let verdict = feed_verdict S.rounds S.tag S.fed (length x) (length out) in
              let long : length (fed_bytes E (reached k m) x) ≡ n = fed_long m x ∙ sym (counted verdict n come) in
              let most : length (m ++ x) ≤ 16384 = omega (arith, length-append m x, (sure verdict n come).0.1) in
              moved (m ++ x) (m ++ taken_in (feed x out) r) (pairs E k (pairs_of (length (m ++ x))) (m ++ x)) (O ++ take (length_of r.answer) after)
              (length (pairs_inputs E k (pairs_of (length (m ++ x))) (m ++ x))) (J + runs_of r.answer) (sealer_at C form key nonce ad t (m ++ x)) r.sealer
              (sym (ap (λ (y : Step). m ++ fed_if (eqb (number_of y.answer) 0) x) is))
              (sym
              (ap₂ (λ (y : Step) (b : List ℕ). O ++ take (length_of y.answer) b) is laid
              ∙ ap (λ (b : Between). O ++ take n (lay 0 (fed_bytes E b x) out)) at
              ∙ ap (λ (b : List ℕ). O ++ b) (front_taken (fed_bytes E (reached k m) x) out n long)
              ∙ fed_joined k m x E))
              (sym
              (ap (λ (y : Step). J + runs_of y.answer) is
              ∙ ap (λ (b : Between). J + length (fed_inputs E b x)) at
              ∙ sym (length-append (pairs_inputs E k (pairs_of (length m)) m) (fed_inputs E (reached k m) x))
              ∙ ap length (fed_inputs_joined k m x E)))
              (sym (ap (λ (y : Step). y.sealer) is ∙ sealer_fed C form key nonce ad t m x))
              (going refl most refl refl)

      -- the end
      after_end : (out : List ℕ) (r : Step) (after : List ℕ) → Ends C S out r after
          → Stands (m ++ taken_in (end out) r) (O ++ take (length_of r.answer) after) (J + runs_of r.answer) r.sealer
      unfolding S O J
      after_end out r after h = go (end_outcome C S out r after h)
        where
          go : Outcome (end_check S.rounds S.tag S.fed (length out)) (length (end_inputs E (standing S))) (end_bytes E S.added S.tag (standing S)) ended S out r after
              → Stands (m ++ taken_in (end out) r) (O ++ take (length_of r.answer) after) (J + runs_of r.answer) r.sealer
          go (refused q) = unchanged m O J S stands (end out) r after q
          go (accepted n come is laid) =
              let at : standing S ≡ reached k m = sealer_stands C form key nonce ad t m in
              let long : length (end_bytes E a t (reached k m)) ≡ n = end_long m ∙ sym (counted (end_verdict S.rounds S.tag S.fed (length out)) n come) in
              moved m (m ++ []) (otr E f nonce ad t m) (O ++ take (length_of r.answer) after) (length (sealed_inputs E k m)) (J + runs_of r.answer) ended r.sealer
              (sym (append-nil m))
              (sym
              (ap₂ (λ (y : Step) (b : List ℕ). O ++ take (length_of y.answer) b) is laid
              ∙ ap (λ (b : Between). O ++ take n (lay 0 (end_bytes E a t b) out)) at
              ∙ ap (λ (b : List ℕ). O ++ b) (front_taken (end_bytes E a t (reached k m)) out n long)
              ∙ end_joined E k m a t))
              (sym
              (ap (λ (y : Step). J + runs_of y.answer) is
              ∙ ap (λ (b : Between). J + length (end_inputs E b)) at
              ∙ sym (length-append (pairs_inputs E k (pairs_of (length m)) m) (end_inputs E (reached k m)))
              ∙ ap length (end_inputs_joined E k m)))
              (sym (ap (λ (y : Step). y.sealer) is)) (over refl refl refl)

    -- any call
    step : (m o : List ℕ) (j : ℕ) (s : Sealer) → Stands m o j s → (c : Call) (r : Step) (after : List ℕ) → Kept C s c r after
        → Stands (m ++ taken_in c r) (o ++ take (length_of r.answer) after) (j + runs_of r.answer) r.sealer
    unfolding S O J
    step m o j s (going hs short ho hj) (feed x out) r after h =
        moved _ _ _ _ _ _ _ _ refl (ap (λ (l : List ℕ). l ++ take (length_of r.answer) after) (sym ho)) (ap (λ (n : ℕ). n + runs_of r.answer) (sym hj)) refl
        (after_feed m short x out r after (subst (λ (z : Sealer). Feeds C z x out r after) hs h))
    step m o j s (going hs short ho hj) (end out) r after h =
        moved _ _ _ _ _ _ _ _ refl (ap (λ (l : List ℕ). l ++ take (length_of r.answer) after) (sym ho)) (ap (λ (n : ℕ). n + runs_of r.answer) (sym hj)) refl
        (after_end m short out r after (subst (λ (z : Sealer). Ends C z out r after) hs h))
    step m o j s (over hs ho hj) c r after h =
        let q = stays_ended C s (ap (λ (z : Sealer). going_on z.rounds z.tag z.fed) hs) c r after h in
        unchanged m o j s (over hs ho hj) c r after
        (record { refusal = subst IsRefusal (sym (ap (λ (y : Step). y.answer) q.0)) is_ended; sealer = ap (λ (y : Step). y.sealer) q.0; buffer = q.1 })

    -- and any number of them
    steps : {s last : Sealer} {m' o' : List ℕ} {j' : ℕ} → Session C s m' o' j' last → (m o : List ℕ) (j : ℕ) → Stands m o j s → Stands (m ++ m') (o ++ o') (j + j') last
    steps (none s) m o j h =
        moved m (m ++ []) o (o ++ []) j (j + 0) s s (sym (append-nil m)) (sym (append-nil o)) (sym (add-zero j)) refl h
    steps (call s c r after kept n p i last others) m o j h =
        let y = take (length_of r.answer) after in
        let runs = runs_of r.answer in
        moved ((m ++ taken_in c r) ++ n) (m ++ (taken_in c r ++ n)) ((o ++ y) ++ p) (o ++ (y ++ p)) (j + runs + i) (j + (runs + i)) last last
        (append_assoc m (taken_in c r) n) (append_assoc o y p) (add_assoc j runs i) refl
        (steps others (m ++ taken_in c r) (o ++ y) (j + runs) (step m o j s h c r after kept))

    from_begin : (m o : List ℕ) (j : ℕ) (last : Sealer) → Session C (beginning C form key nonce ad t).sealer m o j last → Stands m o j last
    unfolding pairs pairs_inputs blocks pairs_of
    from_begin m o j last h =
        let first : sealer_at C form key nonce ad t [] ≡ (beginning C form key nonce ad t).sealer = sym (ap (λ (y : Step). y.sealer) begin_is ∙ sealer_none C form key nonce ad t) in
        subst (λ (i : ℕ). Stands m o i last) (zero-add j) (steps h [] [] 0 (subst (Stands [] [] 0) first (going refl (omega arith) refl refl)))

    -- for any cipher: after any calls what has come out is so much of what one call seals, or all of it
    pub any_session : (m o : List ℕ) (j : ℕ) (last : Sealer) → Session C (beginning C form key nonce ad t).sealer m o j last
        → Came (otr (keyed C key) (V3 (form_of form)) nonce ad t) (λ n. length (otr_inputs (keyed C key) (V3 (form_of form)) nonce ad t n)) m o (runs_of (beginning C form key nonce ad t).answer + j) last
    any_session m o j last h = go (from_begin m o j last h)
      where
        go : Stands m o j last → Came (otr E f nonce ad t) (λ n. length (otr_inputs E f nonce ad t n)) m o (runs_of (beginning C form key nonce ad t).answer + j) last
        go (going hs short ho hj) =
            goes_on (ap (λ (z : Sealer). going_on z.rounds z.tag z.fed) hs ∙ goes m short) (ap length ho ∙ out_long m ∙ sym (out_is (length m))) (ho ∙ sym (out_front m))
        go (over hs ho hj) =
            let q = q_inputs (with_data ad) in
            let c = call_inputs E (E (zeros 16)) f nonce ad t in
            has_ended hs ho
            (ap₂ ◌+◌ (ap (λ (y : Step). runs_of y.answer) begin_is) hj
            ∙ sym (length-append (q ++ c) (sealed_inputs E k m))
            ∙ ap length (append_assoc q c (sealed_inputs E k m)))

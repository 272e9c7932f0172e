-- The inputs are all that is handed to the cipher: two ciphers that agree on them seal to the same, and open to the same, whether the
-- first mask is lent or a call's own. So no run is left out of a list. Assumes nothing.
use mathlib.Core.Path.{◌≡◌, refl, sym, ap, ap₂, subst, ◌∙◌}
use mathlib.Core.Bool.{Bool, true, false}
use mathlib.Core.List.{List, [], ◌∷◌, ◌++◌}
use Prim.Native.Nat.{ℕ, zero, suc, ◌+◌, ◌-◌, ◌*◌, ◌≤◌}
use native.Mathlib.Omega.{arith}
use lib.ListN.{length, take, drop}
use Rattle.lists.specs.Same.{same}
use Rattle.lists.specs.Xor.{xor}
use Rattle.lists.specs.Zeros.{zeros}
use Rattle.lists.proofs.Zeros.{length-zeros}
use Rattle.block.specs.Block.{pad}
use Rattle.mode.specs.Form.{Parallel, Serial}
use Rattle.mode.specs.Edition.{Edition, V1, V3, form_in}
use Rattle.mode.specs.Masks.{Masks, IsCipher, AreMasks, doubles, masks_of}
use Rattle.mode.specs.Message.{blocks, pairs_of, even, block, rest, short, sum, base, final, one_inputs, half, pair, pair_inputs, z, last, ending, ending_inputs, end_sum, pairs, pairs_inputs, l, r, body, body_inputs, checksum, te, te_input}
use Rattle.mode.specs.Data.{start_q, data_sum, sum_inputs, chain, chain_inputs, data_pass, data_last, ta, ta_inputs, q_inputs, with_data}
use Rattle.mode.specs.Sealing.{tag, sealed, sealed_inputs, first_mask, into_tag, data_tag, masks, added, otr_from, call_inputs, from_inputs, otr, otr_inputs}
use Rattle.mode.specs.Opening.{Opened, Allowed}
use Rattle.mode.specs.Undoing.{swapped, first, unending, unending_inputs, unbody, unbody_inputs, undone_inputs, answer, opened, found_from, found_from_inputs, found, found_inputs}
use Rattle.mode.proofs.Ends.{Remains, first_undone}
use Rattle.mode.proofs.Walk.{remains, length-unbody}
use Rattle.mode.proofs.Parts.{rest_undone}
use Rattle.mode.proofs.Data.{length-data_tag}
use Rattle.mode.proofs.Otr.{otr-masks, otr_opens, otr_one_answer}

-- E and F give the same for each block of a list
abbrev pub Agree : (List ℕ → List ℕ) → (List ℕ → List ℕ) → List (List ℕ) → Type 0
Agree E F [] = Unit {0}
Agree E F (x ∷ xs) = (E x ≡ F x) × Agree E F xs

-- TA from the first mask of a call's own
own_long : (E : List ℕ → List ℕ) → IsCipher E → (f : Edition) (ad : List ℕ) → length (data_tag E (E (zeros 16)) f ad) ≡ 16
own_long E e f ad = length-data_tag E e (E (zeros 16)) (e (zeros 16) (length-zeros 16)) f ad

module _ (E F : List ℕ → List ℕ) where
  front : (xs ys : List (List ℕ)) → Agree E F (xs ++ ys) → Agree E F xs
  front [] ys h = tt
  front (x ∷ xs) ys h = (h.0, front xs ys h.1)

  back : (xs ys : List (List ℕ)) → Agree E F (xs ++ ys) → Agree E F ys
  back [] ys h = h
  back (x ∷ xs) ys h = back xs ys h.1

  -- ---- the message pass
  pair_same : (l r p q : List ℕ) → Agree E F (pair_inputs E l r p q) → pair E l r p q ≡ pair F l r p q
  pair_same l r p q h =
      let first_is : half E l p q ≡ half F l p q = ap (xor q) h.0 in
      let second_is : half E r (half E l p q) p ≡ half F r (half F l p q) p = ap (xor p) (h.1.0 ∙ ap (λ (x : List ℕ). F (xor r x)) first_is) in
      ap₂ ◌++◌ first_is second_is

  module _ (k : Masks) where
    pairs_same : (n : ℕ) (m : List ℕ) → Agree E F (pairs_inputs E k n m) → pairs E k n m ≡ pairs F k n m
    unfolding pairs pairs_inputs
    pairs_same zero m h = refl
    pairs_same (suc n) m h =
        let here = pair_inputs E (k.left n) (k.right n) (block m (32 * n)) (block m (32 * n + 16)) in
        ap₂ ◌++◌ (pairs_same n m (front (pairs_inputs E k n m) here h))
        (pair_same (k.left n) (k.right n) (block m (32 * n)) (block m (32 * n + 16)) (back (pairs_inputs E k n m) here h))

  one_same : (l x : List ℕ) → Agree E F (one_inputs l x) → xor x (E l) ≡ xor x (F l)
  unfolding xor
  one_same l [] h = refl
  one_same l (b ∷ bs) h = ap (xor (b ∷ bs)) h.0

  ending_same : (t : Bool) (l r x : List ℕ) → Agree E F (ending_inputs E t l r x) → ending E t l r x ≡ ending F t l r x
  ending_same true l r x h =
      let last_is : last E l x ≡ last F l x = ap (xor (drop 16 x)) h.0 in
      ap₂ ◌++◌ (ap (xor (take 16 x)) (h.1.0 ∙ ap (λ (y : List ℕ). F (xor r (pad y))) last_is)) last_is
  ending_same false l r x h = one_same l x h

  -- a checksum needs the cipher only where two blocks remain, and then of the first of them
  sum_same : (t : Bool) (l x : List ℕ) → (t ≡ true → z E l x ≡ z F l x) → end_sum E t l x ≡ end_sum F t l x
  sum_same true l x h =
      let z_is = h refl in
      ap₂ (λ (a b : List ℕ). xor a (pad (xor (drop 16 x) b))) z_is z_is
  sum_same false l x h = refl

  z_listed : (t : Bool) (l r x : List ℕ) → Agree E F (ending_inputs E t l r x) → t ≡ true → z E l x ≡ z F l x
  z_listed true l r x h e = h.0
  z_listed false l r x h e = absurd (let z : ◌≡◌ {A = ℕ} 0 1 = cc in omega arith)

  module _ (k : Masks) where
    te_same : (m : List ℕ) → (even (length m) ≡ true → z E (l E k m) (rest m) ≡ z F (l E k m) (rest m))
        → E (te_input E k m) ≡ F (te_input E k m) → te E k m ≡ te F k m
    unfolding te checksum
    te_same m hz h =
        h
        ∙ ap (λ (x : List ℕ). F (xor (final k (short m) (base (even (length m)) (l E k m) (r E k m))) (xor (sum (pairs_of (length m)) m) x)))
        (sum_same (even (length m)) (l E k m) (rest m) hz)

    -- over any masks, and any a that goes into the tag
    pub sealed_same : (a : List ℕ) (t : ℕ) (m : List ℕ) → Agree E F (sealed_inputs E k m) → sealed E k a t m ≡ sealed F k a t m
    unfolding sealed sealed_inputs tag body body_inputs
    sealed_same a t m h =
        let n = pairs_of (length m) in
        let ends = ending_inputs E (even (length m)) (l E k m) (r E k m) (rest m) in
        let hb = front (body_inputs E k m) (te_input E k m ∷ []) h in
        let he = back (pairs_inputs E k n m) ends hb in
        let body_is : body E k m ≡ body F k m =
        ap₂ ◌++◌ (pairs_same k n m (front (pairs_inputs E k n m) ends hb)) (ending_same (even (length m)) (l E k m) (r E k m) (rest m) he) in
        let te-is = te_same m (z_listed (even (length m)) (l E k m) (r E k m) (rest m) he) (back (body_inputs E k m) (te_input E k m ∷ []) h).0 in
        ap₂ ◌++◌ body_is (ap (λ (x : List ℕ). take t (xor x a)) te-is)

  -- ---- the data pass
  data_sum_same : (q : List ℕ) (n : ℕ) (a : List ℕ) → Agree E F (sum_inputs q n a) → data_sum E q n a ≡ data_sum F q n a
  unfolding data_sum sum_inputs
  data_sum_same q zero a h = refl
  data_sum_same q (suc n) a h =
      let here = xor (doubles n q) (block a (16 * n)) in
      ap₂ xor (data_sum_same q n a (front (sum_inputs q n a) (here ∷ []) h)) (back (sum_inputs q n a) (here ∷ []) h).0

  chain_same : (n : ℕ) (a : List ℕ) → Agree E F (chain_inputs E n a) → chain E n a ≡ chain F n a
  unfolding chain chain_inputs
  chain_same zero a h = refl
  chain_same (suc n) a h =
      let here = xor (block a (16 * n)) (chain E n a) in
      (back (chain_inputs E n a) (here ∷ []) h).0
      ∙ ap (λ (x : List ℕ). F (xor (block a (16 * n)) x)) (chain_same n a (front (chain_inputs E n a) (here ∷ []) h))

  xi_same : (q : List ℕ) (f : Edition) (n : ℕ) (a : List ℕ) → Agree E F ((data_pass E q f).inputs n a) → (data_pass E q f).xi n a ≡ (data_pass F q f).xi n a
  xi_same q V1 n a h = data_sum_same (start_q V1 q) n a h
  xi_same q (V3 Parallel) n a h = data_sum_same q n a h
  xi_same q (V3 Serial) n a h = chain_same n a h

  mask_same : (q : List ℕ) (f : Edition) (n : ℕ) (s : Bool) → (data_pass E q f).mask n s ≡ (data_pass F q f).mask n s
  mask_same q V1 n s = refl
  mask_same q (V3 Parallel) n s = refl
  mask_same q (V3 Serial) n s = refl

  ta_same : (q : List ℕ) (f : Edition) (a : List ℕ) → Agree E F (ta_inputs E (data_pass E q f) a) → data_tag E q f a ≡ data_tag F q f a
  unfolding ta ta_inputs
  ta_same q f [] h = refl
  ta_same q f (b ∷ bs) h =
      let a = b ∷ bs in
      let n = blocks (length a) - 1 in
      let x = drop (16 * n) a in
      let d = data_pass E q f in
      let here = data_last E d n a x in
      (back (d.inputs n a) (here ∷ []) h).0
      ∙ ap₂ (λ (k y : List ℕ). F (xor k (xor y (pad x)))) (mask_same q f n _) (xi_same q f n a (front (d.inputs n a) (here ∷ []) h))

  own_same : (f : Edition) (ad : List ℕ) → Agree E F (q_inputs (with_data ad)) → Agree E F (ta_inputs E (data_pass E (E (zeros 16)) f) ad)
      → data_tag E (E (zeros 16)) f ad ≡ data_tag F (F (zeros 16)) f ad
  unfolding ta
  own_same f [] hq h = refl
  own_same f (b ∷ bs) hq h = ta_same (E (zeros 16)) f (b ∷ bs) h ∙ ap (λ (q : List ℕ). data_tag F q f (b ∷ bs)) hq.0

  -- ---- opening
  unending_same : (t : Bool) (l r x : List ℕ) → Agree E F (unending_inputs E t l r x) → unending E t l r x ≡ unending F t l r x
  unending_same true l r x h =
      let first_is : first E r x ≡ first F r x = ap (xor (take 16 x)) h.0 in
      ap₂ ◌++◌ first_is (ap (xor (drop 16 x)) (h.1.0 ∙ ap (λ (y : List ℕ). F (xor l y)) first_is))
  unending_same false l r x h = one_same l x h

  first_listed : (t : Bool) (l r x : List ℕ) → Agree E F (unending_inputs E t l r x) → t ≡ true → E (xor l (first E r x)) ≡ F (xor l (first E r x))
  first_listed true l r x h e = h.1.0
  first_listed false l r x h e = absurd (let z : ◌≡◌ {A = ℕ} 0 1 = cc in omega arith)

  module _ (e : IsCipher E) (k : Masks) (s : AreMasks k) (c : List ℕ) (h : Agree E F (undone_inputs E k c)) where
    n : ℕ
    n = pairs_of (length c)

    ends : List (List ℕ)
    ends = unending_inputs E (even (length c)) (l E k c) (r E k c) (rest c)

    of_body : Agree E F (unbody_inputs E k c)
    unfolding undone_inputs
    of_body = front (unbody_inputs E k c) (te_input E k (unbody E k c) ∷ []) h

    of_end : Agree E F ends
    unfolding n ends unbody_inputs
    of_end = back (pairs_inputs E (swapped k) n c) ends of_body

    unbody_same : unbody E k c ≡ unbody F k c
    unfolding n ends unbody unbody_inputs
    unbody_same =
        ap₂ ◌++◌ (pairs_same (swapped k) n c (front (pairs_inputs E (swapped k) n c) ends of_body))
        (unending_same (even (length c)) (l E k c) (r E k c) (rest c) of_end)

    -- where two blocks remain of what was recovered, the checksum takes the first of them, which is listed
    long : length (unbody E k c) ≡ length c
    long = length-unbody E e k s c

    first_is : even (length c) ≡ true → take 16 (rest (unbody E k c)) ≡ first E (r E k c) (rest c)
    first_is two =
        ap (λ (b : ℕ). take 16 (drop (32 * pairs_of b) (unbody E k c))) long
        ∙ ap (take 16) (rest_undone E e k s true c two)
        ∙ first_undone E e (l E k c) (r E k c) (s.left (pairs_of (length c))) (s.right (pairs_of (length c))) (rest c)
        (subst (λ (t : Bool). Remains t (rest c)) two (remains c))

    z_undone : even (length (unbody E k c)) ≡ true → z E (l E k (unbody E k c)) (rest (unbody E k c)) ≡ z F (l E k (unbody E k c)) (rest (unbody E k c))
    unfolding ends
    z_undone two =
        let two-c = sym (ap even long) ∙ two in
        let is = ap₂ (λ (b : ℕ) (x : List ℕ). xor (k.left (pairs_of b)) x) long (first_is two-c) in
        ap E is ∙ first_listed (even (length c)) (l E k c) (r E k c) (rest c) of_end two-c ∙ sym (ap F is)

    te_undone_same : te E k (unbody E k c) ≡ te F k (unbody F k c)
    unfolding undone_inputs
    te_undone_same =
        te_same k (unbody E k c) z_undone (back (unbody_inputs E k c) (te_input E k (unbody E k c) ∷ []) h).0 ∙ ap (te F k) unbody_same

  -- over any masks, and any a that goes into the tag
  pub opened_same : IsCipher E → (k : Masks) → AreMasks k → (a : List ℕ) (t : ℕ) (x : List ℕ)
      → Agree E F (undone_inputs E k (take (length x - t) x)) → opened E k a t x ≡ opened F k a t x
  unfolding opened tag
  opened_same e k s a t x h =
      let c = take (length x - t) x in
      ap₂ (λ (y p : List ℕ). answer (same (take t (xor y a)) (drop (length x - t) x)) p) (te_undone_same e k s c h) (unbody_same e k s c h)

  -- ---- a call that names f, from the first mask p under E and q under F, of which no more is asked than that TA comes to the same
  module _ (p q : List ℕ) (f : Edition) (nonce ad : List ℕ) (t : ℕ) (tas : Agree E F (ta_inputs E (data_pass E p f) ad) → data_tag E p f ad ≡ data_tag F q f ad) where
    module _ (h : Agree E F (call_inputs E p f nonce ad t)) where
      masks_same : masks E p f nonce ad t ≡ masks F q f nonce ad t
      masks_same = ap₂ (λ (v a : List ℕ). masks_of f (first_mask (form_in f) v a)) h.0 (tas h.1)

      added_same : added E p f nonce ad t ≡ added F q f nonce ad t
      added_same = ap (into_tag (form_in f)) (tas h.1)

    sealing_same : (m : List ℕ) → Agree E F (from_inputs E p f nonce ad t m) → otr_from E p f nonce ad t m ≡ otr_from F q f nonce ad t m
    sealing_same m h =
        let k = masks E p f nonce ad t in
        let hc = front (call_inputs E p f nonce ad t) (sealed_inputs E k m) h in
        sealed_same k (added E p f nonce ad t) t m (back (call_inputs E p f nonce ad t) (sealed_inputs E k m) h)
        ∙ ap (λ (j : Masks). sealed F j (added E p f nonce ad t) t m) (masks_same hc)
        ∙ ap (λ (a : List ℕ). sealed F (masks F q f nonce ad t) a t m) (added_same hc)

    module _ (e : IsCipher E) (hp : length (data_tag E p f ad) ≡ 16) (hn : length nonce ≤ 15) (x : List ℕ) (h : Agree E F (found_from_inputs E p f nonce ad t x)) where
      finding_same : found_from E p f nonce ad t x ≡ found_from F q f nonce ad t x
      finding_same =
          let k = masks E p f nonce ad t in
          let c = take (length x - t) x in
          let hc = front (call_inputs E p f nonce ad t) (undone_inputs E k c) h in
          opened_same e k (otr-masks E e p f nonce ad t hp hn) (added E p f nonce ad t) t x (back (call_inputs E p f nonce ad t) (undone_inputs E k c) h)
          ∙ ap (λ (j : Masks). opened F j (added E p f nonce ad t) t x) (masks_same hc)
          ∙ ap (λ (a : List ℕ). opened F (masks F q f nonce ad t) a t x) (added_same hc)

      -- said by sealing alone: what opening may answer under E and what it may under F
      allowing_same : IsCipher F → length (data_tag F q f ad) ≡ 16 → t ≤ 16 → t ≤ length x
          → (o r : Opened) → Allowed (otr_from E p f nonce ad t) x o → Allowed (otr_from F q f nonce ad t) x r → o ≡ r
      allowing_same g hq ht long o r allowed allowed' =
          otr_one_answer E e p f nonce ad t hp hn ht x o (found_from E p f nonce ad t x) allowed (otr_opens E e p f nonce ad t hp hn ht x long)
          ∙ finding_same
          ∙ otr_one_answer F g q f nonce ad t hq hn ht x (found_from F q f nonce ad t x) r (otr_opens F g q f nonce ad t hq hn ht x long) allowed'

  -- ---- with a first mask that is lent, the same to both
  module _ (q : List ℕ) (f : Edition) (nonce ad : List ℕ) (t : ℕ) where
    pub lent_same : (m : List ℕ) → Agree E F (from_inputs E q f nonce ad t m) → otr_from E q f nonce ad t m ≡ otr_from F q f nonce ad t m
    lent_same = sealing_same q q f nonce ad t (ta_same q f ad)

    pub lent_found_same : IsCipher E → length q ≡ 16 → length nonce ≤ 15 → (x : List ℕ) → Agree E F (found_from_inputs E q f nonce ad t x)
        → found_from E q f nonce ad t x ≡ found_from F q f nonce ad t x
    lent_found_same e hq = finding_same q q f nonce ad t (ta_same q f ad) e (length-data_tag E e q hq f ad)

    pub lent_allowed_same : IsCipher E → IsCipher F → length q ≡ 16 → length nonce ≤ 15 → t ≤ 16 → (x : List ℕ) → t ≤ length x
        → Agree E F (found_from_inputs E q f nonce ad t x)
        → (o r : Opened) → Allowed (otr_from E q f nonce ad t) x o → Allowed (otr_from F q f nonce ad t) x r → o ≡ r
    lent_allowed_same e g hq hn ht x long h =
        allowing_same q q f nonce ad t (ta_same q f ad) e (length-data_tag E e q hq f ad) hn x h g (length-data_tag F g q hq f ad) ht long

  -- ---- with the first mask of a call's own, E of the zero block
  module _ (f : Edition) (nonce ad : List ℕ) (t : ℕ) where
    pub otr_same : (m : List ℕ) → Agree E F (otr_inputs E f nonce ad t m) → otr E f nonce ad t m ≡ otr F f nonce ad t m
    otr_same m h =
        let others = from_inputs E (E (zeros 16)) f nonce ad t m in
        sealing_same (E (zeros 16)) (F (zeros 16)) f nonce ad t (own_same f ad (front (q_inputs (with_data ad)) others h)) m (back (q_inputs (with_data ad)) others h)

    pub found_same : IsCipher E → length nonce ≤ 15 → (x : List ℕ) → Agree E F (found_inputs E f nonce ad t x) → found E f nonce ad t x ≡ found F f nonce ad t x
    found_same e hn x h =
        let others = found_from_inputs E (E (zeros 16)) f nonce ad t x in
        finding_same (E (zeros 16)) (F (zeros 16)) f nonce ad t (own_same f ad (front (q_inputs (with_data ad)) others h)) e (own_long E e f ad) hn x
        (back (q_inputs (with_data ad)) others h)

    pub allowed_same : IsCipher E → IsCipher F → length nonce ≤ 15 → t ≤ 16 → (x : List ℕ) → t ≤ length x → Agree E F (found_inputs E f nonce ad t x)
        → (o r : Opened) → Allowed (otr E f nonce ad t) x o → Allowed (otr F f nonce ad t) x r → o ≡ r
    allowed_same e g hn ht x long h =
        let others = found_from_inputs E (E (zeros 16)) f nonce ad t x in
        allowing_same (E (zeros 16)) (F (zeros 16)) f nonce ad t (own_same f ad (front (q_inputs (with_data ad)) others h)) e (own_long E e f ad) hn x
        (back (q_inputs (with_data ad)) others h) g (own_long F g f ad) ht long

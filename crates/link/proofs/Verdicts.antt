-- What the checks come to: they pass, and then every length is within its limits; or the first that fails stops the call with its
-- own number. Assumes nothing.
use mathlib.Core.Path.{◌≡◌, refl, sym, ap, ap₂, subst, ◌∙◌}
use mathlib.Core.Bool.{Bool, true, false, ◌&&◌}
use mathlib.Core.List.{List}
use Prim.Native.Nat.{ℕ, ◌+◌, ◌-◌, ◌≤◌}
use native.Mathlib.Omega.{arith}
use lib.Dec.{leb}
use borrow.Author.Tests.{leb-true, le-leb}
use Rattle.lists.specs.Lay.{lay}
use Rattle.std.specs.Prelude.{Result, Ok, Err}
use Rattle.link.specs.Answers.{Answer, done, number_of}
use Rattle.link.specs.Checks.{Check, from_to, unless, known_edition, last_form, call_check, seal_next, open_next}
use Rattle.link.specs.Promises.{SealsBy}
use Rattle.link.specs.declared.answer.Refusal.{Refusal}
use Rattle.link.specs.declared.answer.Refusal.TheVariants.{Key, Nonce, Tag, Data, Length, Room, Form, Edition}
use Rattle.link.proofs.Answers.{never_0}

-- the checks c come to n with P known, or stop at a refusal
pub data Verdict (P : Type 0) {A : Type 0} (n : A) (c : Result A Refusal) : Type 0 where
  passes : P → c ≡ Ok n → Verdict P n c
  stops : (r : Refusal) → c ≡ Err r → Verdict P n c

-- where the checks pass, what they make sure of is known
pub sure : {P A : Type 0} {n : A} {c : Result A Refusal} → Verdict P n c → (i : A) → c ≡ Ok i → P × (c ≡ Ok n)
sure (passes p e) i h = (p, e)
sure (stops x e) i h = absurd (cc)

-- checks that came to a number have passed
pub went_on : {P : Type 0} {n : ℕ} {c : Check} → Verdict P n c → (i : ℕ) → c ≡ Ok i → P × (c ≡ Ok n)
went_on = sure

-- a sealing that is done: they have passed, and the bytes are laid
pub sealing_done : {P : Type 0} {n : ℕ} {c : Check} → Verdict P n c → (k : ℕ) (bytes out : List ℕ) (r : Answer) (after : List ℕ)
    → SealsBy c k bytes out r after → number_of r ≡ 0 → P × (r ≡ done n k) × (after ≡ lay 0 bytes out)
sealing_done (passes p e) k bytes out r after h z =
    let q = subst (λ (c : Check). SealsBy c k bytes out r after) e h in
    (p, q.0, q.1)
sealing_done (stops x e) k bytes out r after h z =
    let q = subst (λ (c : Check). SealsBy c k bytes out r after) e h in
    absurd (never_0 x (sym (ap number_of q.0) ∙ z))

-- one check more in front
pub checked : {P A : Type 0} {n : A} {c : Result A Refusal} (b : Bool) (r : Refusal) → (b ≡ true → Verdict P n c) → Verdict P n (unless b r c)
checked true r f = f refl
checked false r f = stops r refl

-- where the checks c stop, the checks d stop likewise; and so with one check more in front of both
abbrev StopsWith : {A B : Type 0} → Result A Refusal → Result B Refusal → Type 0
StopsWith c d = (r : Refusal) → c ≡ Err r → d ≡ Err r

stopped : {A B : Type 0} {c : Result A Refusal} {d : Result B Refusal} (b : Bool) (x : Refusal) → StopsWith c d → StopsWith (unless b x c) (unless b x d)
stopped true x f = f
stopped false x f = λ r e. let same : x ≡ r = cc in ap Err same

-- both halves of a range test
pub and_true : (a b : Bool) → (a && b) ≡ true → (a ≡ true) × (b ≡ true)
and_true true b h = (refl, h)
and_true false b h = absurd (let z : ◌≡◌ {A = ℕ} 0 1 = cc in omega arith)

pub within : (l h a : ℕ) → from_to l h a ≡ true → (l ≤ a) × (a ≤ h)
within l h a t =
    let p = and_true (leb l a) (leb a h) t in
    (leb-true l a p.0, leb-true a h p.1)

pub in_range : (l h a : ℕ) → l ≤ a → a ≤ h → from_to l h a ≡ true
in_range l h a p q = ap₂ ◌&&◌ (le-leb l a p) (le-leb a h q)

-- ---- what checks 10, 8 and 1 to 4 make sure of; k says whether the key is known
pub record Called (edition form : ℕ) (k : Bool) (nonce t ad : ℕ) : Type 0 where
  pub editions : known_edition edition ≡ true
  pub forms : form ≤ last_form edition
  pub known : k ≡ true
  pub nonces : (1 ≤ nonce) × (nonce ≤ 15)
  pub tags : (4 ≤ t) × (t ≤ 16)
  pub data_most : ad ≤ 4096

-- and all eight: the message, or the sealed bytes, within their limits too, and room for what is written
abbrev pub SealFits : ℕ → ℕ → Bool → ℕ → ℕ → ℕ → ℕ → ℕ → Type 0
SealFits edition form k nonce t ad m o = Called edition form k nonce t ad × (m ≤ 16384) × (m + t ≤ o)

abbrev pub OpenFits : ℕ → ℕ → Bool → ℕ → ℕ → ℕ → ℕ → ℕ → Type 0
OpenFits edition form k nonce t ad s o = Called edition form k nonce t ad × (t ≤ s) × (s ≤ 16384 + t) × (s - t ≤ o)

module _ (edition form : ℕ) (k : Bool) (nonce t ad : ℕ) where
  -- whatever comes after them
  pub then_verdict : {A : Type 0} (P : Type 0) (n : A) (c : Result A Refusal) → (Called edition form k nonce t ad → Verdict P n c) → Verdict P n (call_check edition form k nonce t ad c)
  unfolding call_check
  then_verdict P n c f =
      checked (known_edition edition) Edition λ e.
      checked (leb form (last_form edition)) Form λ p.
      checked k Key λ known.
      checked (from_to 1 15 nonce) Nonce λ s.
      checked (from_to 4 16 t) Tag λ g.
      checked (leb ad 4096) Data λ a.
      f (record { editions = e; forms = leb-true form (last_form edition) p; known = known; nonces = within 1 15 nonce s; tags = within 4 16 t g; data_most = leb-true ad 4096 a })

  pub call_verdict : Verdict (Called edition form k nonce t ad) (tt {0}) (call_check edition form k nonce t ad (Ok (tt {0})))
  call_verdict = then_verdict (Called edition form k nonce t ad) (tt {0}) (Ok (tt {0})) (λ h. passes h refl)

  pub seal_verdict : (m o : ℕ) → Verdict (SealFits edition form k nonce t ad m o) (m + t) (call_check edition form k nonce t ad (seal_next t m o))
  seal_verdict m o =
      then_verdict (SealFits edition form k nonce t ad m o) (m + t) (seal_next t m o) λ h.
      checked (leb m 16384) Length λ l.
      checked (leb (m + t) o) Room λ r.
      passes (h, leb-true m 16384 l, leb-true (m + t) o r) refl

  pub open_verdict : (s o : ℕ) → Verdict (OpenFits edition form k nonce t ad s o) (s - t) (call_check edition form k nonce t ad (open_next t s o))
  open_verdict s o =
      then_verdict (OpenFits edition form k nonce t ad s o) (s - t) (open_next t s o) λ h.
      checked (from_to t (16384 + t) s) Length λ l.
      checked (leb (s - t) o) Room λ r.
      passes (h, (within t (16384 + t) s l).0, (within t (16384 + t) s l).1, leb-true (s - t) o r) refl

  -- ---- where all that they make sure of is so, they pass
  module _ (f : Called edition form k nonce t ad) where
    pub lets_by_all : {A : Type 0} (next : Result A Refusal) → call_check edition form k nonce t ad next ≡ next
    unfolding call_check
    lets_by_all next =
        rw (
          f.editions,
          le-leb form (last_form edition) f.forms,
          f.known,
          in_range 1 15 nonce f.nonces.0 f.nonces.1,
          in_range 4 16 t f.tags.0 f.tags.1,
          le-leb ad 4096 f.data_most,
        )

    pub seal_passes : (m o : ℕ) → m ≤ 16384 → m + t ≤ o → call_check edition form k nonce t ad (seal_next t m o) ≡ Ok (m + t)
    seal_passes m o p q = lets_by_all (seal_next t m o) ∙ rw (le-leb m 16384 p, le-leb (m + t) o q)

    pub open_passes : (s o : ℕ) → t ≤ s → s ≤ 16384 + t → s - t ≤ o → call_check edition form k nonce t ad (open_next t s o) ≡ Ok (s - t)
    open_passes s o p q r = lets_by_all (open_next t s o) ∙ rw (in_range t (16384 + t) s p q, le-leb (s - t) o r)

  -- ---- checks 10, 8 and 1 to 4 alone, as the code runs them: where they stop, they stop whatever comes after them
  pub stops_here : {A : Type 0} (next : Result A Refusal) (r : Refusal) → Err r ≡ call_check edition form k nonce t ad (Ok (tt {0}))
      → Err r ≡ call_check edition form k nonce t ad next
  unfolding call_check
  stops_here next r e =
      sym
      (stopped (known_edition edition) Edition
      (stopped (leb form (last_form edition)) Form
      (stopped k Key
      (stopped (from_to 1 15 nonce) Nonce
      (stopped (from_to 4 16 t) Tag
      (stopped (leb ad 4096) Data (λ x h. absurd (cc))))))) r (sym e))

  -- and where they pass, what they make sure of is known
  pub called : (u : Unit {0}) → Ok u ≡ call_check edition form k nonce t ad (Ok (tt {0})) → Called edition form k nonce t ad
  called u e = (sure call_verdict u (sym e)).0

  -- and what comes after them decides
  pub goes_on : (u : Unit {0}) → Ok u ≡ call_check edition form k nonce t ad (Ok (tt {0})) → {A : Type 0} (next : Result A Refusal)
      → call_check edition form k nonce t ad next ≡ next
  goes_on u e = lets_by_all (called u e)

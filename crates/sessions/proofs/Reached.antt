-- The sealer that stands after the bytes of m were fed, in whatever parts: what it is, what comes of it, and what has come out before.
-- Over any cipher C, and a key, a nonce and data with which a beginning was accepted. Assumes nothing.
use mathlib.Core.Path.{◌≡◌, refl, sym, ap, ap₂, ◌∙◌}
use mathlib.Core.List.{List, [], ◌++◌}
use Prim.Native.Nat.{ℕ, ◌+◌, ◌*◌}
use lib.ListN.{length, drop, length-append, length-drop}
use lib.Seq.{take_at}
use Rattle.lists.specs.Zeros.{zeros}
use Rattle.aes.specs.Key.{expanded}
use Rattle.block.specs.Block.{triple}
use Rattle.mode.specs.Form.{form_of}
use Rattle.mode.specs.declared.edition.Edition.TheVariants.{V3}
use Rattle.mode.specs.Masks.{Masks, doubles, third}
use Rattle.mode.specs.Message.{blocks, pairs_of, rest, sum}
use Rattle.mode.specs.Sealing.{u, masks, added}
use Rattle.mode.specs.Feeding.{Between, keeps, due, fed}
use Rattle.mode.proofs.Feeding.{reached, reached_fed, count_fed, doubles_add, from_doubled}
use Rattle.parts.specs.declared.State.{State}
use Rattle.parts.specs.State.{between, kept32, fed_state}
use Rattle.sealer.specs.declared.Sealer.{Sealer}
use Rattle.sealer.specs.Sealers.{standing, fed_by}
use Rattle.sealer.specs.Promises.{keyed, begun_with}

-- ---- the state, where U is the first mask
module _ (U : List ℕ) where
  abbrev pub state_at : List ℕ → State
  state_at m =
      record {
        left = doubles (pairs_of (length m)) U;
        right = doubles (pairs_of (length m)) (triple U);
        sum = sum (pairs_of (length m)) m;
        kept = kept32 (rest m);
      }

  pub state_none : record { left = U; right = triple U; sum = zeros 16; kept = zeros 32 } ≡ state_at []
  unfolding sum doubles blocks pairs_of
  state_none = refl

  -- what it is in the mode's words
  pub state_stands : (m : List ℕ) → between (state_at m) (keeps (length m)) ≡ reached (third U) m
  state_stands m =
      let n = pairs_of (length m) in
      ap₂ (λ (k : Masks) (x : List ℕ). record { masks = k; sum = sum n m; kept = x }) (sym (from_doubled n U (triple U)))
      (take_at (rest m) (drop (0 + length (rest m)) (zeros 32)) (keeps (length m)) (length-drop (32 * n) m))

  -- a part more
  after : List ℕ → List ℕ → List ℕ → Between → State
  after l r x b = record { left = doubles (due b x) l; right = doubles (due b x) r; sum = (fed b x).sum; kept = kept32 (fed b x).kept }

  pub state_fed : (m x : List ℕ) → fed_state (state_at m) (keeps (length m)) x ≡ state_at (m ++ x)
  unfolding after
  state_fed m x =
      let n = pairs_of (length m) in
      let k = third U in
      let go_on : (l : List ℕ) → doubles (due (reached k m) x) (doubles n l) ≡ doubles (pairs_of (length (m ++ x))) l =
      λ l. sym (doubles_add n (due (reached k m) x) l) ∙ ap (λ (i : ℕ). doubles i l) (sym (count_fed k m x)) in
      ap (after (doubles n U) (doubles n (triple U)) x) (state_stands m)
      ∙ ap₂ (λ (l r : List ℕ). record { left = l; right = r; sum = (fed (reached k m) x).sum; kept = kept32 (fed (reached k m) x).kept }) (go_on U) (go_on (triple U))
      ∙ ap (λ (b : Between). record { left = doubles (pairs_of (length (m ++ x))) U; right = doubles (pairs_of (length (m ++ x))) (triple U); sum = b.sum; kept = kept32 b.kept }) (reached_fed k m x)

-- ---- the sealer
module _ (C : ℕ → List ℕ → List ℕ → List ℕ) (form : ℕ) (key nonce ad : List ℕ) (t : ℕ) where
  abbrev pub sealer_at : List ℕ → Sealer
  sealer_at m =
      let E = keyed C key in
      record {
        rounds = (expanded key).rounds;
        words = (expanded key).words;
        state = state_at (u E (E (zeros 16)) (V3 (form_of form)) nonce ad t) m;
        added = added E (E (zeros 16)) (V3 (form_of form)) nonce ad t;
        tag = t;
        fed = length m;
      }

  abbrev with : State → ℕ → Sealer
  with a n =
      let E = keyed C key in
      record {
        rounds = (expanded key).rounds;
        words = (expanded key).words;
        state = a;
        added = added E (E (zeros 16)) (V3 (form_of form)) nonce ad t;
        tag = t;
        fed = n;
      }

  U : List ℕ
  U = u (keyed C key) (keyed C key (zeros 16)) (V3 (form_of form)) nonce ad t

  pub sealer_none : begun_with C form key nonce ad t ≡ sealer_at []
  unfolding U
  sealer_none = ap (λ (a : State). with a 0) (state_none U)

  pub sealer_stands : (m : List ℕ) → standing (sealer_at m) ≡ reached (masks (keyed C key) (keyed C key (zeros 16)) (V3 (form_of form)) nonce ad t) m
  unfolding U
  sealer_stands m = state_stands U m

  pub sealer_fed : (m x : List ℕ) → fed_by (sealer_at m) x ≡ sealer_at (m ++ x)
  unfolding U
  sealer_fed m x = ap₂ with (state_fed U m x) (sym (length-append m x))

-- `passes::message::start_of` meets its contract, edition by edition. Assumes nothing.
use Rattle.std.proofs.Common.{◌≡◌, ℕ, zero, suc, List, length, get_or, refl, sym, ap, ◌∙◌, Fits, w8, rules, arith}
use Rattle.lists.specs.Xor.{xor}
use Rattle.lists.specs.Zeros.{zeros}
use Rattle.lists.proofs.Xor.{xor_assoc, xor_cancel}
use Rattle.block.specs.Block.{double, triple}
use Rattle.block.proofs.Doubling.{length-double, length-triple}
use Rattle.block.proofs.Linear.{Bytes, bytes-double, double-xor}
use Rattle.mode.specs.Masks.{doubles, third, first}
use Rattle.mode.proofs.Data.{length-doubles}
use Rattle.pairs.specs.Carries.{Carries}
use Rattle.pairs.proofs.Carried.{doubles_steps}
use Rattle.passes.proofs.message.start_of.Goals as goal

bytes-doubles : (i : ℕ) (x : List ℕ) → Bytes x → Bytes (doubles i x)
unfolding doubles
bytes-doubles zero x h = h
bytes-doubles (suc i) x h = bytes-double (doubles i x) (bytes-doubles i x h)

-- v1: 4δ is doubled, and in L' 3δ makes good that δ was doubled with it
first-carries : (d : List ℕ) → length d ≡ 16 → Bytes d
    → Carries (first d) (double (double d)) (zeros 16) (xor (double (double d)) d) (triple d)
unfolding doubles
first-carries d long byte = (doubles_steps four four-long, (refl, λ i. sym (step i)))
  where
    four : List ℕ
    four = double (double d)

    four-long : length four ≡ 16
    four-long = length-double (double d) (length-double d long)

    step : (i : ℕ) → xor (double (xor (doubles i four) d)) (triple d) ≡ xor (double (doubles i four)) d
    step i =
        let x = doubles i four in
        let x_long = length-doubles i four four-long in
        let x_bytes = bytes-doubles i four (bytes-double (double d) (bytes-double d byte)) in
        ap (λ (y : List ℕ). xor y (triple d)) (double-xor x d x_long long x_bytes byte)
        ∙ sym (xor_assoc (xor (double x) (double d)) (double d) d)
        ∙ ap (λ (y : List ℕ). xor y d) (xor_cancel (double x) (double d) (omega (arith, length-double d long, length-double x x_long)))

-- v3.1: U and 3U are doubled as they are
third-carries : (u : List ℕ) → length u ≡ 16 → Carries (third u) u (zeros 16) (triple u) (zeros 16)
third-carries u long = (doubles_steps u long, doubles_steps (triple u) (length-triple u long))

pub returns-in-V1 : goal.returns-in-V1
returns-in-V1 c =
    let u = c.args.u in
    let bytes : Bytes u = λ i. let byte : Fits w8 (get_or u i 0) = search rules in byte.fits in
    let start = c.new.ensures in
    let four_is : c.double-four.result ≡ double (double u) = c.double-four.ensures ∙ ap double c.double-two.ensures in
    let left_is = start.first_value.0 ∙ four_is in
    let right_is = start.first_value.1 ∙ c.xor.ensures ∙ ap (λ (x : List ℕ). xor x u) four_is in
    let step_is = start.step_value.1 ∙ c.triple-three.ensures in
    rw (c.in-V1.is, left_is, right_is, start.step_value.0, step_is) (first-carries u (search rules) bytes)

pub returns-in-V3 : goal.returns-in-V3
returns-in-V3 c =
    let start = c.new-in-V3.ensures in
    let right_is = start.first_value.1 ∙ c.triple-three.ensures in
    let step_is = start.step_value.1 ∙ c.blank.ensures in
    rw (c.in-V3.is, start.first_value.0, right_is, start.step_value.0, step_is) (third-carries c.args.u (search rules))

-- Products of blocks and powers of x: doubling is the product with x, powers add, the power by halving is the power; and the law that
-- ties them to the masks, that 2ⁿU is the product of U with xⁿ. Assumes nothing.
use mathlib.Core.Path.{◌≡◌, refl, sym, ap, ◌∙◌}
use mathlib.Core.List.{List}
use Prim.Native.Nat.{ℕ, zero, suc, ◌+◌, ◌/◌, ◌%◌}
use native.Mathlib.Nat.{zero-add, suc-add}
use native.Mathlib.Omega.{arith}
use lib.ListN.{length, get_or}
use Rattle.lists.specs.Xor.{xor}
use Rattle.lists.specs.Zeros.{zeros}
use Rattle.block.specs.Block.{shift, double, triple}
use Rattle.block.proofs.Doubling.{length-double}
use Rattle.block.proofs.Linear.{Bytes, bytes_last, bytes-xor, bytes-double, double-xor}
use Rattle.mode.specs.Masks.{doubles}
use Rattle.mode.proofs.Tag.{xor_sixteen}
use Rattle.powers.specs.Field.{one, times, horner, product, power}
use Rattle.powers.proofs.One.{product_one}

-- sixteen bytes
pub record IsBlock (x : List ℕ) : Type 0 where
  pub long : length x ≡ 16
  pub bytes : Bytes x

zeros-block : IsBlock (zeros 16)
unfolding zeros
zeros-block = record { long = refl; bytes = bytes_last 15 0 (omega arith) }

one_block : IsBlock one
unfolding zeros
one_block = record { long = refl; bytes = bytes_last 15 1 (omega arith) }

xor_block : (x y : List ℕ) → IsBlock x → IsBlock y → IsBlock (xor x y)
xor_block x y hx hy =
    record { long = xor_sixteen x y hx.long hy.long; bytes = bytes-xor x y hx.bytes hy.bytes }

double-block : (x : List ℕ) → IsBlock x → IsBlock (double x)
double-block x h = record { long = length-double x h.long; bytes = bytes-double x h.bytes }

doubles-block : (n : ℕ) (x : List ℕ) → IsBlock x → IsBlock (doubles n x)
unfolding doubles
doubles-block zero x h = h
doubles-block (suc n) x h = double-block (doubles n x) (doubles-block n x h)

times_block : (t : ℕ) (b : List ℕ) → IsBlock b → IsBlock (times t b)
times_block zero b h = zeros-block
times_block (suc t) b h = h

-- ---- the product is linear in its second factor, as far as doubling goes
times_double : (t : ℕ) (b : List ℕ) → times t (double b) ≡ double (times t b)
unfolding double shift zeros
times_double zero b = refl
times_double (suc t) b = refl

horner-double : (n : ℕ) (a b s : List ℕ) → IsBlock b → IsBlock s → horner n a (double b) (double s) ≡ double (horner n a b s)
unfolding horner
horner-double zero a b s hb hs = refl
horner-double (suc n) a b s hb hs =
    let t = get_or a 0 0 / 128 in
    let d = double-block s hs in
    let e = times_block t b hb in
    ap (horner n (shift a) (double b))
    (ap (xor (double (double s))) (times_double t b) ∙ sym (double-xor (double s) (times t b) d.long e.long d.bytes e.bytes))
    ∙ horner-double n (shift a) b (xor (double s) (times t b)) hb (xor_block (double s) (times t b) d e)

product-double : (a b : List ℕ) → IsBlock b → product a (double b) ≡ double (product a b)
unfolding product double shift zeros
product-double a b h = horner-double 128 a b (zeros 16) h zeros-block

-- ---- 2ⁿU is the product of U with xⁿ
pub product-power : (n : ℕ) (u : List ℕ) → IsBlock u → product u (power n) ≡ doubles n u
unfolding doubles
product-power zero u h = product_one u h.long h.bytes
product-power (suc n) u h = product-double u (power n) (doubles-block n one one_block) ∙ ap double (product-power n u h)

-- doubling is the product with x
pub double-product : (u : List ℕ) → IsBlock u → product u (power 1) ≡ double u
unfolding doubles
double-product u h = product-power 1 u h

-- powers add
doubles_add : (n m : ℕ) (x : List ℕ) → doubles n (doubles m x) ≡ doubles (n + m) x
unfolding doubles
doubles_add zero m x = ap (λ (k : ℕ). doubles k x) (sym (zero-add m))
doubles_add (suc n) m x = ap double (doubles_add n m x) ∙ sym (ap (λ (k : ℕ). doubles k x) (suc-add n m))

pub powers_add : (m n : ℕ) → product (power m) (power n) ≡ power (n + m)
powers_add m n = product-power n (power m) (doubles-block m one one_block) ∙ doubles_add n m one

-- the power by halving is the power
pub power-even : (n : ℕ) → n % 2 ≡ 0 → product (power (n / 2)) (power (n / 2)) ≡ power n
power-even n h =
    let whole : n / 2 + n / 2 ≡ n = omega arith in
    powers_add (n / 2) (n / 2) ∙ ap power whole

pub power_odd : (n : ℕ) → n % 2 ≡ 1 → double (product (power (n / 2)) (power (n / 2))) ≡ power n
unfolding doubles
power_odd n h =
    let whole : suc (n / 2 + n / 2) ≡ n = omega arith in
    ap double (powers_add (n / 2) (n / 2)) ∙ ap power whole

-- ---- L' from L: 2ⁿ3U is 3 times 2ⁿU
pub doubles-triple : (n : ℕ) (u : List ℕ) → IsBlock u → doubles n (triple u) ≡ triple (doubles n u)
unfolding doubles
doubles-triple zero u h = refl
doubles-triple (suc n) u h =
    let l = doubles-block n u h in
    let d = double-block (doubles n u) l in
    ap double (doubles-triple n u h) ∙ double-xor (double (doubles n u)) (doubles n u) d.long l.long d.bytes l.bytes

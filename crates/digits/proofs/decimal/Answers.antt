-- A numeral has only digits, and its first digits stand for no more than all of them.
use Rattle.std.proofs.Common.{arith, ◌<◌, ◌+◌, length, ap}
use Rattle.std.specs.Char.{digit_value}
use Rattle.std.proofs.lemmas.Int.Digits.{digits_value_more, digits_more}
use Rattle.std.proofs.lemmas.Str.Parse.{digits_value-take-le}
use Rattle.digits.proofs.Digit.{digit-below}
use Rattle.digits.proofs.decimal.Goals as goal

pub returns-in_err-ones-clause-value : goal.returns-in_err-ones-clause-value
returns-in_err-ones-clause-value c =
    let i = c.loop-digit.digit-index in
    rw c.from_residual.ensures (λ p. c.in_err-ones.ensures.value (rw c.from.ensures (digit-below c.args.digits.now i p.0.1 (omega arith))))

pub returns-in_err-checked_mul-clause-value : goal.returns-in_err-checked_mul-clause-value
returns-in_err-checked_mul-clause-value c =
    let ds = c.args.digits.now in
    let i = c.loop-digit.digit-index in
    let lt : i < length ds = omega arith in
    let more = digits_value_more 10 ds i lt in
    let among = digits_value-take-le 10 ds (i + 1) (omega arith) in
    rw c.from_residual-in_err-checked_mul.ensures (λ p. c.in_err-checked_mul.ensures
    (omega (arith, more, among, c.loop-digit.invariant.so_far, p.2)))

pub returns-in_err-value-clause-value : goal.returns-in_err-value-clause-value
returns-in_err-value-clause-value c =
    let ds = c.args.digits.now in
    let i = c.loop-digit.digit-index in
    let lt : i < length ds = omega arith in
    let more = digits_value_more 10 ds i lt in
    let among = digits_value-take-le 10 ds (i + 1) (omega arith) in
    let ones = ap digit_value c.from.ensures in
    rw c.from_residual-in_err-value.ensures (λ p. c.in_err-value.ensures
    (omega (arith, more, among, ones, c.loop-digit.invariant.so_far, c.in_ok-ones.ensures.value.1, c.in_ok-checked_mul.ensures, p.2)))

pub loop-digit-preserved : goal.loop-digit-preserved
loop-digit-preserved c =
    let ds = c.args.digits.now in
    let i = c.loop-digit.digit-index in
    let lt : i < length ds = omega arith in
    let more = digits_value_more 10 ds i lt in
    let ones = ap digit_value c.from.ensures in
    record {
      fits = omega arith;
      digits = digits_more 10 ds i lt c.loop-digit.invariant.digits (omega (arith, ones, c.in_ok-ones.ensures.value.0));
      so_far = omega (
        arith,
        more,
        ones,
        c.loop-digit.invariant.so_far,
        c.in_ok-ones.ensures.value.1,
        c.in_ok-checked_mul.ensures,
        c.in_ok-value.ensures,
      );
    }

-- The number so far is that of the digits so far, and fits its type.
use Rattle.std.proofs.Common.{◌≡◌, ◌≤◌, take}
use Rattle.std.specs.Str.Parse.{AllDigits, digits_value}
use Rattle.digits.proofs.decimal.Given as goal

abbrev pub invariant-loop-digit : goal.invariant-loop-digit
invariant-loop-digit l =
    record {
      fits : l.value ≤ 65535;
      digits : AllDigits 10 (take l.digit-index l.digits);
      so_far : l.value ≡ digits_value 10 (take l.digit-index l.digits);
    }

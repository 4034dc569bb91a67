-- The bytes so far are digits, and the number so far is theirs.
use Rattle.std.proofs.Common.{◌≡◌, ◌^◌, ◌<◌, true, take}
use Rattle.std.specs.List.{list_all}
use Rattle.bcd_1401.specs.Digits.{is_digit, value_of}
use Rattle.machine_notation.proofs.digits.read_digits.Given as goal

abbrev pub invariant-loop-digit : goal.invariant-loop-digit
invariant-loop-digit l = record {
  digits : list_all is_digit (take l.digit-index l.digits) ≡ true;
  value : l.number ≡ value_of (take l.digit-index l.digits);
  bound : l.number < 10 ^ l.digit-index;
}

-- The number so far, followed by the digits that are left, is the number of all digits.
use Rattle.std.proofs.Common.{◌≡◌, ◌≤◌, drop}
use Rattle.std.specs.Prelude.{fold}
use Rattle.std.specs.List.{list_all}
use Rattle.bcd_1401.specs.Digits.{is_digit}
use Rattle.bcd_1401.specs.Digits.{with_digit, value_of}
use Rattle.autocoder_statements.proofs.numbers.number_between.Given as goal

abbrev pub invariant-loop-byte : goal.invariant-loop-byte
invariant-loop-byte l = record {
  digits : list_all is_digit (drop l.byte-index l.word) ≡ list_all is_digit l.word;
  value : fold with_digit l.number (drop l.byte-index l.word) ≡ value_of l.word;
  bound : l.number ≤ l.most;
}

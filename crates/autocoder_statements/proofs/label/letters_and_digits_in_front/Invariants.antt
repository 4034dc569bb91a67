-- The bytes so far pass, and those that pass after them are left to count.
use Rattle.std.proofs.Common.{◌≡◌, ◌+◌, ◌-◌, ◌≤◌, length, drop}
use Rattle.std.specs.List.{prefix_len}
use Rattle.autocoder_statements.specs.Label.{is_letter_or_digit}
use Rattle.autocoder_statements.proofs.label.letters_and_digits_in_front.Given as goal

abbrev pub invariant-loop-count : goal.invariant-loop-count
invariant-loop-count l = record {
  bound : l.count ≤ length l.text;
  more : l.count + prefix_len is_letter_or_digit (drop l.count l.text) ≡ prefix_len is_letter_or_digit l.text;
}

abbrev pub decreases-loop-count : goal.decreases-loop-count
decreases-loop-count l = length l.text - l.count

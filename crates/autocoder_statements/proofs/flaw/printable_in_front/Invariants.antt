-- The bytes so far pass, and those that pass after them are left to count.
use Rattle.std.proofs.Common.{◌≡◌, ◌+◌, ◌-◌, ◌≤◌, length, drop}
use Rattle.std.specs.List.{prefix_len}
use Rattle.autocoder_statements.specs.SourceLine.{is_printable}
use Rattle.autocoder_statements.proofs.flaw.printable_in_front.Given as goal

abbrev pub invariant-loop-count : goal.invariant-loop-count
invariant-loop-count l = record {
  bound : l.count ≤ length l.columns;
  more : l.count + prefix_len is_printable (drop l.count l.columns) ≡ prefix_len is_printable l.columns;
}

abbrev pub decreases-loop-count : goal.decreases-loop-count
decreases-loop-count l = length l.columns - l.count

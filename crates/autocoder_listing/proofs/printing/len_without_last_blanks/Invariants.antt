-- What is cut off is blank, and of what is left the last blanks are those that are left to cut off.
use Rattle.std.proofs.Common.{◌≡◌, ◌+◌, ◌-◌, ◌≤◌, length, take}
use Rattle.std.specs.List.{suffix_len}
use Rattle.autocoder_statements.specs.SourceLine.{is_blank}
use Rattle.autocoder_listing.proofs.printing.len_without_last_blanks.Given as goal

abbrev pub invariant-loop-count : goal.invariant-loop-count
invariant-loop-count l = record {
  bound : l.count ≤ length l.text;
  blanks : suffix_len is_blank l.text ≡ length l.text - l.count + suffix_len is_blank (take l.count l.text);
}

abbrev pub decreases-loop-count : goal.decreases-loop-count
decreases-loop-count l = l.count

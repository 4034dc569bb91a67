-- What is cut off has no at sign, and of what is left the last bytes without one are those that are left to cut off.
use Rattle.std.proofs.Common.{◌≡◌, ◌+◌, ◌-◌, ◌≤◌, length, take}
use Rattle.std.specs.List.{suffix_len}
use Rattle.autocoder_statements.specs.WideConstant.{is_no_at_sign}
use Rattle.autocoder_statements.proofs.wide_constant.len_to_at_sign.Given as goal

abbrev pub invariant-loop-count : goal.invariant-loop-count
invariant-loop-count l = record {
  bound : l.count ≤ length l.text;
  others : suffix_len is_no_at_sign l.text
      ≡ length l.text - l.count + suffix_len is_no_at_sign (take l.count l.text);
}

abbrev pub decreases-loop-count : goal.decreases-loop-count
decreases-loop-count l = l.count

-- The lines so far had done something.
use Rattle.std.proofs.Common.{◌≡◌, ◌+◌, drop}
use Rattle.std.specs.List.{prefix_len}
use Rattle.operate_sitting.specs.Notes.{is_before}
use Rattle.operate_sitting.specs.declared.notes.Mark.{Mark}
use Rattle.operate_sitting.proofs.notes.count_lines.Given as goal

abbrev pub invariant-loop-mark : goal.invariant-loop-mark
invariant-loop-mark l = record {
  count : l.count ≡ l.mark-index;
  lines : l.count + prefix_len (λ (line : Mark). is_before line l.now) (drop l.mark-index l.marks)
      ≡ prefix_len (λ (line : Mark). is_before line l.now) l.marks;
}

-- The operands so far have their plus signs, and those that are left get theirs.
use Rattle.std.proofs.Common.{◌≡◌, ◌++◌, true, false, take, drop}
use Rattle.autocoder_statements.specs.WideColumns.{plus_signs_from}
use Rattle.autocoder_statements.proofs.wide_columns.put_plus_signs.Given as goal

abbrev pub invariant-loop-i : goal.invariant-loop-i
invariant-loop-i l =
    take l.i l.operands ++ plus_signs_from l.is_quoted l.begins_word (drop l.i l.operands)
    ≡ plus_signs_from false true l.fn.operands

-- The letters of all switches but those that are left.
use Rattle.std.proofs.Common.{◌+◌, drop}
use Rattle.bytes_text.specs.Written.{AddsBut}
use Rattle.operate_views.specs.Registers.{letters_on}
use Rattle.operate_views.proofs.registers.put_letters.Given as goal

abbrev pub invariant-loop-i : goal.invariant-loop-i
invariant-loop-i l =
    AddsBut l.initial.text l.text (letters_on (65 + l.i) (drop l.i l.switches)) (letters_on 65 l.switches)

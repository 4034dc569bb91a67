-- The characters so far.
use Rattle.std.proofs.Common.{take}
use Rattle.bytes_text.specs.Written.{Adds}
use Rattle.machine_notation.specs.Characters.{graphics_of}
use Rattle.operate_views.specs.FieldText.{characters_down}
use Rattle.operate_views.proofs.field_text.put_graphics.Given as goal

abbrev pub invariant-loop-i : goal.invariant-loop-i
invariant-loop-i l = Adds l.initial.text l.text (graphics_of (take l.i (characters_down l.cells)))

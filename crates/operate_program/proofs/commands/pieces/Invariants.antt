-- The pieces so far.
use Rattle.std.proofs.Common.{◌≡◌, map}
use Rattle.std.specs.List.{range_with_len}
use Rattle.operate_program.specs.Act.{piece}
use Rattle.operate_program.proofs.commands.pieces.Given as goal

abbrev pub invariant-loop-number : goal.invariant-loop-number
invariant-loop-number l = l.commands.items ≡ map (piece l.low l.cells) (range_with_len 0 l.number)

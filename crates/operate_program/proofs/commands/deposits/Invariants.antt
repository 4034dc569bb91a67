-- The commands of the segments so far.
use Rattle.std.proofs.Common.{◌≡◌, map, take}
use Rattle.machine_image.specs.Loading.{deposit_of}
use Rattle.operate_program.proofs.commands.deposits.Given as goal

abbrev pub invariant-loop-segment : goal.invariant-loop-segment
invariant-loop-segment l = l.commands.items ≡ map deposit_of (take l.segment-index l.image.segments)

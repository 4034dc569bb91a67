-- The segments that are left, and the entry, lead to what all of them do.
use Rattle.std.proofs.Common.{◌≡◌, length}
use Rattle.machine_image.specs.Loading.{load_commands}
use Rattle.program_run.specs.Program.{after_commands}
use Rattle.program_run.proofs.programs.carry_image.Given as goal

abbrev pub invariant-loop-segment : goal.invariant-loop-segment
invariant-loop-segment l =
    after_commands l.machine (load_commands (record { size = l.image.size; segments = l.rest; start = l.image.start }))
    ≡ after_commands l.fn.machine (load_commands l.image)

abbrev pub decreases-loop-segment : goal.decreases-loop-segment
decreases-loop-segment l = length l.rest

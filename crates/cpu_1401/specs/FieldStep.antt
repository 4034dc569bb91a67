-- Operations on fields (A24-1403, the descriptions of the instructions; what the registers hold afterwards is own).
use Rattle.std.specs.Prelude.{◌==◌, ◌&&◌, ◌||◌, not, Result, Ok, Err, if◌then◌else◌}
use Rattle.fields_1401.specs.declared.done.Done.{Done}
use Rattle.fields_1401.specs.declared.done.FieldStop.{FieldStop}
use Rattle.fields_1401.specs.Outcome.{Outcome}
use Rattle.cpu_1401.specs.declared.instruction.Instruction.{Instruction}
use Rattle.cpu_1401.specs.Branch.{branch_to}
use Rattle.cpu_1401.specs.State.{State}
use Rattle.cpu_1401.specs.Stepped.{Stepped, step_to, stopped}
use Rattle.fields_1401.specs.Outcome.{stop_of}

-- after an operation on fields: its core and its registers, and the next instruction; a sum that was too large turns
-- the overflow indicator on, and one that fits leaves it as it is
abbrev pub after_field : Instruction → State → Outcome → Stepped
after_field this s (Ok done) =
    step_to (record s {
      storage = done.0;
      i = this.next;
      a = done.1.a;
      b = done.1.b;
      overflow = s.overflow || done.1.overflow;
    })
after_field this s (Err why) = stopped (stop_of why) s

-- the indicators of a compare by its result: an equal one of an instruction without an address leaves them as they are
abbrev pub with_result : Instruction → Done → State → State
with_result this done s =
    if (this.len == 1) && not done.unequal then s
    else record s { unequal = done.unequal; low = done.low; high = done.high }

-- after a comparison: its registers, the indicators, and the next instruction
abbrev pub after_comparison : Instruction → State → Result Done FieldStop → Stepped
after_comparison this s (Ok done) =
    step_to (with_result this done (record s { i = this.next; a = done.a; b = done.b }))
after_comparison this s (Err why) = stopped (stop_of why) s

-- after storage was cleared: with two addresses a branch is taken, else the A register stays
abbrev pub after_clear : Instruction → State → Outcome → Stepped
after_clear this s (Ok done) =
    if this.len == 7 then step_to (branch_to this (record s { storage = done.0 }))
    else step_to (record s { storage = done.0; i = this.next; a = this.a; b = done.1.b })
after_clear this s (Err why) = stopped (stop_of why) s

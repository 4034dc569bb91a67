-- The instruction that has halted (A24-1403, "Halt", "Halt and Branch"; how it is found again is own).
use Rattle.std.specs.Prelude.{ℕ, ◌+◌, ◌%◌, ◌==◌, ◌&&◌, not, Bool, slice_index, unwrap_or, if◌then◌else◌}
use Rattle.bcd_1401.specs.Graphic.{graphics}
use Rattle.core_1401.specs.Address.{addresses, effective_at}
use Rattle.core_1401.specs.Field.{field_len_of}
use Rattle.core_1401.specs.Storage.{Storage, cell_at}
use Rattle.fields_1401.specs.Outcome.{below_by}
use Rattle.machine_tables.specs.declared.operation.Operation.TheVariants as op
use Rattle.cpu_1401.specs.Instruction.{begins_at, length_at}
use Rattle.cpu_1401.specs.State.{State}

-- the graphic of a halt, and how many characters one that branches has
abbrev pub halt_graphic : ℕ
halt_graphic = 46

abbrev pub halt_and_branch_length : ℕ
halt_and_branch_length = 4

-- whether a halt that goes on at this address is at a place
abbrev pub is_halt_to : Storage → ℕ → ℕ → Bool
is_halt_to storage at to =
    begins_at storage at && (slice_index graphics (cell_at storage at).char == halt_graphic)
    && (length_at storage op.Halt at == halt_and_branch_length) && (effective_at storage (at + 1) == to)

-- whether the registers are those that a halt with an address leaves: the address in I and A, and in B the place after
-- the halt
abbrev pub has_branched : State → Bool
has_branched s = (s.a == s.i) && is_halt_to s.storage (below_by s.b halt_and_branch_length) s.i

-- how many characters there are before the I register down to the first word mark; one if there is none
abbrev pub length_before : State → ℕ
length_before s = unwrap_or (field_len_of s.storage (below_by s.i 1)) 1

-- the address of the halt that was carried out last
abbrev pub halted_at : State → ℕ
halted_at s = if has_branched s then below_by s.b halt_and_branch_length else below_by s.i (length_before s)

-- the address after a halt at the I register
abbrev pub after_halt : State → ℕ
after_halt s = (s.i + length_at s.storage op.Halt s.i) % addresses

-- whether a halt at the I register that goes on after itself is taken for another, with an address, that goes on at the
-- same place: A and B hold what that one leaves
abbrev pub is_taken_for_another : State → Bool
is_taken_for_another s =
    not (length_at s.storage op.Halt s.i == halt_and_branch_length) && (s.a == after_halt s)
    && is_halt_to s.storage (below_by s.b halt_and_branch_length) (after_halt s)

-- the address that is reported of a halt at the I register, once it was carried out: its own, but for that one case
abbrev pub told_of_halt : State → ℕ
told_of_halt s = if is_taken_for_another s then below_by s.b halt_and_branch_length else s.i

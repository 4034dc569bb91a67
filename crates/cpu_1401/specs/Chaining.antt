-- The d-character of a branch by a cell, which is kept for branches of one character (A24-1403, "Branch if Character
-- Equal", from memory; that it is the one of the last such branch, however long ago, is own).
use Rattle.std.specs.Prelude.{ℕ, ◌==◌, ◌&&◌, not, Bool, true, false, bit_and, is_some, if◌then◌else◌}
use Rattle.bcd_1401.specs.declared.cell.Cell.{Cell}
use Rattle.machine_tables.specs.declared.operation.Operation.{Operation}
use Rattle.machine_tables.specs.declared.operation.Operation.TheVariants as op
use Rattle.cpu_1401.specs.Branch.{branch_on_cell, has_char, passes}
use Rattle.cpu_1401.specs.declared.instruction.Instruction.{Instruction}
use Rattle.cpu_1401.specs.State.{State}
use Rattle.cpu_1401.specs.Step.{perform}
use Rattle.cpu_1401.specs.Stepped.{Stepped}

-- the machine with this d-character kept, if it is fitted with the lengths
abbrev pub keeping_d : ℕ → State → State
keeping_d d s = record s { chained = if s.features.lengths then d else s.chained }

-- a branch keeps its d-character unless it was refused
abbrev pub keeping : ℕ → Stepped → Stepped
keeping d t = if is_some t.stop then t else record t { state = keeping_d d t.state }

-- whether a cell's character and the d-character have one of their six bits in common; the word mark is none of them
abbrev pub shares_bit : ℕ → Cell → Bool
shares_bit d cell = not (bit_and cell.char d == 0)

-- branches by the cell at b
abbrev pub on_character : Instruction → State → Stepped
on_character this s = keeping this.d (branch_on_cell (has_char this.d) this s)

abbrev pub on_cell : Instruction → State → Stepped
on_cell this s = keeping this.d (branch_on_cell (passes this.d) this s)

abbrev pub on_bits : Instruction → State → Stepped
on_bits this s = keeping this.d (branch_on_cell (shares_bit this.d) this s)

-- an instruction with the d-character that was kept
abbrev pub again : Instruction → State → Instruction
again this s = record this { d = s.chained }

-- whether an instruction of this length is a branch by a cell: for B, one that has neither four nor five characters
abbrev pub is_by_cell : Operation → ℕ → Bool
is_by_cell op.Add len = false
is_by_cell op.Subtract len = false
is_by_cell op.ZeroAdd len = false
is_by_cell op.ZeroSubtract len = false
is_by_cell op.Move len = false
is_by_cell op.Load len = false
is_by_cell op.MoveDigit len = false
is_by_cell op.MoveZone len = false
is_by_cell op.SetWordMark len = false
is_by_cell op.ClearWordMark len = false
is_by_cell op.ClearStorage len = false
is_by_cell op.Compare len = false
is_by_cell op.ZeroSuppress len = false
is_by_cell op.Edit len = false
is_by_cell op.Branch len = not (len == 4) && not (len == 5)
is_by_cell op.BranchOnCell len = true
is_by_cell op.StoreA len = false
is_by_cell op.StoreB len = false
is_by_cell op.NoOperation len = false
is_by_cell op.Halt len = false
is_by_cell op.SelectStacker len = false
is_by_cell op.ReadCard len = false
is_by_cell op.WriteLine len = false
is_by_cell op.WriteAndRead len = false
is_by_cell op.PunchCard len = false
is_by_cell op.ReadAndPunch len = false
is_by_cell op.WriteAndPunch len = false
is_by_cell op.WriteReadAndPunch len = false
is_by_cell op.ControlCarriage len = false

-- a step of this operation, which keeps its d-character if it is such a branch
abbrev pub kept : Operation → Instruction → Stepped → Stepped
kept operation this t = if is_by_cell operation this.len then keeping this.d t else t

-- what an operation does on a machine that may be fitted with features
abbrev pub perform_keeping : Operation → Instruction → State → Stepped
perform_keeping operation this s = kept operation this (perform operation this s)

-- a B of any length
abbrev pub kept_branch : Instruction → State → Stepped
kept_branch this s = perform_keeping op.Branch this s

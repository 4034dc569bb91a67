-- The mnemonics (Autocoder, "Operation"; A24-1403 for what they stand for).
use Rattle.std.specs.Prelude.{ℕ, List, [], ◌∷◌, Option, None, Some, find, codes}
use Rattle.std.specs.Option.{option_map}
use Rattle.std.specs.Str.{bytes_eq, byte}
use Rattle.machine_tables.specs.Operation.{mnemonic_of}
use Rattle.machine_tables.specs.declared.operation.Operation.TheVariants as op
use Rattle.autocoder_statements.specs.declared.mnemonic.DCharacter.{DCharacter}
use Rattle.autocoder_statements.specs.declared.mnemonic.DCharacter.TheVariants as d
use Rattle.autocoder_statements.specs.declared.mnemonic.Instruction.{Instruction}
use Rattle.autocoder_statements.specs.declared.mnemonic.Operation.{Operation}
use Rattle.autocoder_statements.specs.declared.mnemonic.Operation.TheVariants as operations

-- the columns 16 to 20, the operation character, how many addresses at least and at most, the d-character
abbrev pub ARow : Type 0
ARow = List ℕ × ℕ × ℕ × ℕ × DCharacter

-- the columns 16 to 20, and what they ask for of the assembler itself
abbrev pub AnOwnRow : Type 0
AnOwnRow = List ℕ × Operation

-- the mnemonics of instructions, in the manual's order
unfoldable pub instructions : List ARow
instructions =
    (mnemonic_of op.Add, byte "A", 0, 2, d.Never) ∷
    (mnemonic_of op.Subtract, byte "S", 0, 2, d.Never) ∷
    (mnemonic_of op.ZeroAdd, byte "?", 0, 2, d.Never) ∷
    (mnemonic_of op.ZeroSubtract, byte "!", 0, 2, d.Never) ∷
    (codes "MLC  ", byte "M", 0, 2, d.Never) ∷
    (mnemonic_of op.Move, byte "M", 0, 2, d.Never) ∷
    (mnemonic_of op.Load, byte "L", 0, 2, d.Never) ∷
    (mnemonic_of op.MoveDigit, byte "D", 0, 2, d.Never) ∷
    (mnemonic_of op.MoveZone, byte "Y", 0, 2, d.Never) ∷
    (mnemonic_of op.SetWordMark, byte ",", 0, 2, d.Never) ∷
    (mnemonic_of op.ClearWordMark, byte ")", 0, 2, d.Never) ∷
    (mnemonic_of op.ClearStorage, byte "/", 0, 2, d.Never) ∷
    (mnemonic_of op.Compare, byte "C", 0, 2, d.Never) ∷
    (mnemonic_of op.ZeroSuppress, byte "Z", 0, 2, d.Never) ∷
    (mnemonic_of op.Edit, byte "E", 0, 2, d.Never) ∷
    (mnemonic_of op.Branch, byte "B", 1, 1, d.Optional) ∷
    (codes "BCE  ", byte "B", 2, 2, d.Required) ∷
    (mnemonic_of op.BranchOnCell, byte "V", 2, 2, d.Required) ∷
    (codes "BW   ", byte "V", 2, 2, d.Fixed (byte "1")) ∷
    (codes "BU   ", byte "B", 1, 1, d.Fixed (byte "/")) ∷
    (codes "BAV  ", byte "B", 1, 1, d.Fixed (byte "Z")) ∷
    (codes "BLC  ", byte "B", 1, 1, d.Fixed (byte "A")) ∷
    (codes "BC9  ", byte "B", 1, 1, d.Fixed (byte "9")) ∷
    (codes "BCV  ", byte "B", 1, 1, d.Fixed (byte "@")) ∷
    (codes "BE   ", byte "B", 1, 1, d.Fixed (byte "S")) ∷
    (codes "BL   ", byte "B", 1, 1, d.Fixed (byte "T")) ∷
    (codes "BH   ", byte "B", 1, 1, d.Fixed (byte "U")) ∷
    (codes "BSS  ", byte "B", 1, 1, d.Required) ∷
    (mnemonic_of op.StoreA, byte "Q", 1, 1, d.Never) ∷
    (mnemonic_of op.StoreB, byte "H", 1, 1, d.Never) ∷
    (mnemonic_of op.ReadCard, byte "1", 0, 1, d.Never) ∷
    (mnemonic_of op.WriteLine, byte "2", 0, 1, d.Never) ∷
    (mnemonic_of op.WriteAndRead, byte "3", 0, 1, d.Never) ∷
    (mnemonic_of op.PunchCard, byte "4", 0, 1, d.Never) ∷
    (mnemonic_of op.ReadAndPunch, byte "5", 0, 1, d.Never) ∷
    (mnemonic_of op.WriteAndPunch, byte "6", 0, 1, d.Never) ∷
    (mnemonic_of op.WriteReadAndPunch, byte "7", 0, 1, d.Never) ∷
    (codes "WM   ", byte "2", 0, 1, d.Fixed (byte ")")) ∷
    (mnemonic_of op.ControlCarriage, byte "F", 0, 0, d.Required) ∷
    (mnemonic_of op.SelectStacker, byte "K", 0, 0, d.Required) ∷
    (mnemonic_of op.NoOperation, byte "N", 0, 0, d.Never) ∷
    (mnemonic_of op.Halt, byte ".", 0, 1, d.Never) ∷ []

-- the mnemonics of the assembler's own operations; a blank one is a field of the areas above it
unfoldable pub assembler_operations : List AnOwnRow
assembler_operations =
    (codes "DCW  ", operations.MarkedConstant) ∷
    (codes "DC   ", operations.Constant) ∷
    (codes "DS   ", operations.Space) ∷
    (codes "DA   ", operations.Areas) ∷
    (codes "EQU  ", operations.Equate) ∷
    (codes "ORG  ", operations.Origin) ∷
    (codes "EX   ", operations.Execute) ∷
    (codes "END  ", operations.End) ∷
    (codes "     ", operations.Field) ∷ []

-- what a row says of its instruction
abbrev pub instruction_in : ARow → Instruction
instruction_in row = record { operation = row.1; form = record { least = row.2; most = row.3; d = row.4 } }

-- the instruction in these columns
abbrev pub instruction_of : List ℕ → Option Instruction
instruction_of columns = option_map instruction_in (find (λ (row : ARow). bytes_eq row.0 columns) instructions)

-- the assembler's own operation in these columns
abbrev pub assembler_operation_of : List ℕ → Option Operation
assembler_operation_of columns =
    option_map (λ (row : AnOwnRow). row.1) (find (λ (row : AnOwnRow). bytes_eq row.0 columns) assembler_operations)

-- an instruction goes before an operation of the assembler
abbrev pub either_operation : Option Instruction → Option Operation → Option Operation
either_operation (Some instruction) own = Some (operations.Instruction instruction)
either_operation None own = own

-- what the columns 16 to 20 ask for
abbrev pub operation_of : List ℕ → Option Operation
operation_of columns = either_operation (instruction_of columns) (assembler_operation_of columns)

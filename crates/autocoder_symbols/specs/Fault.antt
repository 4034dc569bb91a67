-- Faults of a source (own).
use Rattle.std.specs.Prelude.{◌≡◌, ℕ, ◌⊎◌, Result, Ok, Err}
use Rattle.autocoder_symbols.specs.declared.fault.AsmKind.{AsmKind}
use Rattle.autocoder_symbols.specs.declared.fault.AsmKind.TheVariants as kinds
use Rattle.autocoder_symbols.specs.declared.fault.AsmFault.{AsmFault}

-- memory was refused
abbrev pub IsMemory : AsmFault → Type 0
IsMemory fault = (fault.line ≡ 0) × (fault.kind ≡ kinds.Memory)

-- what a call returned, seen by view, is the answer, unless memory was refused
abbrev pub Gives : {X Y : Type 0} → (X → Y) → Result X AsmFault → Result Y AsmFault → Type 0
Gives view (Ok value) answer = answer ≡ Ok (view value)
Gives view (Err fault) answer = IsMemory fault ⊎ (answer ≡ Err fault)

-- the number of a kind
abbrev pub rank : AsmKind → ℕ
rank kinds.Memory = 1
rank kinds.LongLine = 2
rank kinds.Graphic = 3
rank kinds.Label = 4
rank kinds.DoubleLabel = 5
rank kinds.Operation = 6
rank kinds.Undefined = 7
rank kinds.Operand = 8
rank kinds.OutOfCore = 9
rank kinds.NoEnd = 10
rank kinds.AfterEnd = 11

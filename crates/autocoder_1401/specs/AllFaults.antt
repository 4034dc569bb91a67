-- All faults of a source, but for those that only follow from one told before (own).
use Rattle.std.specs.Prelude.{◌≡◌, ℕ, ◌⊎◌, List, [], ◌∷◌, Option, Some, None, Result, Ok, Err}
use Rattle.autocoder_statements.specs.declared.language.Language.{Language}
use Rattle.autocoder_statements.specs.declared.statement.Line.{Line}
use Rattle.autocoder_symbols.specs.Known.{declared_at}
use Rattle.autocoder_symbols.specs.declared.fault.AsmFault.{AsmFault}
use Rattle.autocoder_diagnostics.specs.FirstFault.{first_fault}
use Rattle.autocoder_diagnostics.specs.ToldFaults.{line_faults, IsThere}
use Rattle.autocoder_placing.specs.Laws.{IsFirstOutside}
use Rattle.autocoder_placing.specs.Values.{first_outside}

-- the faults of lines; of lines without any, the first of which something isn't in core
abbrev pub or_outside : List AsmFault → Option AsmFault → List AsmFault
or_outside [] None = []
or_outside [] (Some outside) = outside ∷ []
or_outside (fault ∷ faults) outside = fault ∷ faults

abbrev pub all_faults : Language → ℕ → List Line → List AsmFault
all_faults language size lines = or_outside (line_faults language lines) (first_outside size lines)

-- the fault that an answer is, if it is one
abbrev pub fault_in : {X : Type 0} → Result X AsmFault → Option AsmFault
fault_in (Ok value) = None
fault_in (Err fault) = Some fault

-- the line that it names has this fault; or all lines have none, and it is the first of which something isn't in core
abbrev pub IsTold : Language → ℕ → List Line → AsmFault → Type 0
IsTold language size lines fault =
    IsThere (declared_at language lines) lines fault
    ⊎ ((first_fault language lines ≡ None) × IsFirstOutside size lines fault)

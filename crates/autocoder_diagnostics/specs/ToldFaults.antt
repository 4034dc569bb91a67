-- The faults of lines, but for those that only follow from one told before (own).
use Rattle.std.specs.Prelude.{◌≡◌, ℕ, ◌+◌, true, false, not, ◌&&◌, if◌then◌else◌, List, [], ◌∷◌, ◌++◌, length}
use Rattle.std.specs.Prelude.{slice_get, Option, Some, None}
use Rattle.std.specs.List.{list_any}
use Rattle.autocoder_statements.specs.Statement.{is_end}
use Rattle.autocoder_statements.specs.declared.language.Language.{Language}
use Rattle.autocoder_statements.specs.declared.statement.Line.{Line}
use Rattle.autocoder_symbols.specs.Known.{Declared, declared_at}
use Rattle.autocoder_symbols.specs.Symbols.{Sites, sites_anywhere}
use Rattle.autocoder_symbols.specs.declared.fault.AsmFault.{AsmFault}
use Rattle.autocoder_symbols.specs.declared.fault.AsmKind.{AsmKind}
use Rattle.autocoder_symbols.specs.declared.fault.AsmKind.TheVariants as kinds
use Rattle.autocoder_diagnostics.specs.FirstFault.{place_at, has_fault}
use Rattle.autocoder_diagnostics.specs.OwnFault.{nothing_before, before_next, told}
use Rattle.autocoder_diagnostics.specs.declared.own_fault.Before.{Before}

-- a fault of this kind at this line, if there is one
abbrev pub told_faults : ℕ → Option AsmKind → List AsmFault
told_faults number None = []
told_faults number (Some kind) = record { line = number; kind = kind } ∷ []

-- a source without END has a fault after its last line, unless that may have been END
abbrev pub told_end : Before → List AsmFault
told_end this =
    if this.at.is_ended then [] else if not this.is_clean && this.lost_end then []
    else told_faults this.at.number (Some kinds.NoEnd)

abbrev pub faults_from : Declared → Sites → Before → List Line → List AsmFault
faults_from declared anywhere this [] = told_end this
faults_from declared anywhere this (line ∷ lines) =
    told_faults this.at.number (told declared anywhere this line)
    ++ faults_from declared anywhere (before_next declared this line) lines

-- the faults of lines, but for what isn't in core
abbrev pub line_faults : Language → List Line → List AsmFault
line_faults language lines = faults_from (declared_at language lines) (sites_anywhere lines) nothing_before lines

-- the first of them
abbrev pub first_in : List AsmFault → Option AsmFault
first_in [] = None
first_in (fault ∷ faults) = Some fault

-- a fault of the line with this index, or after the last line that there is no END
abbrev pub IsFaultThere : Declared → List Line → ℕ → Option Line → AsmKind → Type 0
IsFaultThere declared lines n None kind = (n ≡ length lines) × (kind ≡ kinds.NoEnd) × (list_any is_end lines ≡ false)
IsFaultThere declared lines n (Some line) kind = has_fault declared (place_at lines n) line kind ≡ true

-- the line that it names has this fault
pub record IsThere (declared : Declared) (lines : List Line) (fault : AsmFault) : Type 0 where
  pub index : ℕ
  pub numbered : fault.line ≡ index + 1
  pub there : IsFaultThere declared lines index (slice_get lines index) fault.kind

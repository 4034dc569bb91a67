-- The cross-reference of a source (own).
use Rattle.std.specs.Prelude.{ℕ, ◌+◌, Bool, if◌then◌else◌, List, [], ◌∷◌, ◌++◌, codes}
use Rattle.std.specs.List.{flat_map}
use Rattle.machine_notation.specs.Digits.{digits_in}
use Rattle.autocoder_statements.specs.declared.label.Label.{Label}
use Rattle.autocoder_statements.specs.declared.statement.Line.{Line}
use Rattle.autocoder_diagnostics.specs.Notes.{is_named_in}
use Rattle.autocoder_listing.specs.SymbolTable.{symbols_in}
use Rattle.autocoder_listing.specs.declared.symbol_table.Symbol.{Symbol}

abbrev pub number_if : Bool → ℕ → List ℕ
number_if is number = if is then number ∷ [] else []

-- the numbers of the lines that name a label, counting lines from this number; each once
abbrev pub uses_from : ℕ → List Line → Label → List ℕ
uses_from number [] label = []
uses_from number (line ∷ lines) label =
    number_if (is_named_in label line) number ++ uses_from (number + 1) lines label

-- the numbers of the lines that name a label
abbrev pub uses_of : List Line → Label → List ℕ
uses_of lines label = uses_from 1 lines label

abbrev pub use_text : ℕ → List ℕ
use_text number = codes " " ++ digits_in 4 number

-- the line of a symbol: its label in six columns, the number of the line that declares it, and those that name it
unfoldable pub reference_line : (Label → List ℕ) → Symbol → List ℕ
reference_line uses symbol =
    symbol.label.text ++ codes " " ++ digits_in 4 symbol.line ++ flat_map use_text (uses symbol.label) ++ codes "\n"

-- the cross-reference of lines: a line for each label
abbrev pub references_text : List Line → List ℕ
references_text lines = flat_map (reference_line (uses_of lines)) (symbols_in lines)

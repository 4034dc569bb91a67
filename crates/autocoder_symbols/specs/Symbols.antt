-- Which line declares a symbol (Autocoder, "Label"; area literals C24-3258 and J24-1434).
use Rattle.std.specs.Prelude.{ℕ, ◌+◌, ◌==◌, nat_lt, Bool, false, ◌&&◌, if◌then◌else◌, List, [], ◌∷◌, Option, Some, None}
use Rattle.std.specs.Prelude.{is_none}
use Rattle.std.specs.Cmp.Lexicographic.{pointwise}
use Rattle.std.specs.Option.{option_or}
use Rattle.autocoder_statements.specs.AreaLiterals.{DeclaredAreas, areas_of_line}
use Rattle.autocoder_statements.specs.Statement.{label_of_line, is_end}
use Rattle.autocoder_statements.specs.declared.label.Label.{Label}
use Rattle.autocoder_statements.specs.declared.literal.AreaLiteral.{AreaLiteral}
use Rattle.autocoder_statements.specs.declared.statement.Line.{Line}
use Rattle.autocoder_symbols.specs.declared.symbols.Declaration.{Declaration}

abbrev pub same_label : Label → Label → Bool
same_label one other = pointwise ◌==◌ one.text other.text

-- the lines up to and with the first END
abbrev pub up_to_end : List Line → List Line
up_to_end [] = []
up_to_end (line ∷ lines) = if is_end line then line ∷ [] else line ∷ up_to_end lines

abbrev pub has_label : Label → Option Label → Bool
has_label label None = false
has_label label (Some other) = same_label other label

-- where the label of a line with this number is declared, and an area literal
abbrev pub as_label : ℕ → Declaration
as_label number = record { line = number; area = None }

abbrev pub as_area : ℕ → AreaLiteral → Declaration
as_area number area = record { line = number; area = Some area.places }

-- this declaration, if it is of the symbol
abbrev pub declared_if : Bool → Declaration → Option Declaration
declared_if is_of_symbol declaration = if is_of_symbol then Some declaration else None

-- what an area literal on a line with this number declares a symbol as
abbrev pub declared_as_area : ℕ → Option AreaLiteral → Label → Option Declaration
declared_as_area number None label = None
declared_as_area number (Some area) label = declared_if (same_label label area.label) (as_area number area)

-- what those of its instruction do: that of the first address goes first
abbrev pub declared_by_areas : ℕ → DeclaredAreas → Label → Option Declaration
declared_by_areas number areas label =
    option_or (declared_as_area number areas.0 label) (declared_as_area number areas.1 label)

-- what a line with this number declares a symbol as: its own label goes first
abbrev pub declared_by : ℕ → Line → Label → Option Declaration
declared_by number line label =
    option_or (declared_if (has_label label (label_of_line line)) (as_label number))
    (declared_by_areas number (areas_of_line line) label)

-- where lines first declare a symbol, counting lines from this number
abbrev pub first_from : ℕ → List Line → Label → Option Declaration
first_from number [] label = None
first_from number (line ∷ lines) label = option_or (declared_by number line label) (first_from (number + 1) lines label)

-- where each symbol is declared
abbrev pub Sites : Type 0
Sites = Label → Option Declaration

-- the lines up to END declare a symbol where it first is
abbrev pub sites_of : List Line → Sites
sites_of lines label = first_from 1 (up_to_end lines) label

-- the same of all lines, those after END too
abbrev pub sites_anywhere : List Line → Sites
sites_anywhere lines label = first_from 1 lines label

-- the same of the lines after END alone, counting lines from this number
abbrev pub beyond_end : ℕ → List Line → Sites
beyond_end number [] label = None
beyond_end number (line ∷ lines) label =
    if is_end line then first_from (number + 1) lines label else beyond_end (number + 1) lines label

abbrev pub sites_beyond_end : List Line → Sites
sites_beyond_end lines label = beyond_end 1 lines label

-- a symbol that an earlier line declares
abbrev pub is_before : ℕ → Option Declaration → Bool
is_before number None = false
is_before number (Some declaration) = nat_lt declaration.line number

-- the label of an earlier line
abbrev pub is_label_before : ℕ → Option Declaration → Bool
is_label_before number None = false
is_label_before number (Some declaration) = nat_lt declaration.line number && is_none declaration.area

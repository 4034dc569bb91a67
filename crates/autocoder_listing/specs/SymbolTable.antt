-- The symbol table of a source (own).
use Rattle.std.specs.Prelude.{ℕ, ◌+◌, ◌-◌, Bool, if◌then◌else◌, List, [], ◌∷◌, ◌++◌, ℤ, pos, int_lt, Option, None, Some}
use Rattle.std.specs.Prelude.{codes}
use Rattle.std.specs.Option.{option_map}
use Rattle.std.specs.List.{flat_map, list_any}
use Rattle.machine_notation.specs.Digits.{digits_in}
use Rattle.autocoder_statements.specs.AreaLiterals.{areas_of_line}
use Rattle.autocoder_statements.specs.Description.{describe}
use Rattle.autocoder_statements.specs.Statement.{well_formed}
use Rattle.autocoder_statements.specs.declared.description.AreaRole.{AreaRole}
use Rattle.autocoder_statements.specs.declared.description.AreaRole.TheVariants as areas
use Rattle.autocoder_statements.specs.declared.description.Description.{Description}
use Rattle.autocoder_statements.specs.declared.description.Point.{Point}
use Rattle.autocoder_statements.specs.declared.description.Point.TheVariants as point
use Rattle.autocoder_statements.specs.declared.label.Label.{Label}
use Rattle.autocoder_statements.specs.declared.literal.AreaLiteral.{AreaLiteral}
use Rattle.autocoder_statements.specs.declared.statement.Body.{Body}
use Rattle.autocoder_statements.specs.declared.statement.Line.{Line}
use Rattle.autocoder_statements.specs.declared.statement.Span.{Span}
use Rattle.autocoder_statements.specs.declared.statement.Statement.{Statement}
use Rattle.autocoder_placing.specs.Literals.{same_key}
use Rattle.autocoder_placing.specs.Placement.{Placement, symbols_of, contents_length, placed_after, unplaced, placed}
use Rattle.autocoder_placing.specs.declared.literals.LiteralKey.TheVariants as keys
use Rattle.autocoder_listing.specs.Listing.{address_text}
use Rattle.autocoder_listing.specs.declared.symbol_table.Symbol.{Symbol}

-- how many places a field of an area has
abbrev pub span_length : Span → ℕ
span_length span = span.last + 1 - span.first

abbrev pub field_length : AreaRole → Option ℕ
field_length areas.Ends = None
field_length areas.Keeps = None
field_length (areas.Makes made) = None
field_length (areas.Divides span) = option_map span_length span

-- how many places a label names: those of an instruction, a constant, DS or all areas of DA with their group mark, or
-- of the field of one area; EQU names a value alone, and ORG and LTORG a place at which nothing begins
abbrev pub length_by : Description → Point → Option ℕ
length_by row point.First = Some (contents_length row.contents)
length_by row point.Last = Some (contents_length row.contents)
length_by row (point.InArea place) = field_length row.areas
length_by row (point.Counted place) = field_length row.areas
length_by row point.Value = None

abbrev pub length_named : Description → Option ℕ
length_named row = length_by row row.names

-- a label with the value that operands take for it
abbrev pub symbol_of : Placement → ℕ → Body → Label → Symbol
symbol_of all number body label =
    record {
      label = label;
      value = (symbols_of all label).value;
      length = length_named (describe body);
      line = number;
    }

abbrev pub symbol_with : Placement → ℕ → Statement → Option Symbol
symbol_with all number statement = option_map (symbol_of all number statement.body) (well_formed statement.label)

-- the symbol that a line of this number declares
abbrev pub symbol_at : Placement → ℕ → Option Statement → Option Symbol
symbol_at all number None = None
symbol_at all number (Some statement) = symbol_with all number statement

abbrev pub listed : Option Symbol → List Symbol
listed None = []
listed (Some symbol) = symbol ∷ []

-- an area literal declares its label where it is used first
abbrev pub is_used : Placement → AreaLiteral → Bool
is_used this literal = list_any (same_key (keys.Area literal)) this.literals

abbrev pub area_symbol : Placement → Placement → ℕ → AreaLiteral → List Symbol
area_symbol all this number literal =
    if is_used this literal then []
    else record {
      label = literal.label;
      value = (symbols_of all literal.label).value;
      length = Some literal.places;
      line = number;
    } ∷ []

abbrev pub area_symbols : Placement → Placement → ℕ → Option AreaLiteral → List Symbol
area_symbols all this number None = []
area_symbols all this number (Some literal) = area_symbol all this number literal

-- the area literal that the second of two operands is, unless the first is the same
abbrev pub second_area : Option AreaLiteral → Option AreaLiteral → Option AreaLiteral
second_area None second = second
second_area (Some first) None = None
second_area (Some first) (Some second) = if same_key (keys.Area first) (keys.Area second) then None else Some second

-- the symbols that a line of this number declares: its label, and those of the area literals that it uses first, in the
-- order of its addresses
abbrev pub symbols_at : Placement → Placement → ℕ → Line → List Symbol
symbols_at all this number line =
    let literals = areas_of_line line in
    listed (symbol_at all number line.statement) ++ area_symbols all this number literals.0
    ++ area_symbols all this number (second_area literals.0 literals.1)

-- the symbols that lines declare, in their order, counting lines from this number
abbrev pub symbols_from : Placement → Placement → ℕ → List Line → List Symbol
symbols_from all this number [] = []
symbols_from all this number (line ∷ lines) =
    symbols_at all this number line ++ symbols_from all (placed_after this line) (number + 1) lines

-- the symbols of a source, in the order of the lines that declare them
abbrev pub symbols_in : List Line → List Symbol
symbols_in lines = symbols_from (placed lines) (unplaced (placed lines)) 1 lines

-- a length in five digits; five blanks if there is none
unfoldable pub length_text : Option ℕ → List ℕ
length_text None = codes "     "
length_text (Some length) = digits_in 5 length

-- the address that is shown for a value; that of a unit's name is no place, and has none
abbrev pub shown_value : ℤ → Option ℤ
shown_value value = if int_lt value (pos 0) then None else Some value

-- the line of a symbol: its label in six columns, its address, its length, and the number of the line that declares it
unfoldable pub symbol_line : Symbol → List ℕ
symbol_line symbol =
    symbol.label.text ++ codes " " ++ address_text (shown_value symbol.value) ++ codes " " ++ length_text symbol.length
    ++ codes " "
    ++ digits_in 4 symbol.line
    ++ codes "\n"

-- the symbol table of lines: a line for each label, of a line or of an area literal
abbrev pub symbols_text : List Line → List ℕ
symbols_text lines = flat_map symbol_line (symbols_in lines)

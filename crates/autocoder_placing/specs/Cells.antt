-- The cells that a line places (Autocoder, "Instruction", "DCW", "DA"; A24-1403, "Addressing"; DA's blanks and marks
-- own).
use Rattle.std.specs.Prelude.{ℕ, suc, zero, ◌+◌, ◌-◌, ◌%◌, Bool, true, false, ◌&&◌, if◌then◌else◌, List, [], ◌∷◌, ◌++◌}
use Rattle.std.specs.Prelude.{map, fold, replicate, position, slice_get, slice_index, slice_set, ℤ, pos, int_le, int_lt}
use Rattle.std.specs.Prelude.{nat_abs, unwrap_or, Option, Some, None}
use Rattle.std.specs.Option.{option_and_then, option_map_or}
use Rattle.std.specs.List.{flat_map}
use Rattle.std.specs.Str.{byte}
use Rattle.bcd_1401.specs.Character.{with_zone_of}
use Rattle.bcd_1401.specs.declared.cell.Cell.{Cell}
use Rattle.core_1401.specs.Address.{addresses, spelling_of}
use Rattle.core_1401.specs.Storage.{blank}
use Rattle.autocoder_statements.specs.Description.{describe}
use Rattle.autocoder_statements.specs.declared.address.Address.{Address}
use Rattle.autocoder_statements.specs.declared.constant.Constant.{Constant}
use Rattle.autocoder_statements.specs.declared.constant.Constant.TheVariants as constants
use Rattle.autocoder_statements.specs.declared.mnemonic.Instruction.{Instruction}
use Rattle.autocoder_statements.specs.declared.operands.Operand.TheVariants as operands
use Rattle.autocoder_statements.specs.declared.operands.OperandField.{OperandField}
use Rattle.autocoder_statements.specs.declared.operands.OperandField.TheVariants as fields
use Rattle.autocoder_statements.specs.declared.operands.Operands.{Operands}
use Rattle.autocoder_statements.specs.declared.operands.Unit.{Unit as AUnit}
use Rattle.autocoder_statements.specs.declared.statement.AddressConstant.{AddressConstant}
use Rattle.autocoder_statements.specs.declared.statement.Areas.{Areas}
use Rattle.autocoder_statements.specs.declared.statement.Chain.{Chain}
use Rattle.autocoder_statements.specs.declared.statement.Span.{Span}
use Rattle.autocoder_statements.specs.declared.description.AreaRole.{AreaRole}
use Rattle.autocoder_statements.specs.declared.description.AreaRole.TheVariants as areas
use Rattle.autocoder_statements.specs.declared.description.Contents.{Contents}
use Rattle.autocoder_statements.specs.declared.description.Contents.TheVariants as contents
use Rattle.autocoder_statements.specs.declared.description.Description.{Description}
use Rattle.autocoder_statements.specs.declared.description.Next.{Next}
use Rattle.autocoder_statements.specs.declared.description.Next.TheVariants as next
use Rattle.autocoder_statements.specs.declared.statement.Body.{Body}
use Rattle.autocoder_statements.specs.declared.statement.Statement.{Statement}
use Rattle.autocoder_statements.specs.declared.statement.Line.{Line}
use Rattle.autocoder_placing.specs.Characters.{char_of, characters_of, codes_in}
use Rattle.autocoder_placing.specs.Literals.{key_of, same_key}
use Rattle.autocoder_placing.specs.Placement.{Placement, symbols_of, pending, instruction_length, chain_length}
use Rattle.autocoder_placing.specs.Placement.{address_index, address_unit, start_of, placed_after}
use Rattle.autocoder_placing.specs.Values.{address_value, last_place}
use Rattle.autocoder_placing.specs.declared.literals.LiteralKey.{LiteralKey}
use Rattle.autocoder_placing.specs.declared.literals.LiteralKey.TheVariants as keys

-- the place that a value is the address of; one that is no address counts as 0, and is a fault of its line
abbrev pub address_or_zero : ℤ → ℕ
address_or_zero value = if int_le (pos 0) value && int_lt value (pos addresses) then nat_abs value else 0

-- a character without a word mark
abbrev pub plain : ℕ → Cell
plain code = record { char = code; mark = false }

-- a character with one
abbrev pub marked : ℕ → Cell
marked code = record { char = code; mark = true }

-- characters with a word mark at the high place
abbrev pub with_word_mark : List ℕ → List Cell
with_word_mark [] = []
with_word_mark (first ∷ more) = marked first ∷ map plain more

-- the number of an index register is the zone over the tens
abbrev pub with_index : ℕ → List ℕ → List ℕ
with_index index [] = []
with_index index (hundreds ∷ []) = hundreds ∷ []
with_index index (hundreds ∷ tens ∷ units) = hundreds ∷ with_zone_of tens index ∷ units

-- the address of a place, with an index register
abbrev pub indexed : ℕ → ℕ → List ℕ
indexed index place = with_index (index % 4) (spelling_of place)

abbrev pub address_codes : Placement → ℤ → Address → List ℕ
address_codes all here address =
    indexed (address_index (symbols_of all) address) (address_or_zero (address_value all here address))

-- the address of a constant with a minus sign is 16,000 less its place, modulo 16,000
abbrev pub signed_place : Bool → ℕ → ℕ
signed_place false place = place
signed_place true place = (addresses - place) % addresses

-- the address of a constant or a literal with a sign
abbrev pub signed_address : Placement → ℤ → Bool → Address → List ℕ
signed_address all here is_negative address =
    indexed (address_index (symbols_of all) address)
    (signed_place is_negative (address_or_zero (address_value all here address)))

abbrev pub signed_codes : Placement → ℤ → Bool → OperandField → List ℕ
signed_codes all here is_negative fields.Absent = []
signed_codes all here is_negative fields.Malformed = []
signed_codes all here is_negative (fields.Operand (operands.Address address)) =
    signed_address all here is_negative address
signed_codes all here is_negative (fields.Operand (operands.Literal literal)) = []
signed_codes all here is_negative (fields.Operand (operands.Unit unit)) = []

-- the units place of a literal
abbrev pub literal_value : Placement → LiteralKey → ℤ
literal_value all literal =
    unwrap_or (option_and_then (λ i. slice_get all.addresses i) (position (same_key literal) all.literals))
    (pos 0)

-- a unit is assembled as it is written
abbrev pub unit_codes : List ℕ → List ℕ
unit_codes graphics =
    char_of (slice_index graphics 0) ∷ char_of (slice_index graphics 1) ∷ char_of (slice_index graphics 2) ∷ []

-- the unit that an address names, or the address
abbrev pub unit_or_address_codes : Placement → ℤ → Option AUnit → Address → List ℕ
unit_or_address_codes all here None address = address_codes all here address
unit_or_address_codes all here (Some unit) address = unit_codes unit.graphics

abbrev pub operand_codes : Placement → ℤ → OperandField → List ℕ
operand_codes all here fields.Absent = []
operand_codes all here fields.Malformed = []
operand_codes all here (fields.Operand (operands.Address address)) =
    unit_or_address_codes all here (address_unit (symbols_of all) address) address
operand_codes all here (fields.Operand (operands.Literal literal)) =
    spelling_of (address_or_zero (literal_value all (key_of literal)))
operand_codes all here (fields.Operand (operands.Unit unit)) = unit_codes unit.graphics

abbrev pub d_codes : Option ℕ → List ℕ
d_codes None = []
d_codes (Some graphic) = char_of graphic ∷ []

-- the addresses of an instruction
abbrev pub operands_cells : Placement → ℤ → Operands → List Cell
operands_cells all here of = map plain (operand_codes all here of.a) ++ map plain (operand_codes all here of.b)

-- an instruction: its operation with a word mark, its addresses, its d-character
abbrev pub instruction_cells : Placement → ℤ → Instruction → Operands → List Cell
instruction_cells all here instruction of =
    marked (char_of instruction.operation) ∷ [] ++ operands_cells all here of ++ map plain (d_codes of.d)

abbrev pub constant_codes : Option Constant → List ℕ
constant_codes None = []
constant_codes (Some constant) = codes_in (characters_of constant)

-- characters with a word mark at the high place, or without one
abbrev pub field_cells : Bool → List ℕ → List Cell
field_cells true characters = with_word_mark characters
field_cells false characters = map plain characters

-- a constant with a word mark at its high place, or without one
abbrev pub constant_cells : Bool → Option Constant → List Cell
constant_cells is_marked constant = field_cells is_marked (constant_codes constant)

-- the constant of an address, with this place for an asterisk
abbrev pub address_constant_cells : Placement → ℤ → AddressConstant → List Cell
address_constant_cells all here constant =
    field_cells constant.is_marked (signed_codes all here constant.is_negative constant.operands.a)

-- the characters of a literal: those of a constant, an address, which is counted from a symbol, or blanks
abbrev pub literal_codes : Placement → LiteralKey → List ℕ
literal_codes all (keys.Characters characters) = codes_in characters
literal_codes all (keys.Address literal) = signed_address all (pos 0) literal.is_negative literal.address
literal_codes all (keys.Area literal) = codes_in (characters_of (constants.Blanks literal.places))

-- literals, each with a word mark at its high place
abbrev pub literal_cells : Placement → LiteralKey → List Cell
literal_cells all literal = with_word_mark (literal_codes all literal)

-- the fields directly after areas, comments and headings aside
abbrev pub fields_by : AreaRole → List Span → List Span
fields_by areas.Ends beyond = []
fields_by areas.Keeps beyond = beyond
fields_by (areas.Makes made) beyond = []
fields_by (areas.Divides None) beyond = beyond
fields_by (areas.Divides (Some span)) beyond = span ∷ beyond

abbrev pub fields_of : Body → List Span → List Span
fields_of body beyond = fields_by (describe body).areas beyond

abbrev pub fields_with : Option Statement → List Span → List Span
fields_with None beyond = beyond
fields_with (Some statement) beyond = fields_of statement.body beyond

abbrev pub fields_beyond : List Line → List Span
fields_beyond [] = []
fields_beyond (line ∷ lines) = fields_with line.statement (fields_beyond lines)

-- a word mark at a place of an area of blanks
abbrev pub with_mark_at : List Cell → ℕ → List Cell
with_mark_at area place = slice_set area place (marked 0)

-- a field marks its first place, but for one that is a place alone
abbrev pub with_field : List Cell → Span → List Cell
with_field area span = if span.is_marked then with_mark_at area (span.first - 1) else area

-- an area of blanks with a word mark at its high place and at the first place of each field
abbrev pub area_cells : ℕ → List Span → List Cell
area_cells length spans = fold with_field (with_mark_at (replicate length blank) 0) spans

-- a record mark, if one is asked for
abbrev pub record_mark : Bool → List Cell
record_mark true = plain (char_of (byte "'")) ∷ []
record_mark false = []

-- this many areas
abbrev pub repeated : ℕ → List Cell → List Cell
repeated zero area = []
repeated (suc n) area = area ++ repeated n area

-- a group mark with a word mark, if one is asked for
abbrev pub group_mark : Bool → List Cell
group_mark true = marked (char_of (byte "\"")) ∷ []
group_mark false = []

-- areas, a record mark after each, and a group mark after the last
abbrev pub areas_cells : Option Areas → List Line → List Cell
areas_cells None lines = []
areas_cells (Some areas) lines =
    repeated areas.count (area_cells areas.length (fields_beyond lines) ++ record_mark areas.has_record_marks)
    ++ group_mark areas.has_group_mark

-- a chain: its operation with a word mark, as often as it is repeated
abbrev pub chain_cells : Chain → List Cell
chain_cells chain =
    option_map_or (λ operation. repeated (chain_length chain) (marked (char_of operation) ∷ [])) chain.operation []

-- the cells of contents that begin at the next place, with these lines after them
abbrev pub contents_cells : Placement → Placement → Contents → List Line → List Cell
contents_cells all this contents.Nothing lines = []
contents_cells all this (contents.Instruction instruction of) lines =
    instruction_cells all (last_place this.next (instruction_length of)) instruction of
contents_cells all this (contents.MarkedConstant constant) lines = constant_cells true constant
contents_cells all this (contents.Constant constant) lines = constant_cells false constant
contents_cells all this (contents.Space places) lines = []
contents_cells all this (contents.Areas made) lines = areas_cells made lines
contents_cells all this (contents.Chain chain) lines = chain_cells chain
contents_cells all this (contents.AddressConstant constant) lines =
    address_constant_cells all (last_place this.next 3) constant

-- the cells that a statement places: its own, or literals
abbrev pub row_cells : Placement → Placement → Description → Next → List Line → List Cell
row_cells all this row next.Beyond lines = contents_cells all this row.contents lines
row_cells all this row next.Literals lines = flat_map (literal_cells all) (pending this)
row_cells all this row next.Value lines = []
row_cells all this row next.LiteralsAtValue lines = flat_map (literal_cells all) (pending this)
row_cells all this row next.Elsewhere lines = contents_cells all this row.contents lines

-- the cells that a body places, with these lines after it
abbrev pub body_cells : Placement → Placement → Body → List Line → List Cell
body_cells all this body lines = row_cells all this (describe body) (describe body).next lines

abbrev pub statement_cells : Placement → Placement → Option Statement → List Line → List Cell
statement_cells all this None lines = []
statement_cells all this (Some statement) lines = body_cells all this statement.body lines

-- cells with their addresses, from a place on
abbrev pub numbered : ℕ → List Cell → List (ℕ × Cell)
numbered at [] = []
numbered at (cell ∷ cells) = (at, cell) ∷ numbered (at + 1) cells

-- the cells in the order of placing, each with its address
abbrev pub cells_from : Placement → Placement → List Line → List (ℕ × Cell)
cells_from all this [] = []
cells_from all this (line ∷ lines) =
    numbered (address_or_zero (start_of this line.statement)) (statement_cells all this line.statement lines)
    ++ cells_from all (placed_after this line) lines

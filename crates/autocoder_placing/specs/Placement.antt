-- Where statements and literals are placed (Autocoder, "Assembler Control", "Literals"; the first place own).
use Rattle.std.specs.Prelude.{ℕ, ◌+◌, ◌*◌, ◌/◌, Bool, ◌&&◌, if◌then◌else◌, List, [], ◌∷◌, ◌++◌, length, fold, drop, ℤ, pos, negsuc}
use Rattle.std.specs.Prelude.{◌+ℤ◌, int_le, int_lt, nat_abs, unwrap_or, Option, Some, None, is_none}
use Rattle.std.specs.Ordering.{int_eq}
use Rattle.std.specs.Option.{option_map_or}
use Rattle.std.specs.List.{list_any}
use Rattle.std.specs.Map.{lookup}
use Rattle.indexmap.specs.IndexMap.{insert_entry}
use Rattle.autocoder_statements.specs.Operands.{count_of}
use Rattle.autocoder_statements.specs.Statement.{well_formed}
use Rattle.autocoder_statements.specs.Description.{describe, operands_in}
use Rattle.autocoder_statements.specs.declared.label.Label.{Label}
use Rattle.autocoder_statements.specs.declared.address.Address.{Address}
use Rattle.autocoder_statements.specs.declared.address.Base.{Base}
use Rattle.autocoder_statements.specs.declared.address.Base.TheVariants as bases
use Rattle.autocoder_statements.specs.declared.constant.Constant.{Constant}
use Rattle.autocoder_statements.specs.declared.literal.Literal.{Literal}
use Rattle.autocoder_statements.specs.declared.operands.Operand.TheVariants as operands
use Rattle.autocoder_statements.specs.declared.operands.OperandField.{OperandField}
use Rattle.autocoder_statements.specs.declared.operands.OperandField.TheVariants as fields
use Rattle.autocoder_statements.specs.declared.operands.Operands.{Operands}
use Rattle.autocoder_statements.specs.declared.operands.Unit.{Unit as AUnit}
use Rattle.autocoder_statements.specs.declared.statement.Areas.{Areas}
use Rattle.autocoder_statements.specs.declared.statement.Chain.{Chain}
use Rattle.autocoder_statements.specs.declared.description.Addressing.{Addressing}
use Rattle.autocoder_statements.specs.declared.description.Addressing.TheVariants as addressing
use Rattle.autocoder_statements.specs.declared.description.AreaRole.{AreaRole}
use Rattle.autocoder_statements.specs.declared.description.AreaRole.TheVariants as areas
use Rattle.autocoder_statements.specs.declared.description.Contents.{Contents}
use Rattle.autocoder_statements.specs.declared.description.Contents.TheVariants as contents
use Rattle.autocoder_statements.specs.declared.description.Description.{Description}
use Rattle.autocoder_statements.specs.declared.description.Next.{Next}
use Rattle.autocoder_statements.specs.declared.description.Next.TheVariants as next
use Rattle.autocoder_statements.specs.declared.description.Point.{Point}
use Rattle.autocoder_statements.specs.declared.description.Point.TheVariants as point
use Rattle.autocoder_statements.specs.declared.statement.Body.{Body}
use Rattle.autocoder_statements.specs.declared.statement.Statement.{Statement}
use Rattle.autocoder_statements.specs.declared.statement.Line.{Line}
use Rattle.autocoder_symbols.specs.Chains.{Chains, chains_of, link_of}
use Rattle.autocoder_symbols.specs.Symbols.{same_label, sites_of}
use Rattle.autocoder_symbols.specs.declared.chains.Link.{Link}
use Rattle.autocoder_placing.specs.Characters.{characters_of}
use Rattle.autocoder_placing.specs.Literals.{key_of, same_key, key_length}
use Rattle.autocoder_placing.specs.declared.literals.LiteralKey.{LiteralKey}
use Rattle.autocoder_placing.specs.declared.literals.LiteralKey.TheVariants as keys
use Rattle.autocoder_placing.specs.declared.symbol_values.SymbolValue.{SymbolValue}

-- what is placed so far: the chains of EQUs of all lines, the next place, the place after the highest that is taken, the
-- first place of the last areas, the place that the labels of their fields are counted from and the index of these, the
-- place of the first instruction, the next place as it was before END, the labels' values, the literals in order of first
-- use with what each was first written as, and the units places of those that are placed
pub record Placement : Type 0 where
  pub chains : Chains
  pub next : ℤ
  pub highest : Option ℤ
  pub areas : ℤ
  pub fields_from : ℤ
  pub fields_index : ℕ
  pub first_instruction : Option ℤ
  pub before_end : ℤ
  pub values : List (Label × SymbolValue)
  pub literals : List LiteralKey
  pub spellings : List Literal
  pub addresses : List ℤ

-- where a program is placed without ORG
abbrev pub usual_place : ℤ
usual_place = pos 333

-- before the first line, with these chains
abbrev pub nothing_placed : Chains → Placement
nothing_placed chains =
    record {
      chains = chains;
      next = usual_place;
      highest = None;
      areas = usual_place;
      fields_from = usual_place;
      fields_index = 0;
      first_instruction = None;
      before_end = usual_place;
      values = [];
      literals = [];
      spellings = [];
      addresses = [];
    }

-- how many places an instruction takes: its operation, its addresses, its d-character
abbrev pub instruction_length : Operands → ℕ
instruction_length this = 1 + 3 * count_of this.a + 3 * count_of this.b + option_map_or (λ d. 1) this.d 0

abbrev pub constant_length : Option Constant → ℕ
constant_length None = 0
constant_length (Some constant) = (characters_of constant).len

-- an area, and the record mark after it
abbrev pub area_stride : Areas → ℕ
area_stride areas = areas.length + (if areas.has_record_marks then 1 else 0)

abbrev pub areas_length : Option Areas → ℕ
areas_length None = 0
areas_length (Some areas) =
    areas.count * area_stride areas + (if areas.has_group_mark then 1 else 0)

-- how many places a chain takes: one for each of its instructions
abbrev pub chain_length : Chain → ℕ
chain_length chain = unwrap_or chain.count 0

-- how many places contents fill
abbrev pub contents_length : Contents → ℕ
contents_length contents.Nothing = 0
contents_length (contents.Instruction instruction operands) = instruction_length operands
contents_length (contents.MarkedConstant constant) = constant_length constant
contents_length (contents.Constant constant) = constant_length constant
contents_length (contents.Space places) = unwrap_or places 0
contents_length (contents.Areas areas) = areas_length areas
contents_length (contents.Chain chain) = chain_length chain
contents_length (contents.AddressConstant constant) = 3

-- how many places a body takes, without the literals that it places
abbrev pub length_of : Body → ℕ
length_of body = contents_length (describe body).contents

-- the units place of an index register
abbrev pub register_value : ℕ → ℤ
register_value number = pos (84 + 5 * number)

-- the first place from this one on whose number ends in 00; no place is below 0
abbrev pub next_hundred : ℤ → ℤ
next_hundred at = if int_le (pos 0) at then pos (nat_abs (at +ℤ pos 99) / 100 * 100) else pos 0

-- what a symbol is that no label has
abbrev pub no_symbol : SymbolValue
no_symbol = record { value = pos 0; index = 0; unit = None }

-- the value of a symbol that names a unit: no adjustment makes a place of it
abbrev pub no_place : ℤ
no_place = negsuc 99999

-- a symbol by these values of labels
abbrev pub symbol_by : List (Label × SymbolValue) → Label → SymbolValue
symbol_by values label = unwrap_or (lookup (same_label label) values) no_symbol

-- a symbol by the end of its chain: with what the links add to the last symbol's value, and their index before its own
abbrev pub symbol_beyond : List (Label × SymbolValue) → Link → SymbolValue
symbol_beyond values link =
    let last = symbol_by values link.to in
    record { value = last.value +ℤ link.added; index = unwrap_or link.index last.index; unit = None }

-- what symbols stand for
abbrev pub SymbolValues : Type 0
SymbolValues = Label → SymbolValue

-- what symbols stand for by what is placed so far: the label of a chain by its end
abbrev pub symbols_of : Placement → SymbolValues
symbols_of this label =
    option_map_or (symbol_beyond this.values) (link_of this.chains label) (symbol_by this.values label)

-- the value of what an address is counted from, with this place for an asterisk
abbrev pub base_value : SymbolValues → ℤ → Base → ℤ
base_value symbols here (bases.Number number) = pos number
base_value symbols here (bases.Symbol label) = (symbols label).value
base_value symbols here bases.Here = here
base_value symbols here (bases.Register number) = register_value number
base_value symbols here bases.NextHundred = next_hundred here

-- the value of an operand by what symbols stand for, with this place for an asterisk
abbrev pub value_so_far : SymbolValues → ℤ → OperandField → ℤ
value_so_far symbols here fields.Absent = pos 0
value_so_far symbols here fields.Malformed = pos 0
value_so_far symbols here (fields.Operand (operands.Address address)) =
    base_value symbols here address.base +ℤ address.adjustment
value_so_far symbols here (fields.Operand (operands.Literal literal)) = pos 0
value_so_far symbols here (fields.Operand (operands.Unit unit)) = pos 0

-- the index of a symbol as the base of an address; no other base has one
abbrev pub base_index : SymbolValues → Base → ℕ
base_index symbols (bases.Number number) = 0
base_index symbols (bases.Symbol label) = (symbols label).index
base_index symbols bases.Here = 0
base_index symbols (bases.Register number) = 0
base_index symbols bases.NextHundred = 0

-- the index of an address: the one that it names, +X0 for none among them, and else that of its symbol
abbrev pub address_index : SymbolValues → Address → ℕ
address_index symbols address = unwrap_or address.index (base_index symbols address.base)

-- a base alone, without an adjustment and an index
abbrev pub is_alone : Address → Bool
is_alone address = int_eq address.adjustment (pos 0) && is_none address.index

-- the unit that a base names, if it is a symbol alone
abbrev pub base_unit : SymbolValues → Bool → Base → Option AUnit
base_unit symbols alone (bases.Number number) = None
base_unit symbols alone (bases.Symbol label) = if alone then (symbols label).unit else None
base_unit symbols alone bases.Here = None
base_unit symbols alone (bases.Register number) = None
base_unit symbols alone bases.NextHundred = None

-- the unit that an address names
abbrev pub address_unit : SymbolValues → Address → Option AUnit
address_unit symbols address = base_unit symbols (is_alone address) address.base

-- the index of an operand by what symbols stand for
abbrev pub index_so_far : SymbolValues → OperandField → ℕ
index_so_far symbols fields.Absent = 0
index_so_far symbols fields.Malformed = 0
index_so_far symbols (fields.Operand (operands.Address address)) = address_index symbols address
index_so_far symbols (fields.Operand (operands.Literal literal)) = 0
index_so_far symbols (fields.Operand (operands.Unit unit)) = 0

-- an asterisk is the next place in ORG and LTORG, and in other values the last place before it
abbrev pub asterisk_place : ℤ → Next → ℤ
asterisk_place place next.Beyond = place +ℤ negsuc 0
asterisk_place place next.Literals = place +ℤ negsuc 0
asterisk_place place next.Value = place
asterisk_place place next.LiteralsAtValue = place
asterisk_place place next.Elsewhere = place

-- the place after the highest that is taken, or the next one while none is
abbrev pub after_highest : Placement → ℤ
after_highest this = unwrap_or this.highest this.next

-- the value of an origin by the labels of what is placed by others; without an operand it is the place after the highest
-- that is taken
abbrev pub origin_value : Placement → Placement → Next → OperandField → ℤ
origin_value by this step fields.Absent = after_highest this
origin_value by this step fields.Malformed = pos 0
origin_value by this step (fields.Operand operand) =
    value_so_far (symbols_of by) (asterisk_place this.next step) (fields.Operand operand)

-- where a program begins: the value of END, or without an operand the place of its first instruction
abbrev pub entry_value : Placement → OperandField → ℤ
entry_value all fields.Absent = unwrap_or all.first_instruction usual_place
entry_value all fields.Malformed = pos 0
entry_value all (fields.Operand operand) =
    value_so_far (symbols_of all) (asterisk_place all.before_end next.Literals) (fields.Operand operand)

-- the literals that are used and not placed
abbrev pub pending : Placement → List LiteralKey
pending this = drop (length this.addresses) this.literals

-- the place after literals that begin at a place
abbrev pub beyond_literal : ℤ → LiteralKey → ℤ
beyond_literal from literal = from +ℤ pos (key_length literal)

abbrev pub beyond_literals : ℤ → List LiteralKey → ℤ
beyond_literals from literals = fold beyond_literal from literals

-- the units places of literals that begin at a place
abbrev pub units_from : ℤ → List LiteralKey → List ℤ
units_from from [] = []
units_from from (literal ∷ literals) =
    (beyond_literal from literal +ℤ negsuc 0) ∷ units_from (beyond_literal from literal) literals

-- the higher of a place that there may be and another
abbrev pub higher : Option ℤ → ℤ → ℤ
higher None beyond = beyond
higher (Some highest) beyond = if int_lt highest beyond then beyond else highest

-- the place after the highest that is taken, once all from a first place up to the one before another are
abbrev pub highest_with : Option ℤ → ℤ → ℤ → Option ℤ
highest_with highest first beyond = if int_lt first beyond then Some (higher highest beyond) else highest

-- the places up to the one before this are taken, and it is next
abbrev pub taken_up_to : Placement → ℤ → Placement
taken_up_to this beyond = record this { next = beyond; highest = highest_with this.highest this.next beyond }

-- a literal that is used: a new one goes last
abbrev pub with_literal : Placement → Literal → Placement
with_literal this literal =
    if list_any (same_key (key_of literal)) this.literals then this
    else record this {
      literals = this.literals ++ key_of literal ∷ [];
      spellings =
          this.spellings ++ literal ∷ [];
    }

abbrev pub with_operand : Placement → OperandField → Placement
with_operand this fields.Absent = this
with_operand this fields.Malformed = this
with_operand this (fields.Operand (operands.Address address)) = this
with_operand this (fields.Operand (operands.Literal literal)) = with_literal this literal
with_operand this (fields.Operand (operands.Unit unit)) = this

-- the label of an area literal is its units place, and has no index
abbrev pub with_area : List (Label × SymbolValue) → ℤ → LiteralKey → List (Label × SymbolValue)
with_area values units (keys.Characters characters) = values
with_area values units (keys.Address literal) = values
with_area values units (keys.Area literal) =
    insert_entry same_label values literal.label (record { value = units; index = 0; unit = None })

-- the values of labels with those of the literals that begin at a place
abbrev pub with_area_labels : List (Label × SymbolValue) → ℤ → List LiteralKey → List (Label × SymbolValue)
with_area_labels values from [] = values
with_area_labels values from (literal ∷ literals) =
    let beyond = beyond_literal from literal in
    with_area_labels (with_area values (beyond +ℤ negsuc 0) literal) beyond literals

-- EX, END and LTORG place the literals that are used and not placed
abbrev pub with_pending : Placement → Placement
with_pending this =
    record (taken_up_to this (beyond_literals this.next (pending this))) {
      values = with_area_labels this.values this.next (pending this);
      addresses =
          this.addresses ++ units_from this.next (pending this);
    }

abbrev pub with_next : Placement → ℤ → Placement
with_next this next = record this { next = next }

-- the literals that addresses are
abbrev pub with_uses : Placement → Addressing → Placement
with_uses this addressing.Nothing = this
with_uses this (addressing.Addresses of) = with_operand (with_operand this of.a) of.b
with_uses this (addressing.EarlierValue of) = this
with_uses this (addressing.Equal of) = this
with_uses this (addressing.Value of) = this
with_uses this (addressing.Entry of) = this

-- the place that the labels of fields of areas are counted from: the first place of the areas, or 0 where they ask for
-- it
abbrev pub counted_from : ℤ → Option Areas → ℤ
counted_from first None = first
counted_from first (Some made) = if made.counts_from_zero then pos 0 else first

-- the index that the labels of fields of areas have
abbrev pub index_of_fields : Option Areas → ℕ
index_of_fields made = option_map_or (λ (of : Areas). of.index) made 0

-- areas begin at this place
abbrev pub with_areas : Placement → ℤ → AreaRole → Placement
with_areas this first areas.Ends = this
with_areas this first areas.Keeps = this
with_areas this first (areas.Makes made) =
    record this { areas = first; fields_from = counted_from first made; fields_index = index_of_fields made }
with_areas this first (areas.Divides span) = this

-- the value of ORG and of LTORG, by the values so far, and the first place of a constant that isn't at the next one
abbrev pub own_value : Placement → Addressing → ℤ
own_value this asked = origin_value this this next.Value (operands_in asked).a

-- what becomes of the next place
abbrev pub next_moved : Placement → Description → Next → Placement
next_moved this row next.Beyond = taken_up_to this (this.next +ℤ pos (contents_length row.contents))
next_moved this row next.Literals = with_pending this
next_moved this row next.Value = with_next this (own_value this row.addressing)
next_moved this row next.LiteralsAtValue = with_pending (with_next this (own_value this row.addressing))
next_moved this row next.Elsewhere = this

-- where a statement places its cells: from the next place on, but those of LTORG, and of a constant elsewhere, from its
-- value on
abbrev pub start_by : Placement → Description → Next → ℤ
start_by this row next.Beyond = this.next
start_by this row next.Literals = this.next
start_by this row next.Value = this.next
start_by this row next.LiteralsAtValue = own_value this row.addressing
start_by this row next.Elsewhere = own_value this row.addressing

abbrev pub start_of : Placement → Option Statement → ℤ
start_of this None = this.next
start_of this (Some statement) = start_by this (describe statement.body) (describe statement.body).next

-- the place of the first instruction, once contents begin at a place
abbrev pub first_of_two : Option ℤ → ℤ → Contents → Option ℤ
first_of_two first place contents.Nothing = first
first_of_two first place (contents.Instruction instruction of) = Some (unwrap_or first place)
first_of_two first place (contents.MarkedConstant constant) = first
first_of_two first place (contents.Constant constant) = first
first_of_two first place (contents.Space places) = first
first_of_two first place (contents.Areas made) = first
first_of_two first place (contents.Chain chain) = first
first_of_two first place (contents.AddressConstant constant) = first

-- the next place as it was before END, once a statement is at a place
abbrev pub end_of_two : ℤ → ℤ → Addressing → ℤ
end_of_two before place addressing.Nothing = before
end_of_two before place (addressing.Addresses of) = before
end_of_two before place (addressing.EarlierValue of) = before
end_of_two before place (addressing.Equal of) = before
end_of_two before place (addressing.Value of) = before
end_of_two before place (addressing.Entry of) = place

-- the place of the first instruction, and the next place as it was before END
abbrev pub with_ends : Placement → Option ℤ → ℤ → Placement
with_ends this first before_end = record this { first_instruction = first; before_end = before_end }

-- what is placed after a statement, but for where the program begins
abbrev pub gone_on : Placement → Description → Placement
gone_on this row = with_uses (with_areas (next_moved this row row.next) this.next row.areas) row.addressing

-- what is placed after a statement
abbrev pub beyond_row : Placement → Description → Placement
beyond_row this row =
    with_ends (gone_on this row) (first_of_two this.first_instruction this.next row.contents)
    (end_of_two this.before_end this.next row.addressing)

abbrev pub beyond_body : Placement → Body → Placement
beyond_body this body = beyond_row this (describe body)

-- the value that a statement asks for, by the labels of what is placed by others
abbrev pub asked_value : Placement → Placement → Next → Addressing → ℤ
asked_value by this step addressing.Nothing = pos 0
asked_value by this step (addressing.Addresses of) = value_so_far (symbols_of by) (asterisk_place this.next step) of.a
asked_value by this step (addressing.EarlierValue of) = origin_value by this step of.a
asked_value by this step (addressing.Equal of) = value_so_far (symbols_of by) (asterisk_place this.next step) of.a
asked_value by this step (addressing.Value of) = value_so_far (symbols_of by) (asterisk_place this.next step) of.a
asked_value by this step (addressing.Entry of) = entry_value by of.a

-- the place that a statement's point names, with its operand by the labels of what is placed by others
abbrev pub point_value : Placement → Placement → Description → Point → ℤ
point_value by this row point.First = this.next
point_value by this row point.Last = this.next +ℤ pos (contents_length row.contents) +ℤ negsuc 0
point_value by this row (point.InArea place) = this.areas +ℤ pos place +ℤ negsuc 0
point_value by this row (point.Counted place) = this.fields_from +ℤ pos place +ℤ negsuc 0
point_value by this row point.Value = asked_value by this row.next row.addressing

-- the index of what a statement's point names: a field of areas has that of their fields, and EQU that of its operand
abbrev pub point_index : Placement → Description → Point → ℕ
point_index this row point.First = 0
point_index this row point.Last = 0
point_index this row (point.InArea place) = 0
point_index this row (point.Counted place) = this.fields_index
point_index this row point.Value = index_so_far (symbols_of this) (operands_in row.addressing).a

-- the unit that EQU gives its label
abbrev pub operand_unit : OperandField → Option AUnit
operand_unit fields.Absent = None
operand_unit fields.Malformed = None
operand_unit (fields.Operand (operands.Address address)) = None
operand_unit (fields.Operand (operands.Literal literal)) = None
operand_unit (fields.Operand (operands.Unit unit)) = Some unit

abbrev pub label_unit : Addressing → Option AUnit
label_unit addressing.Nothing = None
label_unit (addressing.Addresses of) = None
label_unit (addressing.EarlierValue of) = None
label_unit (addressing.Equal of) = operand_unit of.a
label_unit (addressing.Value of) = None
label_unit (addressing.Entry of) = None

-- the name of a unit, or a symbol with this value and index
abbrev pub unit_or_value : Option AUnit → ℤ → ℕ → SymbolValue
unit_or_value None value index = record { value = value; index = index; unit = None }
unit_or_value (Some unit) value index = record { value = no_place; index = 0; unit = Some unit }

-- the value of a label: the units place of a constant, the last place of DS, the last place of a field in the first
-- area, the value of EQU, and else the first place; its index, and the unit that it names
abbrev pub label_value : Placement → Body → SymbolValue
label_value this body =
    let row = describe body in
    unit_or_value (label_unit row.addressing) (point_value this this row row.names) (point_index this row row.names)

abbrev pub with_label : Placement → Option Label → SymbolValue → Placement
with_label this None value = this
with_label this (Some label) value = record this { values = insert_entry same_label this.values label value }

abbrev pub after_statement : Placement → Statement → Placement
after_statement this statement =
    with_label (beyond_body this statement.body) (well_formed statement.label) (label_value this statement.body)

abbrev pub placed_after : Placement → Line → Placement
placed_after this line = option_map_or (after_statement this) line.statement this

-- before the first line of a source all of which is placed
abbrev pub unplaced : Placement → Placement
unplaced all = nothing_placed all.chains

-- what is placed by lines that all these lines begin with
abbrev pub placed_among : List Line → List Line → Placement
placed_among all lines = fold placed_after (nothing_placed (chains_of (sites_of all) all)) lines

-- what is placed by all lines
abbrev pub placed : List Line → Placement
placed lines = placed_among lines lines

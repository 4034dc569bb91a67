-- The table of the kinds of statement: a row for each kind, a column for each thing that the assembler asks of one
-- (Autocoder, "Declarative Operations", "Assembler Control").
use Rattle.std.specs.Prelude.{ℕ, ◌-◌, Bool, true, false, not, neg_ℤ, pos, Option, None, Some, is_some}
use Rattle.std.specs.Option.{option_map_or}
use Rattle.autocoder_statements.specs.Constant.{graphics_in}
use Rattle.autocoder_statements.specs.LoneAddress.{is_one_address, is_open_origin, is_value, is_wide_entry}
use Rattle.autocoder_statements.specs.LoneAddress.{is_wide_equal}
use Rattle.autocoder_statements.specs.LoneAddress.{is_unit, is_wide_origin, is_wide_value}
use Rattle.autocoder_statements.specs.Operands.{has_malformed}
use Rattle.autocoder_statements.specs.Symbols.{operands_under}
use Rattle.autocoder_statements.specs.declared.address.Base.TheVariants as bases
use Rattle.autocoder_statements.specs.declared.constant.Constant.{Constant}
use Rattle.autocoder_statements.specs.declared.description.Addressing.{Addressing}
use Rattle.autocoder_statements.specs.declared.description.Addressing.TheVariants as addressing
use Rattle.autocoder_statements.specs.declared.description.AreaRole.TheVariants as areas
use Rattle.autocoder_statements.specs.declared.description.Contents.{Contents}
use Rattle.autocoder_statements.specs.declared.description.Contents.TheVariants as contents
use Rattle.autocoder_statements.specs.declared.description.Description.{Description}
use Rattle.autocoder_statements.specs.declared.description.LabelRule.{LabelRule}
use Rattle.autocoder_statements.specs.declared.description.LabelRule.TheVariants as label
use Rattle.autocoder_statements.specs.declared.description.Next.TheVariants as next
use Rattle.autocoder_statements.specs.declared.description.Point.TheVariants as point
use Rattle.autocoder_statements.specs.declared.description.Relation.TheVariants as relations
use Rattle.autocoder_statements.specs.declared.operands.Operand.TheVariants as operands
use Rattle.autocoder_statements.specs.declared.operands.OperandField.TheVariants as fields
use Rattle.autocoder_statements.specs.declared.operands.Operands.{Operands}
use Rattle.autocoder_statements.specs.declared.statement.Areas.{Areas}
use Rattle.autocoder_statements.specs.declared.statement.Body.{Body}
use Rattle.autocoder_statements.specs.declared.statement.Body.TheVariants as bodies
use Rattle.autocoder_statements.specs.declared.statement.PlacedConstant.{PlacedConstant}
use Rattle.autocoder_statements.specs.declared.statement.SizeField.{SizeField}
use Rattle.autocoder_statements.specs.declared.statement.SizeField.TheVariants as sizes
use Rattle.autocoder_statements.specs.declared.statement.SuffixField.{SuffixField}
use Rattle.autocoder_statements.specs.declared.statement.SuffixField.TheVariants as suffixes
use Rattle.autocoder_statements.specs.declared.statement.Span.{Span}
use Rattle.autocoder_statements.specs.declared.symbols.SymbolRule.{SymbolRule}

-- what a row says in the columns that it doesn't name
abbrev pub plain : Description
plain =
    record {
      is_known = true;
      is_well_formed = true;
      label = label.Optional;
      names = point.First;
      shows = point.First;
      addressing = addressing.Nothing;
      next = next.Beyond;
      areas = areas.Ends;
      contents = contents.Nothing;
      relation = relations.Apart;
      is_remark = false;
    }

-- what the row of a remark says in the columns that it doesn't name: it has no label, and areas go on below it
abbrev pub remark : Description
remark = record plain { label = label.Forbidden; areas = areas.Keeps; is_remark = true }

abbrev pub is_malformed_size : SizeField → Bool
is_malformed_size sizes.Absent = false
is_malformed_size sizes.Malformed = true
is_malformed_size (sizes.Size size) = false

abbrev pub is_malformed_suffix : SuffixField → Bool
is_malformed_suffix suffixes.Absent = false
is_malformed_suffix suffixes.Malformed = true
is_malformed_suffix (suffixes.Suffix graphic) = false

-- the row of a field of areas with this rule of its label
abbrev pub field_row : LabelRule → Option Span → Description
field_row rule span =
    record plain {
      is_well_formed = is_some span;
      label = rule;
      names = option_map_or (λ (places : Span). point.Counted places.last) span point.First;
      shows = option_map_or (λ (places : Span). point.InArea places.first) span point.First;
      areas = areas.Divides span;
    }

-- the rows of EQU, ORG, EX and END whose operands are as they ask; that of ORG is for one that may have a label
abbrev pub equate_row : Operands → Description
equate_row of =
    record plain {
      label = label.Required;
      names = point.Value;
      shows = point.Value;
      addressing = addressing.Equal of;
    }

abbrev pub origin_row : Operands → Description
origin_row of =
    record plain { shows = point.Value; addressing = addressing.EarlierValue of; next = next.Value }

abbrev pub execute_row : Operands → Description
execute_row of =
    record plain {
      label = label.Forbidden;
      shows = point.Value;
      addressing = addressing.Value of;
      next = next.Literals;
    }

abbrev pub end_row : Operands → Description
end_row of =
    record plain {
      label = label.Forbidden;
      shows = point.Value;
      addressing = addressing.Entry of;
      next = next.Literals;
    }

-- many blanks are placed as one area is
abbrev pub one_area : ℕ → Areas
one_area places =
    record {
      count = 1;
      length = places;
      has_group_mark = false;
      has_record_marks = false;
      index = 0;
      counts_from_zero = false;
    }

-- a constant with a word mark or without
abbrev pub constant_contents : Bool → Option Constant → Contents
constant_contents true constant = contents.MarkedConstant constant
constant_contents false constant = contents.Constant constant

-- how many places a constant takes
abbrev pub places_of_constant : Option Constant → ℕ
places_of_constant constant = option_map_or graphics_in constant 0

-- the first place of a constant that ends at this one, as the only operand
abbrev pub first_place : ℕ → ℕ → Operands
first_place last length =
    record {
      a = fields.Operand (operands.Address (record {
        base = bases.Number last;
        adjustment = neg_ℤ (pos (length - 1));
        index = None;
      }));
      b = fields.Absent;
      d = None;
      is_whole = true;
    }

-- the row of a constant that isn't at the next place
abbrev pub placed_row : PlacedConstant → Description
placed_row placed =
    record plain {
      is_well_formed = is_some placed.constant;
      label = label.Forbidden;
      names = point.Value;
      shows = point.Value;
      addressing = addressing.EarlierValue (first_place placed.last (places_of_constant placed.constant));
      next = next.Elsewhere;
      contents = constant_contents placed.is_marked placed.constant;
    }

-- the row of a statement
abbrev pub describe : Body → Description
describe bodies.Unknown = record plain { is_known = false }
describe (bodies.Instruction instruction of) =
    record plain {
      is_well_formed = not (has_malformed of);
      addressing = addressing.Addresses of;
      contents = contents.Instruction instruction of;
      relation = relations.Repeated instruction.operation;
    }
describe (bodies.MarkedConstant constant) =
    record plain {
      is_well_formed = is_some constant;
      names = point.Last;
      contents = contents.MarkedConstant constant;
    }
describe (bodies.Constant constant) =
    record plain { is_well_formed = is_some constant; names = point.Last; contents = contents.Constant constant }
describe (bodies.Space places) =
    record plain { is_well_formed = is_some places; names = point.Last; contents = contents.Space places }
describe (bodies.Areas made) =
    record plain { is_well_formed = is_some made; areas = areas.Makes made; contents = contents.Areas made }
describe (bodies.Blanks places) =
    record plain { names = point.Last; contents = contents.Areas (Some (one_area places)) }
describe (bodies.PlacedConstant placed) = placed_row placed
describe (bodies.Field span) = field_row label.OfField span
describe (bodies.WideField span) = field_row label.Optional span
describe (bodies.Equate of) = record (equate_row of) { is_well_formed = is_value of }
describe (bodies.WideEquate of) = record (equate_row of) { is_well_formed = is_wide_equal of; is_remark = is_unit of.a }
describe (bodies.Origin of) = record (origin_row of) { is_well_formed = is_value of; label = label.Forbidden }
describe (bodies.LabelledOrigin of) = record (origin_row of) { is_well_formed = is_open_origin of }
describe (bodies.LiteralOrigin of) =
    record (origin_row of) { is_well_formed = is_wide_origin of; next = next.LiteralsAtValue }
describe (bodies.Execute of) = record (execute_row of) { is_well_formed = is_value of }
describe (bodies.WideExecute of) = record (execute_row of) { is_well_formed = is_wide_value of }
describe (bodies.End of) = record (end_row of) { is_well_formed = is_value of }
describe (bodies.WideEnd of) = record (end_row of) { is_well_formed = is_wide_entry of }
describe (bodies.Heading is_well_formed) = record remark { is_well_formed = is_well_formed }
describe (bodies.Control size) =
    record remark { is_well_formed = not (is_malformed_size size); relation = relations.Control size }
describe bodies.SecondControl = record remark { is_known = false; relation = relations.SecondControl }
describe (bodies.Suffix suffix) =
    record remark { is_well_formed = not (is_malformed_suffix suffix); relation = relations.Suffix suffix }
describe (bodies.Transfer of) =
    record plain {
      is_well_formed = is_wide_value of;
      label = label.Forbidden;
      shows = point.Value;
      addressing = addressing.Value of;
    }
describe (bodies.Chain chain) =
    record plain {
      is_known = is_some chain.operation;
      is_well_formed = is_some chain.count;
      contents = contents.Chain chain;
      relation = relations.Repeats chain;
    }
describe (bodies.AddressConstant constant) =
    record plain {
      is_well_formed = is_one_address constant.operands;
      names = point.Last;
      addressing = addressing.Addresses constant.operands;
      contents = contents.AddressConstant constant;
    }

abbrev pub is_required : LabelRule → Bool
is_required label.Optional = false
is_required label.Required = true
is_required label.Forbidden = false
is_required label.OfField = false

abbrev pub is_forbidden : LabelRule → Bool
is_forbidden label.Optional = false
is_forbidden label.Required = false
is_forbidden label.Forbidden = true
is_forbidden label.OfField = false

abbrev pub is_of_field : LabelRule → Bool
is_of_field label.Optional = false
is_of_field label.Required = false
is_of_field label.Forbidden = false
is_of_field label.OfField = true

-- the operands in which a label may stand
abbrev pub operands_in : Addressing → Operands
operands_in addressing.Nothing = record { a = fields.Absent; b = fields.Absent; d = None; is_whole = true }
operands_in (addressing.Addresses of) = of
operands_in (addressing.EarlierValue of) = of
operands_in (addressing.Equal of) = of
operands_in (addressing.Value of) = of
operands_in (addressing.Entry of) = of

-- the program begins at the operand
abbrev pub is_entry : Addressing → Bool
is_entry addressing.Nothing = false
is_entry (addressing.Addresses of) = false
is_entry (addressing.EarlierValue of) = false
is_entry (addressing.Equal of) = false
is_entry (addressing.Value of) = false
is_entry (addressing.Entry of) = true

-- the symbols of an operation's operands
abbrev pub body_under : SymbolRule → Body → Body
body_under rule bodies.Unknown = bodies.Unknown
body_under rule (bodies.Instruction instruction of) = bodies.Instruction instruction (operands_under rule of)
body_under rule (bodies.MarkedConstant constant) = bodies.MarkedConstant constant
body_under rule (bodies.Constant constant) = bodies.Constant constant
body_under rule (bodies.Space places) = bodies.Space places
body_under rule (bodies.Areas areas) = bodies.Areas areas
body_under rule (bodies.Field span) = bodies.Field span
body_under rule (bodies.Equate of) = bodies.Equate (operands_under rule of)
body_under rule (bodies.Origin of) = bodies.Origin (operands_under rule of)
body_under rule (bodies.Execute of) = bodies.Execute (operands_under rule of)
body_under rule (bodies.End of) = bodies.End (operands_under rule of)
body_under rule (bodies.Heading is_well_formed) = bodies.Heading is_well_formed
body_under rule (bodies.Control size) = bodies.Control size
body_under rule bodies.SecondControl = bodies.SecondControl
body_under rule (bodies.Suffix suffix) = bodies.Suffix suffix
body_under rule (bodies.Transfer of) = bodies.Transfer (operands_under rule of)
body_under rule (bodies.Chain chain) = bodies.Chain chain
body_under rule (bodies.AddressConstant constant) =
    bodies.AddressConstant (record constant { operands = operands_under rule constant.operands })
body_under rule (bodies.Blanks places) = bodies.Blanks places
body_under rule (bodies.PlacedConstant placed) = bodies.PlacedConstant placed
body_under rule (bodies.LabelledOrigin of) = bodies.LabelledOrigin (operands_under rule of)
body_under rule (bodies.LiteralOrigin of) = bodies.LiteralOrigin (operands_under rule of)
body_under rule (bodies.WideField span) = bodies.WideField span
body_under rule (bodies.WideEquate of) = bodies.WideEquate (operands_under rule of)
body_under rule (bodies.WideExecute of) = bodies.WideExecute (operands_under rule of)
body_under rule (bodies.WideEnd of) = bodies.WideEnd (operands_under rule of)

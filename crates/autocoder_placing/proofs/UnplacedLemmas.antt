-- Placing lines leaves the chains of EQUs as they are.
use Rattle.std.proofs.Common.{◌≡◌, Bool, true, false, List, [], ◌∷◌, ◌++◌, ℤ, Option, None, Some, refl, ap, ◌∙◌}
use Rattle.std.specs.Prelude.{fold, if◌then◌else◌}
use Rattle.std.specs.List.{list_any}
use Rattle.autocoder_statements.specs.Description.{describe}
use Rattle.autocoder_statements.specs.Statement.{well_formed}
use Rattle.autocoder_statements.specs.declared.description.Addressing.{Addressing}
use Rattle.autocoder_statements.specs.declared.description.Addressing.TheVariants as addressing
use Rattle.autocoder_statements.specs.declared.description.AreaRole.{AreaRole}
use Rattle.autocoder_statements.specs.declared.description.AreaRole.TheVariants as areas
use Rattle.autocoder_statements.specs.declared.description.Description.{Description}
use Rattle.autocoder_statements.specs.declared.description.Next.{Next}
use Rattle.autocoder_statements.specs.declared.description.Next.TheVariants as next
use Rattle.autocoder_statements.specs.declared.label.Label.{Label}
use Rattle.autocoder_statements.specs.declared.literal.Literal.{Literal}
use Rattle.autocoder_statements.specs.declared.operands.Operand.TheVariants as operands
use Rattle.autocoder_statements.specs.declared.operands.OperandField.{OperandField}
use Rattle.autocoder_statements.specs.declared.operands.OperandField.TheVariants as fields
use Rattle.autocoder_statements.specs.declared.statement.Line.{Line}
use Rattle.autocoder_statements.specs.declared.statement.Statement.{Statement}
use Rattle.autocoder_symbols.specs.Chains.{chains_of}
use Rattle.autocoder_symbols.specs.Symbols.{sites_of}
use Rattle.autocoder_placing.specs.Literals.{key_of, same_key}
use Rattle.autocoder_placing.specs.Placement.{Placement, nothing_placed, with_literal, with_operand, with_uses}
use Rattle.autocoder_placing.specs.Placement.{with_areas}
use Rattle.autocoder_placing.specs.Placement.{next_moved, beyond_row, beyond_body, with_label, label_value}
use Rattle.autocoder_placing.specs.Placement.{placed_after}
use Rattle.autocoder_placing.specs.Placement.{unplaced, placed}
use Rattle.autocoder_placing.specs.declared.symbol_values.SymbolValue.{SymbolValue}

literal_chains : (this : Placement) (literal : Literal) → (with_literal this literal).chains ≡ this.chains
literal_chains this literal = by (list_any (same_key (key_of literal)) this.literals)
  where
    by : (b : Bool)
        → (if b then this else record this {
          literals = this.literals ++ key_of literal ∷ [];
          spellings = this.spellings ++ literal ∷ [];
        }).chains
        ≡ this.chains
    by true = refl
    by false = refl

operand_chains : (this : Placement) (field : OperandField) → (with_operand this field).chains ≡ this.chains
operand_chains this fields.Absent = refl
operand_chains this fields.Malformed = refl
operand_chains this (fields.Operand (operands.Address address)) = refl
operand_chains this (fields.Operand (operands.Literal literal)) = literal_chains this literal
operand_chains this (fields.Operand (operands.Unit unit)) = refl

uses_chains : (this : Placement) (asked : Addressing) → (with_uses this asked).chains ≡ this.chains
uses_chains this addressing.Nothing = refl
uses_chains this (addressing.Addresses of) = operand_chains (with_operand this of.a) of.b ∙ operand_chains this of.a
uses_chains this (addressing.EarlierValue of) = refl
uses_chains this (addressing.Equal of) = refl
uses_chains this (addressing.Value of) = refl
uses_chains this (addressing.Entry of) = refl

areas_chains : (this : Placement) (first : ℤ) (role : AreaRole) → (with_areas this first role).chains ≡ this.chains
areas_chains this first areas.Ends = refl
areas_chains this first areas.Keeps = refl
areas_chains this first (areas.Makes made) = refl
areas_chains this first (areas.Divides span) = refl

next_moved_chains : (this : Placement) (row : Description) (step : Next)
    → (next_moved this row step).chains ≡ this.chains
next_moved_chains this row next.Beyond = refl
next_moved_chains this row next.Literals = refl
next_moved_chains this row next.Value = refl
next_moved_chains this row next.LiteralsAtValue = refl
next_moved_chains this row next.Elsewhere = refl

row_chains : (this : Placement) (row : Description) → (beyond_row this row).chains ≡ this.chains
row_chains this row =
    let on = next_moved this row row.next in
    uses_chains (with_areas on this.next row.areas) row.addressing ∙ areas_chains on this.next row.areas
    ∙ next_moved_chains this row row.next

label_chains : (this : Placement) (label : Option Label) (value : SymbolValue)
    → (with_label this label value).chains ≡ this.chains
label_chains this None value = refl
label_chains this (Some label) value = refl

line_chains : (this : Placement) (line : Line) → (placed_after this line).chains ≡ this.chains
line_chains this line = by line.statement
  where
    by : (statement : Option Statement)
        → (placed_after this (record { bytes = line.bytes; statement = statement })).chains ≡ this.chains
    by None = refl
    by (Some statement) =
        label_chains (beyond_body this statement.body) (well_formed statement.label) (label_value this statement.body)
        ∙ row_chains this (describe statement.body)

lines_chains : (this : Placement) (lines : List Line) → (fold placed_after this lines).chains ≡ this.chains
lines_chains this [] = refl
lines_chains this (line ∷ lines) = lines_chains (placed_after this line) lines ∙ line_chains this line

-- before the first line there are the chains of the lines
pub unplaced_is : (lines : List Line) → unplaced (placed lines) ≡ nothing_placed (chains_of (sites_of lines) lines)
unplaced_is lines = ap nothing_placed (lines_chains (nothing_placed (chains_of (sites_of lines) lines)) lines)

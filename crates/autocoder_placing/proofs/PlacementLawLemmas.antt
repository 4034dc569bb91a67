-- The next place and the literals, line by line.
use Rattle.std.proofs.Common.{◌≡◌, Bool, true, false, List, [], ◌∷◌, ◌++◌, map, ℤ, pos, ◌+ℤ◌, Option, None, Some, refl}
use Rattle.std.proofs.Common.{sym, ap, ◌∙◌}
use Rattle.std.specs.Prelude.{fold, if◌then◌else◌}
use Rattle.std.specs.List.{list_any}
use Rattle.std.proofs.Math.IntN.{+ℤ_assoc, +ℤ_idr}
use Rattle.std.proofs.lemmas.List.{map-append}
use Rattle.autocoder_statements.specs.Statement.{well_formed}
use Rattle.autocoder_statements.specs.Description.{describe, operands_in}
use Rattle.autocoder_statements.specs.declared.label.Label.{Label}
use Rattle.autocoder_statements.specs.declared.literal.Literal.{Literal}
use Rattle.autocoder_statements.specs.declared.operands.Operand.TheVariants as operands
use Rattle.autocoder_statements.specs.declared.operands.OperandField.{OperandField}
use Rattle.autocoder_statements.specs.declared.operands.OperandField.TheVariants as fields
use Rattle.autocoder_statements.specs.declared.operands.Operands.{Operands}
use Rattle.autocoder_statements.specs.declared.description.Addressing.{Addressing}
use Rattle.autocoder_statements.specs.declared.description.Addressing.TheVariants as addressing
use Rattle.autocoder_statements.specs.declared.description.AreaRole.{AreaRole}
use Rattle.autocoder_statements.specs.declared.description.AreaRole.TheVariants as areas
use Rattle.autocoder_statements.specs.declared.description.Description.{Description}
use Rattle.autocoder_statements.specs.declared.description.Next.{Next}
use Rattle.autocoder_statements.specs.declared.description.Next.TheVariants as next
use Rattle.autocoder_statements.specs.declared.statement.Body.{Body}
use Rattle.autocoder_statements.specs.declared.statement.Statement.{Statement}
use Rattle.autocoder_statements.specs.declared.statement.Line.{Line}
use Rattle.autocoder_symbols.specs.Chains.{chains_of}
use Rattle.autocoder_symbols.specs.Symbols.{sites_of}
use Rattle.autocoder_placing.specs.Literals.{key_of, same_key}
use Rattle.autocoder_placing.specs.Placement.{Placement, nothing_placed, pending, with_literal, with_operand, with_uses}
use Rattle.autocoder_placing.specs.Placement.{with_areas, next_moved, beyond_row, beyond_body, with_label, label_value}
use Rattle.autocoder_placing.specs.Placement.{origin_value, placed_after, placed, placed_among}
use Rattle.autocoder_placing.specs.PlacementLaws.{row_length, body_length, length_with, lengths_from, origin_by}
use Rattle.autocoder_placing.specs.PlacementLaws.{origin_in}
use Rattle.autocoder_placing.specs.PlacementLaws.{origin_with, AreNoOrigins, literal_in, uses_by, uses_in, uses_with}
use Rattle.autocoder_placing.specs.PlacementLaws.{uses}
use Rattle.autocoder_placing.specs.PlacementLaws.{total, with_use, IsPlacedInTurn}
use Rattle.autocoder_placing.specs.declared.literals.LiteralKey.{LiteralKey}
use Rattle.autocoder_placing.specs.declared.symbol_values.SymbolValue.{SymbolValue}
use Rattle.autocoder_placing.proofs.CoreLemmas.{beyond_total}
use Rattle.autocoder_placing.proofs.StandingLemmas.{stands_beyond}

-- a literal and an operand leave the next place
literal_next : (this : Placement) (literal : Literal) → (with_literal this literal).next ≡ this.next
literal_next this literal = by (list_any (same_key (key_of literal)) this.literals)
  where
    by : (b : Bool)
        → (if b then this else record this {
          literals = this.literals ++ key_of literal ∷ [];
          spellings = this.spellings ++ literal ∷ [];
        }).next
        ≡ this.next
    by true = refl
    by false = refl

operand_next : (this : Placement) (field : OperandField) → (with_operand this field).next ≡ this.next
operand_next this fields.Absent = refl
operand_next this fields.Malformed = refl
operand_next this (fields.Operand (operands.Address address)) = refl
operand_next this (fields.Operand (operands.Literal literal)) = literal_next this literal
operand_next this (fields.Operand (operands.Unit unit)) = refl

-- a body moves the next place by its length, but for an origin
areas_next : (this : Placement) (first : ℤ) (role : AreaRole) → (with_areas this first role).next ≡ this.next
areas_next this first areas.Ends = refl
areas_next this first areas.Keeps = refl
areas_next this first (areas.Makes made) = refl
areas_next this first (areas.Divides span) = refl

uses_next : (this : Placement) (asked : Addressing) → (with_uses this asked).next ≡ this.next
uses_next this addressing.Nothing = refl
uses_next this (addressing.Addresses of) = operand_next (with_operand this of.a) of.b ∙ operand_next this of.a
uses_next this (addressing.EarlierValue of) = refl
uses_next this (addressing.Equal of) = refl
uses_next this (addressing.Value of) = refl
uses_next this (addressing.Entry of) = refl

row_next : (this : Placement) (row : Description) → (beyond_row this row).next ≡ (next_moved this row row.next).next
row_next this row =
    let on = next_moved this row row.next in
    uses_next (with_areas on this.next row.areas) row.addressing ∙ areas_next on this.next row.areas

next_moved_next : (this : Placement) (row : Description) (step : Next) → origin_by step row.addressing ≡ None
    → (next_moved this row step).next ≡ this.next +ℤ pos (row_length this row step)
next_moved_next this row next.Beyond none = refl
next_moved_next this row next.Literals none = beyond_total this.next (pending this)
next_moved_next this row next.Value none = cc
next_moved_next this row next.LiteralsAtValue none = cc
next_moved_next this row next.Elsewhere none = sym (+ℤ_idr this.next)

body_next : (this : Placement) (body : Body) → origin_in body ≡ None
    → (beyond_body this body).next ≡ this.next +ℤ pos (body_length this body)
body_next this body none =
    row_next this (describe body) ∙ next_moved_next this (describe body) (describe body).next none

-- a label leaves the next place and the literals
label_next : (this : Placement) (label : Option Label) (value : SymbolValue)
    → (with_label this label value).next ≡ this.next
label_next this None value = refl
label_next this (Some label) value = refl

label_literals : (this : Placement) (label : Option Label) (value : SymbolValue)
    → (with_label this label value).literals ≡ this.literals
label_literals this None value = refl
label_literals this (Some label) value = refl

label_spellings : (this : Placement) (label : Option Label) (value : SymbolValue)
    → (with_label this label value).spellings ≡ this.spellings
label_spellings this None value = refl
label_spellings this (Some label) value = refl

line_next : (this : Placement) (line : Line) → origin_with line.statement ≡ None
    → (placed_after this line).next ≡ this.next +ℤ pos (length_with this line.statement)
line_next this line none = by line.statement none
  where
    by : (statement : Option Statement) → origin_with statement ≡ None
        → (placed_after this (record { bytes = line.bytes; statement = statement })).next
        ≡ this.next +ℤ pos (length_with this statement)
    by None h = sym (+ℤ_idr this.next)
    by (Some statement) h =
        label_next (beyond_body this statement.body) (well_formed statement.label) (label_value this statement.body)
        ∙ body_next this statement.body h

lines_next : (this : Placement) (lines : List Line) → AreNoOrigins lines
    → (fold placed_after this lines).next ≡ this.next +ℤ pos (lengths_from this lines)
lines_next this [] none = sym (+ℤ_idr this.next)
lines_next this (line ∷ lines) none =
    lines_next (placed_after this line) lines none.1
    ∙ ap (λ (n : ℤ). n +ℤ pos (lengths_from (placed_after this line) lines)) (line_next this line none.0)
    ∙ +ℤ_assoc this.next (pos (length_with this line.statement)) (pos (lengths_from (placed_after this line) lines))

fold_append : (this : Placement) (before beyond : List Line)
    → fold placed_after this (before ++ beyond) ≡ fold placed_after (fold placed_after this before) beyond
fold_append this [] beyond = refl
fold_append this (line ∷ before) beyond = fold_append (placed_after this line) before beyond

origin_next : (this : Placement) (line : Line) (of : Operands) → origin_with line.statement ≡ Some of
    → (placed_after this line).next
    ≡ origin_value this this next.Value of.a +ℤ pos (length_with this line.statement)
origin_next this line of is = by line.statement is
  where
    moved_to : (row : Description) (step : Next) → origin_by step row.addressing ≡ Some of
        → (next_moved this row step).next
        ≡ origin_value this this next.Value of.a +ℤ pos (row_length this row step)
    moved_to row next.Beyond h = cc
    moved_to row next.Literals h = cc
    moved_to row next.Value h =
        let same : operands_in row.addressing ≡ of = cc in
        ap (λ (given : Operands). origin_value this this next.Value given.a) same
        ∙ sym (+ℤ_idr (origin_value this this next.Value of.a))
    moved_to row next.LiteralsAtValue h =
        let same : operands_in row.addressing ≡ of = cc in
        beyond_total (origin_value this this next.Value (operands_in row.addressing).a) (pending this)
        ∙ ap (λ (given : Operands). origin_value this this next.Value given.a +ℤ pos (total (pending this))) same
    moved_to row next.Elsewhere h = cc

    body : (given : Body) → origin_in given ≡ Some of
        → (beyond_body this given).next
        ≡ origin_value this this next.Value of.a +ℤ pos (body_length this given)
    body given h = row_next this (describe given) ∙ moved_to (describe given) (describe given).next h

    by : (statement : Option Statement) → origin_with statement ≡ Some of
        → (placed_after this (record { bytes = line.bytes; statement = statement })).next
        ≡ origin_value this this next.Value of.a +ℤ pos (length_with this statement)
    by None h = cc
    by (Some statement) h =
        label_next (beyond_body this statement.body) (well_formed statement.label) (label_value this statement.body)
        ∙ body statement.body h

-- a literal that is used goes last, unless it is there
literal_use : (this : Placement) (literal : Literal)
    → (with_literal this literal).literals ≡ with_use this.literals (key_of literal)
literal_use this literal = by (list_any (same_key (key_of literal)) this.literals)
  where
    by : (b : Bool)
        → (if b then this else record this {
          literals = this.literals ++ key_of literal ∷ [];
          spellings = this.spellings ++ literal ∷ [];
        }).literals
        ≡ (if b then this.literals else this.literals ++ key_of literal ∷ [])
    by true = refl
    by false = refl

operand_use : (this : Placement) (field : OperandField)
    → (with_operand this field).literals ≡ fold with_use this.literals (literal_in field)
operand_use this fields.Absent = refl
operand_use this fields.Malformed = refl
operand_use this (fields.Operand (operands.Address address)) = refl
operand_use this (fields.Operand (operands.Literal literal)) = literal_use this literal
operand_use this (fields.Operand (operands.Unit unit)) = refl

uses_append : (used first second : List LiteralKey)
    → fold with_use used (first ++ second) ≡ fold with_use (fold with_use used first) second
uses_append used [] second = refl
uses_append used (literal ∷ first) second = uses_append (with_use used literal) first second

areas_literals : (this : Placement) (first : ℤ) (role : AreaRole)
    → (with_areas this first role).literals ≡ this.literals
areas_literals this first areas.Ends = refl
areas_literals this first areas.Keeps = refl
areas_literals this first (areas.Makes made) = refl
areas_literals this first (areas.Divides span) = refl

next_moved_literals : (this : Placement) (row : Description) (step : Next)
    → (next_moved this row step).literals ≡ this.literals
next_moved_literals this row next.Beyond = refl
next_moved_literals this row next.Literals = refl
next_moved_literals this row next.Value = refl
next_moved_literals this row next.LiteralsAtValue = refl
next_moved_literals this row next.Elsewhere = refl

uses_use : (this : Placement) (asked : Addressing)
    → (with_uses this asked).literals ≡ fold with_use this.literals (uses_by asked)
uses_use this addressing.Nothing = refl
uses_use this (addressing.Addresses of) =
    operand_use (with_operand this of.a) of.b
    ∙ ap (λ (used : List LiteralKey). fold with_use used (literal_in of.b)) (operand_use this of.a)
    ∙ sym (uses_append this.literals (literal_in of.a) (literal_in of.b))
uses_use this (addressing.EarlierValue of) = refl
uses_use this (addressing.Equal of) = refl
uses_use this (addressing.Value of) = refl
uses_use this (addressing.Entry of) = refl

body_use : (this : Placement) (body : Body)
    → (beyond_body this body).literals ≡ fold with_use this.literals (uses_in body)
body_use this body =
    let row = describe body in
    let on = next_moved this row row.next in
    uses_use (with_areas on this.next row.areas) row.addressing
    ∙ ap (λ (used : List LiteralKey). fold with_use used (uses_by row.addressing))
    (areas_literals on this.next row.areas ∙ next_moved_literals this row row.next)

line_use : (this : Placement) (line : Line)
    → (placed_after this line).literals ≡ fold with_use this.literals (uses_with line.statement)
line_use this line = by line.statement
  where
    by : (statement : Option Statement)
        → (placed_after this (record { bytes = line.bytes; statement = statement })).literals
        ≡ fold with_use this.literals (uses_with statement)
    by None = refl
    by (Some statement) =
        label_literals (beyond_body this statement.body) (well_formed statement.label) (label_value this statement.body)
        ∙ body_use this statement.body

lines_use : (this : Placement) (lines : List Line)
    → (fold placed_after this lines).literals ≡ fold with_use this.literals (uses lines)
lines_use this [] = refl
lines_use this (line ∷ lines) =
    lines_use (placed_after this line) lines
    ∙ ap (λ (used : List LiteralKey). fold with_use used (uses lines)) (line_use this line)
    ∙ sym (uses_append this.literals (uses_with line.statement) (uses lines))

-- the spellings are those of the literals
abbrev IsSpelled : Placement → Type 0
IsSpelled this = map key_of this.spellings ≡ this.literals

literal_spelled : (this : Placement) (literal : Literal) → IsSpelled this → IsSpelled (with_literal this literal)
literal_spelled this literal so_far = by (list_any (same_key (key_of literal)) this.literals)
  where
    by : (b : Bool)
        → IsSpelled (if b then this
        else record this {
          literals = this.literals ++ key_of literal ∷ [];
          spellings =
              this.spellings ++ literal ∷ [];
        })
    by true = so_far
    by false =
        map-append key_of this.spellings (literal ∷ [])
        ∙ ap (λ (used : List LiteralKey). used ++ key_of literal ∷ []) so_far

operand_spelled : (this : Placement) (field : OperandField) → IsSpelled this → IsSpelled (with_operand this field)
operand_spelled this fields.Absent so_far = so_far
operand_spelled this fields.Malformed so_far = so_far
operand_spelled this (fields.Operand (operands.Address address)) so_far = so_far
operand_spelled this (fields.Operand (operands.Literal literal)) so_far = literal_spelled this literal so_far
operand_spelled this (fields.Operand (operands.Unit unit)) so_far = so_far

areas_spelled : (this : Placement) (first : ℤ) (role : AreaRole) → IsSpelled this
    → IsSpelled (with_areas this first role)
areas_spelled this first areas.Ends so_far = so_far
areas_spelled this first areas.Keeps so_far = so_far
areas_spelled this first (areas.Makes made) so_far = so_far
areas_spelled this first (areas.Divides span) so_far = so_far

next_moved_spelled : (this : Placement) (row : Description) (step : Next) → IsSpelled this
    → IsSpelled (next_moved this row step)
next_moved_spelled this row next.Beyond so_far = so_far
next_moved_spelled this row next.Literals so_far = so_far
next_moved_spelled this row next.Value so_far = so_far
next_moved_spelled this row next.LiteralsAtValue so_far = so_far
next_moved_spelled this row next.Elsewhere so_far = so_far

uses_spelled : (this : Placement) (asked : Addressing) → IsSpelled this → IsSpelled (with_uses this asked)
uses_spelled this addressing.Nothing so_far = so_far
uses_spelled this (addressing.Addresses of) so_far =
    operand_spelled (with_operand this of.a) of.b (operand_spelled this of.a so_far)
uses_spelled this (addressing.EarlierValue of) so_far = so_far
uses_spelled this (addressing.Equal of) so_far = so_far
uses_spelled this (addressing.Value of) so_far = so_far
uses_spelled this (addressing.Entry of) so_far = so_far

body_spelled : (this : Placement) (body : Body) → IsSpelled this → IsSpelled (beyond_body this body)
body_spelled this body so_far =
    let row = describe body in
    let on = next_moved this row row.next in
    uses_spelled (with_areas on this.next row.areas) row.addressing
    (areas_spelled on this.next row.areas (next_moved_spelled this row row.next so_far))

line_spelled : (this : Placement) (line : Line) → IsSpelled this → IsSpelled (placed_after this line)
line_spelled this line so_far = by line.statement
  where
    by : (statement : Option Statement)
        → IsSpelled (placed_after this (record { bytes = line.bytes; statement = statement }))
    by None = so_far
    by (Some statement) =
        let beyond = beyond_body this statement.body in
        let label = well_formed statement.label in
        let value = label_value this statement.body in
        ap (map key_of) (label_spellings beyond label value) ∙ body_spelled this statement.body so_far
        ∙ sym (label_literals beyond label value)

lines_spelled : (this : Placement) (lines : List Line) → IsSpelled this → IsSpelled (fold placed_after this lines)
lines_spelled this [] so_far = so_far
lines_spelled this (line ∷ lines) so_far =
    lines_spelled (placed_after this line) lines (line_spelled this line so_far)

pub placed_in_turn : (lines : List Line) → IsPlacedInTurn lines
placed_in_turn lines =
    let first = nothing_placed (chains_of (sites_of lines) lines) in
    record {
      since = λ before since rest is none.
          ap (λ (places : Placement). places.next) (fold_append first before since)
          ∙ lines_next (placed_among lines before) since none;
      origin = λ before line rest of is origin.
          ap (λ (places : Placement). places.next) (fold_append first before (line ∷ []))
          ∙ origin_next (placed_among lines before) line of origin;
      literals = lines_use first lines;
      spelled = lines_spelled first lines refl;
      standing = λ before line rest k literal is places there.
          stands_beyond (placed_among lines before) (placed lines) line rest (uses lines) k literal
          (ap (fold placed_after first) is ∙ fold_append first before (line ∷ rest))
          (lines_use first lines) places there;
    }

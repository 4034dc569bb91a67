-- What is said of the whole above what each line places: next places and literals (Autocoder, "Assembler Control",
-- "Literals").
use Rattle.std.specs.Prelude.{◌≡◌, ℕ, ◌+◌, Bool, true, false, if◌then◌else◌, List, [], ◌∷◌, ◌++◌, map, fold, take}
use Rattle.std.specs.Prelude.{slice_get, pos, negsuc, ◌+ℤ◌, Option, Some, None}
use Rattle.std.specs.List.{list_any, flat_map}
use Rattle.autocoder_statements.specs.Description.{describe, operands_in}
use Rattle.autocoder_statements.specs.declared.operands.Operand.TheVariants as operands
use Rattle.autocoder_statements.specs.declared.operands.OperandField.{OperandField}
use Rattle.autocoder_statements.specs.declared.operands.OperandField.TheVariants as fields
use Rattle.autocoder_statements.specs.declared.operands.Operands.{Operands}
use Rattle.autocoder_statements.specs.declared.description.Addressing.{Addressing}
use Rattle.autocoder_statements.specs.declared.description.Addressing.TheVariants as addressing
use Rattle.autocoder_statements.specs.declared.description.Description.{Description}
use Rattle.autocoder_statements.specs.declared.description.Next.{Next}
use Rattle.autocoder_statements.specs.declared.description.Next.TheVariants as next
use Rattle.autocoder_statements.specs.declared.statement.Body.{Body}
use Rattle.autocoder_statements.specs.declared.statement.Statement.{Statement}
use Rattle.autocoder_statements.specs.declared.statement.Line.{Line}
use Rattle.autocoder_placing.specs.Cells.{literal_value}
use Rattle.autocoder_placing.specs.Literals.{key_of, same_key, key_length}
use Rattle.autocoder_placing.specs.Placement.{Placement, pending, contents_length, origin_value, start_of}
use Rattle.autocoder_placing.specs.Placement.{placed_after, placed, placed_among}
use Rattle.autocoder_placing.specs.declared.literals.LiteralKey.{LiteralKey}

-- how many places literals take
abbrev pub total : List LiteralKey → ℕ
total [] = 0
total (literal ∷ literals) = key_length literal + total literals

-- how many places from the next one on a body takes: EX, END and LTORG those of the literals that they place
abbrev pub row_length : Placement → Description → Next → ℕ
row_length this row next.Beyond = contents_length row.contents
row_length this row next.Literals = total (pending this)
row_length this row next.Value = 0
row_length this row next.LiteralsAtValue = total (pending this)
row_length this row next.Elsewhere = 0

abbrev pub body_length : Placement → Body → ℕ
body_length this body = row_length this (describe body) (describe body).next

abbrev pub length_with : Placement → Option Statement → ℕ
length_with this None = 0
length_with this (Some statement) = body_length this statement.body

-- how many places lines take, one after the other
abbrev pub lengths_from : Placement → List Line → ℕ
lengths_from this [] = 0
lengths_from this (line ∷ lines) = length_with this line.statement + lengths_from (placed_after this line) lines

-- the operand of an origin
abbrev pub origin_by : Next → Addressing → Option Operands
origin_by next.Beyond asked = None
origin_by next.Literals asked = None
origin_by next.Value asked = Some (operands_in asked)
origin_by next.LiteralsAtValue asked = Some (operands_in asked)
origin_by next.Elsewhere asked = None

abbrev pub origin_in : Body → Option Operands
origin_in body = origin_by (describe body).next (describe body).addressing

abbrev pub origin_with : Option Statement → Option Operands
origin_with None = None
origin_with (Some statement) = origin_in statement.body

-- none of these lines is an origin
abbrev pub AreNoOrigins : List Line → Type 0
AreNoOrigins [] = Unit {0}
AreNoOrigins (line ∷ lines) = (origin_with line.statement ≡ None) × AreNoOrigins lines

-- EX, END and LTORG place literals
abbrev pub places_by : Next → Bool
places_by next.Beyond = false
places_by next.Literals = true
places_by next.Value = false
places_by next.LiteralsAtValue = true
places_by next.Elsewhere = false

abbrev pub places_in : Body → Bool
places_in body = places_by (describe body).next

abbrev pub places_with : Option Statement → Bool
places_with None = false
places_with (Some statement) = places_in statement.body

-- the literal that an operand is
abbrev pub literal_in : OperandField → List LiteralKey
literal_in fields.Absent = []
literal_in fields.Malformed = []
literal_in (fields.Operand (operands.Address address)) = []
literal_in (fields.Operand (operands.Literal literal)) = key_of literal ∷ []
literal_in (fields.Operand (operands.Unit unit)) = []

-- the literals that a body uses
abbrev pub uses_by : Addressing → List LiteralKey
uses_by addressing.Nothing = []
uses_by (addressing.Addresses of) = literal_in of.a ++ literal_in of.b
uses_by (addressing.EarlierValue of) = []
uses_by (addressing.Equal of) = []
uses_by (addressing.Value of) = []
uses_by (addressing.Entry of) = []

abbrev pub uses_in : Body → List LiteralKey
uses_in body = uses_by (describe body).addressing

abbrev pub uses_with : Option Statement → List LiteralKey
uses_with None = []
uses_with (Some statement) = uses_in statement.body

-- the literals that lines use, in their order, each as often as it is used
abbrev pub uses : List Line → List LiteralKey
uses lines = flat_map (λ (line : Line). uses_with line.statement) lines

-- a literal after those that were used before it, unless it is one of them
abbrev pub with_use : List LiteralKey → LiteralKey → List LiteralKey
with_use used literal = if list_any (same_key literal) used then used else used ++ literal ∷ []

-- how lines are placed, whatever is before and after them
pub record IsPlacedInTurn (lines : List Line) : Type 0 where
  -- After lines without an origin the next place is the one before them and their lengths.
  pub since : (before since rest : List Line) → lines ≡ before ++ since ++ rest → AreNoOrigins since
      → (placed_among lines (before ++ since)).next
      ≡ (placed_among lines before).next +ℤ pos (lengths_from (placed_among lines before) since)
  -- After an origin it is the value of its operand, in which an asterisk is the place before it, or without one the place
  -- after the highest that was taken; and the length of the literals that it places.
  pub origin : (before : List Line) (line : Line) (rest : List Line) (of : Operands) → lines ≡ before ++ line ∷ rest
      → origin_with line.statement ≡ Some of
      → (placed_among lines (before ++ line ∷ [])).next
      ≡ origin_value (placed_among lines before) (placed_among lines before) next.Value of.a
      +ℤ pos (length_with (placed_among lines before) line.statement)
  -- The literals are those that are used, each once, in the order of their first use,
  pub literals : (placed lines).literals ≡ fold with_use [] (uses lines)
  -- and each is kept as it was written there.
  pub spelled : map key_of (placed lines).spellings ≡ (placed lines).literals
  -- EX, END and LTORG place the literals that are used and not placed, in this order, one after the other, from the
  -- next place on, and those of LTORG from its value on: the units place of each, which operands name, is as far on as
  -- it and those in front of it are long.
  pub standing : (before : List Line) (line : Line) (rest : List Line) (k : ℕ) (literal : LiteralKey)
      → lines ≡ before ++ line ∷ rest → places_with line.statement ≡ true
      → slice_get (pending (placed_among lines before)) k ≡ Some literal
      → literal_value (placed lines) literal
      ≡ start_of (placed_among lines before) line.statement
      +ℤ pos (total (take (k + 1) (pending (placed_among lines before)))) +ℤ negsuc 0

-- The places of the literals that EX or END places.
use Rattle.std.proofs.Common.{◌≡◌, ℕ, zero, suc, ◌+◌, Bool, true, false, List, [], ◌∷◌, ◌++◌, length, take, drop, ℤ}
use Rattle.std.proofs.Common.{pos, negsuc, ◌+ℤ◌, ◌<◌, ◌⊎◌, Option, None, Some, refl, sym, ap, subst, ◌∙◌, arith}
use Rattle.std.proofs.Common.{slice_get, inl, inr}
use Rattle.std.specs.Prelude.{fold, if◌then◌else◌}
use Rattle.std.specs.List.{list_any, position_or_len}
use Rattle.std.proofs.lemmas.Bool.{lt-ltb}
use Rattle.std.proofs.lemmas.Bool.Decides.{nat_tests}
use Rattle.std.proofs.lemmas.List.Folds.{position_or_len_push}
use Rattle.std.proofs.lemmas.Option.{slice_get_within}
use Rattle.std.proofs.Math.IntN.{+ℤ_assoc}
use Rattle.autocoder_statements.specs.Statement.{well_formed}
use Rattle.autocoder_statements.specs.Description.{describe}
use Rattle.autocoder_statements.specs.declared.label.Label.{Label}
use Rattle.autocoder_statements.specs.declared.literal.Literal.{Literal}
use Rattle.autocoder_statements.specs.declared.operands.Operand.TheVariants as operands
use Rattle.autocoder_statements.specs.declared.operands.OperandField.{OperandField}
use Rattle.autocoder_statements.specs.declared.operands.OperandField.TheVariants as fields
use Rattle.autocoder_statements.specs.declared.description.Addressing.{Addressing}
use Rattle.autocoder_statements.specs.declared.description.Addressing.TheVariants as addressing
use Rattle.autocoder_statements.specs.declared.description.AreaRole.{AreaRole}
use Rattle.autocoder_statements.specs.declared.description.AreaRole.TheVariants as areas
use Rattle.autocoder_statements.specs.declared.description.Description.{Description}
use Rattle.autocoder_statements.specs.declared.description.Next.{Next}
use Rattle.autocoder_statements.specs.declared.description.Next.TheVariants as next
use Rattle.autocoder_statements.specs.declared.statement.Body.{Body}
use Rattle.autocoder_statements.specs.declared.statement.Statement.{Statement}
use Rattle.autocoder_statements.specs.declared.statement.Line.{Line}
use Rattle.autocoder_placing.specs.Literals.{key_of, same_key, key_length}
use Rattle.autocoder_placing.specs.Cells.{literal_value}
use Rattle.autocoder_placing.specs.Placement.{Placement, pending, units_from, with_literal, with_operand, with_uses}
use Rattle.autocoder_placing.specs.Placement.{with_areas, own_value, next_moved, start_by, start_of, beyond_body}
use Rattle.autocoder_placing.specs.Placement.{label_value, with_label, placed_after}
use Rattle.autocoder_placing.specs.PlacementLaws.{total, places_by, places_in, places_with, with_use}
use Rattle.autocoder_placing.specs.contracts.literals.LiteralKeyEq.TheImpl.Laws as key_laws
use Rattle.autocoder_placing.specs.declared.literals.LiteralKey.{LiteralKey}
use Rattle.autocoder_placing.specs.declared.symbol_values.SymbolValue.{SymbolValue}
use Rattle.autocoder_placing.proofs.CoreLemmas.{neither}

-- what a list has at a place, it has there with more after it
more_at : {A : Type 0} (xs ys : List A) (i : ℕ) (v : A) → slice_get xs i ≡ Some v → slice_get (xs ++ ys) i ≡ Some v
more_at [] ys i v h = cc
more_at (x ∷ xs) ys zero v h = h
more_at (x ∷ xs) ys (suc i) v h = more_at xs ys i v h

-- a place after a list is one of those put there
append_at : {A : Type 0} (xs ys : List A) (k : ℕ) → slice_get (xs ++ ys) (length xs + k) ≡ slice_get ys k
append_at [] ys k = let none : 0 + k ≡ k = omega arith in ap (slice_get ys) none
append_at (x ∷ xs) ys k =
    let beyond : suc (length xs) + k ≡ suc (length xs + k) = omega arith in
    ap (slice_get (x ∷ (xs ++ ys))) beyond ∙ append_at xs ys k

-- a place of what is left of a list
drop_at : {A : Type 0} (n : ℕ) (xs : List A) (k : ℕ) → slice_get (drop n xs) k ≡ slice_get xs (n + k)
drop_at zero xs k = let none : k ≡ 0 + k = omega arith in ap (slice_get xs) none
drop_at (suc n) [] k = refl
drop_at (suc n) (x ∷ xs) k =
    let beyond : suc (n + k) ≡ suc n + k = omega arith in
    drop_at n xs k ∙ ap (slice_get (x ∷ xs)) beyond

-- each literal stays in its place, and with it its address
record Grown (this after : Placement) : Type 0 where
  literals : (i : ℕ) (v : LiteralKey) → slice_get this.literals i ≡ Some v → slice_get after.literals i ≡ Some v
  addresses : (i : ℕ) (v : ℤ) → slice_get this.addresses i ≡ Some v → slice_get after.addresses i ≡ Some v

grown_on : (this between after : Placement) → Grown this between → Grown between after → Grown this after
grown_on this between after first second = record {
  literals = λ i v h. second.literals i v (first.literals i v h);
  addresses = λ i v h. second.addresses i v (first.addresses i v h);
}

unchanged : (this : Placement) → Grown this this
unchanged this = record { literals = λ i v h. h; addresses = λ i v h. h }

literal_grown : (this : Placement) (literal : Literal) → Grown this (with_literal this literal)
literal_grown this literal = by (list_any (same_key (key_of literal)) this.literals)
  where
    by : (b : Bool)
        → Grown this (if b then this
        else record this {
          literals = this.literals ++ key_of literal ∷ [];
          spellings =
              this.spellings ++ literal ∷ [];
        })
    by true = unchanged this
    by false = record {
      literals = more_at this.literals (key_of literal ∷ []);
      addresses = λ i v h. h;
    }

operand_grown : (this : Placement) (field : OperandField) → Grown this (with_operand this field)
operand_grown this fields.Absent = unchanged this
operand_grown this fields.Malformed = unchanged this
operand_grown this (fields.Operand (operands.Address address)) = unchanged this
operand_grown this (fields.Operand (operands.Literal literal)) = literal_grown this literal
operand_grown this (fields.Operand (operands.Unit unit)) = unchanged this

areas_grown : (this : Placement) (first : ℤ) (role : AreaRole) → Grown this (with_areas this first role)
areas_grown this first areas.Ends = unchanged this
areas_grown this first areas.Keeps = unchanged this
areas_grown this first (areas.Makes made) = record { literals = λ i v h. h; addresses = λ i v h. h }
areas_grown this first (areas.Divides span) = unchanged this

next_moved_grown : (this : Placement) (row : Description) (step : Next) → Grown this (next_moved this row step)
next_moved_grown this row next.Beyond = record { literals = λ i v h. h; addresses = λ i v h. h }
next_moved_grown this row next.Literals = record {
  literals = λ i v h. h;
  addresses = more_at this.addresses (units_from this.next (pending this));
}
next_moved_grown this row next.Value = record { literals = λ i v h. h; addresses = λ i v h. h }
next_moved_grown this row next.LiteralsAtValue = record {
  literals = λ i v h. h;
  addresses = more_at this.addresses (units_from (own_value this row.addressing) (pending this));
}
next_moved_grown this row next.Elsewhere = unchanged this

uses_grown : (this : Placement) (asked : Addressing) → Grown this (with_uses this asked)
uses_grown this addressing.Nothing = unchanged this
uses_grown this (addressing.Addresses of) =
    let first = with_operand this of.a in
    grown_on this first (with_operand first of.b) (operand_grown this of.a) (operand_grown first of.b)
uses_grown this (addressing.EarlierValue of) = unchanged this
uses_grown this (addressing.Equal of) = unchanged this
uses_grown this (addressing.Value of) = unchanged this
uses_grown this (addressing.Entry of) = unchanged this

body_grown : (this : Placement) (body : Body) → Grown this (beyond_body this body)
body_grown this body =
    let row = describe body in
    let on = next_moved this row row.next in
    let made = with_areas on this.next row.areas in
    let whole = grown_on this made (with_uses made row.addressing)
    (grown_on this on made (next_moved_grown this row row.next) (areas_grown on this.next row.areas))
    (uses_grown made row.addressing) in
    record { literals = whole.literals; addresses = whole.addresses }

label_grown : (this : Placement) (label : Option Label) (value : SymbolValue) → Grown this (with_label this label value)
label_grown this None value = unchanged this
label_grown this (Some label) value = record { literals = λ i v h. h; addresses = λ i v h. h }

line_grown : (this : Placement) (line : Line) → Grown this (placed_after this line)
line_grown this line = by line.statement
  where
    by : (statement : Option Statement)
        → Grown this (placed_after this (record { bytes = line.bytes; statement = statement }))
    by None = unchanged this
    by (Some statement) =
        let beyond = beyond_body this statement.body in
        let label = well_formed statement.label in
        let value = label_value this statement.body in
        grown_on this beyond (with_label beyond label value) (body_grown this statement.body)
        (label_grown beyond label value)

lines_grown : (this : Placement) (lines : List Line) → Grown this (fold placed_after this lines)
lines_grown this [] = unchanged this
lines_grown this (line ∷ lines) =
    grown_on this (placed_after this line) (fold placed_after (placed_after this line) lines) (line_grown this line)
    (lines_grown (placed_after this line) lines)

-- literals follow one another
units_at : (from : ℤ) (literals : List LiteralKey) (k : ℕ) (literal : LiteralKey) → slice_get literals k ≡ Some literal
    → slice_get (units_from from literals) k ≡ Some (from +ℤ pos (total (take (suc k) literals)) +ℤ negsuc 0)
units_at from [] k literal h = cc
units_at from (first ∷ literals) zero literal h =
    let alone : key_length first ≡ key_length first + 0 = omega arith in
    ap (λ (n : ℕ). Some (from +ℤ pos n +ℤ negsuc 0)) alone
units_at from (first ∷ literals) (suc k) literal h =
    units_at (from +ℤ pos (key_length first)) literals k literal h
    ∙ ap (λ (n : ℤ). Some (n +ℤ negsuc 0)) (+ℤ_assoc from (pos (key_length first)) (pos (total (take (suc k) literals))))

-- areas and uses leave the addresses
areas_units : (this : Placement) (first : ℤ) (role : AreaRole) → (with_areas this first role).addresses ≡ this.addresses
areas_units this first areas.Ends = refl
areas_units this first areas.Keeps = refl
areas_units this first (areas.Makes made) = refl
areas_units this first (areas.Divides span) = refl

literal_units : (this : Placement) (literal : Literal) → (with_literal this literal).addresses ≡ this.addresses
literal_units this literal = by (list_any (same_key (key_of literal)) this.literals)
  where
    by : (b : Bool)
        → (if b then this else record this {
          literals = this.literals ++ key_of literal ∷ [];
          spellings =
              this.spellings ++ literal ∷ [];
        }).addresses
        ≡ this.addresses
    by true = refl
    by false = refl

operand_units : (this : Placement) (field : OperandField) → (with_operand this field).addresses ≡ this.addresses
operand_units this fields.Absent = refl
operand_units this fields.Malformed = refl
operand_units this (fields.Operand (operands.Address address)) = refl
operand_units this (fields.Operand (operands.Literal literal)) = literal_units this literal
operand_units this (fields.Operand (operands.Unit unit)) = refl

uses_units : (this : Placement) (asked : Addressing) → (with_uses this asked).addresses ≡ this.addresses
uses_units this addressing.Nothing = refl
uses_units this (addressing.Addresses of) = operand_units (with_operand this of.a) of.b ∙ operand_units this of.a
uses_units this (addressing.EarlierValue of) = refl
uses_units this (addressing.Equal of) = refl
uses_units this (addressing.Value of) = refl
uses_units this (addressing.Entry of) = refl

-- EX, END and LTORG place the literals that are used and not placed
line_units : (this : Placement) (line : Line) → places_with line.statement ≡ true
    → (placed_after this line).addresses ≡ this.addresses ++ units_from (start_of this line.statement) (pending this)
line_units this line places = by line.statement places
  where
    next_moved_units : (row : Description) (step : Next) → places_by step ≡ true
        → (next_moved this row step).addresses ≡ this.addresses ++ units_from (start_by this row step) (pending this)
    next_moved_units row next.Beyond h = cc
    next_moved_units row next.Literals h = refl
    next_moved_units row next.Value h = cc
    next_moved_units row next.LiteralsAtValue h = refl
    next_moved_units row next.Elsewhere h = cc

    body : (given : Body) → places_in given ≡ true
        → (beyond_body this given).addresses
        ≡ this.addresses ++ units_from (start_by this (describe given) (describe given).next) (pending this)
    body given h =
        let row = describe given in
        let on = next_moved this row row.next in
        uses_units (with_areas on this.next row.areas) row.addressing ∙ areas_units on this.next row.areas
        ∙ next_moved_units row row.next h

    label_units : (beyond : Placement) (label : Option Label) (value : SymbolValue)
        → (with_label beyond label value).addresses ≡ beyond.addresses
    label_units beyond None value = refl
    label_units beyond (Some label) value = refl

    by : (statement : Option Statement) → places_with statement ≡ true
        → (placed_after this (record { bytes = line.bytes; statement = statement })).addresses
        ≡ this.addresses ++ units_from (start_of this statement) (pending this)
    by None h = cc
    by (Some statement) h =
        label_units (beyond_body this statement.body) (well_formed statement.label) (label_value this statement.body)
        ∙ body statement.body h

-- what is nowhere in a list is first found after it
none_before : {A : Type 0} (p : A → Bool) (xs : List A) → list_any p xs ≡ false → position_or_len p xs ≡ length xs
none_before p [] h = refl
none_before p (x ∷ xs) h =
    let parts = neither (p x) (list_any p xs) h in
    let beyond = none_before p xs parts.1 in
    rw parts.0 (omega (arith, beyond))

-- with one element more, what is found first stays so
still_first : {A : Type 0} (p : A → Bool) (xs : List A) (y : A) (i : ℕ) → i < length xs → position_or_len p xs ≡ i
    → position_or_len p (xs ++ y ∷ []) ≡ i
still_first p xs y i inside is = grind (arith, nat_tests, position_or_len_push p xs y, inside, is)

-- and the new one is found in its place, if none before it is like it
new_first : {A : Type 0} (p : A → Bool) (xs : List A) (y : A) → list_any p xs ≡ false → p y ≡ true
    → position_or_len p (xs ++ y ∷ []) ≡ length xs
new_first p xs y none is = grind (arith, nat_tests, position_or_len_push p xs y, none_before p xs none, is)

-- an element is one of a list, or the one after it
either_place : {A : Type 0} (xs : List A) (y : A) (i : ℕ) (v : A) → slice_get (xs ++ y ∷ []) i ≡ Some v
    → (slice_get xs i ≡ Some v) ⊎ ((i ≡ length xs) × (v ≡ y))
either_place [] y zero v h = inr (refl, cc)
either_place [] y (suc i) v h = cc
either_place (x ∷ xs) y zero v h = inl h
either_place (x ∷ xs) y (suc i) v h =
    elim (either_place xs y i v h) [ inl there ↦ inl there | inr last ↦ inr (ap suc last.0, last.1) ]

-- each literal is found in its place
abbrev IsDistinct : List LiteralKey → Type 0
IsDistinct used = (i : ℕ) (v : LiteralKey) → slice_get used i ≡ Some v → position_or_len (same_key v) used ≡ i

same_as_itself : (literal : LiteralKey) → same_key literal literal ≡ true
same_as_itself literal = key_laws.laws-law.refl literal

use_distinct : (used : List LiteralKey) (literal : LiteralKey) → IsDistinct used → IsDistinct (with_use used literal)
use_distinct used literal distinct = by (list_any (same_key literal) used) refl
  where
    by : (b : Bool) → list_any (same_key literal) used ≡ b
        → IsDistinct (if b then used else used ++ literal ∷ [])
    by true is = distinct
    by false is = λ i v h.
        elim (either_place used literal i v h) [
          | inl there ↦ still_first (same_key v) used literal i (slice_get_within used i v there)
              (distinct i v there)
          | inr last ↦ subst (λ (c : LiteralKey). position_or_len (same_key c) (used ++ literal ∷ []) ≡ i)
              (sym last.1)
              (new_first (same_key literal) used literal is (same_as_itself literal) ∙ sym last.0)
        ]

uses_distinct : (used more : List LiteralKey) → IsDistinct used → IsDistinct (fold with_use used more)
uses_distinct used [] distinct = distinct
uses_distinct used (literal ∷ more) distinct =
    uses_distinct (with_use used literal) more (use_distinct used literal distinct)

-- the value of a literal is the address in its place
value_at : (all : Placement) (i : ℕ) (literal : LiteralKey) (units : ℤ) → IsDistinct all.literals
    → slice_get all.literals i ≡ Some literal → slice_get all.addresses i ≡ Some units
    → literal_value all literal ≡ units
value_at all i literal units distinct there is =
    let inside = slice_get_within all.literals i literal there in
    rw (distinct i literal there, lt-ltb i (length all.literals) inside, is) refl

-- a literal that a line places follows those that it places before it, whatever lines follow
pub stands_beyond : (this all : Placement) (line : Line) (rest : List Line) (more : List LiteralKey) (k : ℕ)
    (literal : LiteralKey)
    → all ≡ fold placed_after (placed_after this line) rest → all.literals ≡ fold with_use [] more
    → places_with line.statement ≡ true → slice_get (pending this) k ≡ Some literal
    → literal_value all literal
    ≡ start_of this line.statement +ℤ pos (total (take (k + 1) (pending this))) +ℤ negsuc 0
stands_beyond this all line rest more k literal is used places there =
    let after = placed_after this line in
    let i = length this.addresses + k in
    let from = start_of this line.statement in
    let value = from +ℤ pos (total (take (k + 1) (pending this))) +ℤ negsuc 0 in
    let later : Grown after all = subst (Grown after) (sym is) (lines_grown after rest) in
    let one_more : suc k ≡ k + 1 = omega arith in
    let units : slice_get after.addresses i ≡ Some value =
    ap (λ (all : List ℤ). slice_get all i) (line_units this line places)
    ∙ append_at this.addresses (units_from from (pending this)) k
    ∙ units_at from (pending this) k literal there
    ∙ ap (λ (n : ℕ). Some (from +ℤ pos (total (take n (pending this))) +ℤ negsuc 0)) one_more in
    let distinct : IsDistinct all.literals =
    subst IsDistinct (sym used) (uses_distinct [] more (λ i v h. cc)) in
    value_at all i literal value distinct
    (later.literals i literal
    ((line_grown this line).literals i literal (sym (drop_at (length this.addresses) this.literals k) ∙ there)))
    (later.addresses i value units)

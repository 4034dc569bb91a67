-- The literals that are used, whether they are held in a table of their own or are the first of another's (own).
use Rattle.std.specs.Prelude.{Bool, if◌then◌else◌, List, [], ◌∷◌, ◌++◌, drop, length, map, position, slice_get, take}
use Rattle.std.specs.Prelude.{ℤ, Option, None, Some}
use Rattle.std.specs.List.{list_any}
use Rattle.std.specs.Option.{option_and_then}
use Rattle.autocoder_statements.specs.declared.literal.Literal.{Literal}
use Rattle.autocoder_placing.specs.Literals.{key_of, same_key}
use Rattle.autocoder_placing.specs.Placement.{units_from}
use Rattle.autocoder_placing.specs.declared.literal_table.LiteralTable.{LiteralTable}
use Rattle.autocoder_placing.specs.declared.literal_table.TableFront.{TableFront}
use Rattle.autocoder_placing.specs.declared.literals.LiteralKey.{LiteralKey}

-- literals in order of first use, with what each was first written as, and the units places of the first of them
pub record Used : Type 0 where
  pub spellings : List Literal
  pub addresses : List ℤ

abbrev pub none_used : Used
none_used = record { spellings = []; addresses = [] }

-- all of a table
abbrev pub table_used : LiteralTable → Used
table_used table = record { spellings = table.literals.keys; addresses = table.addresses.items }

-- the first of a table
abbrev pub front_used : TableFront → Used
front_used front =
    record {
      spellings = take front.used front.table.now.literals.keys;
      addresses = take front.placed front.table.now.addresses.items;
    }

-- those of a front, or else of a table
abbrev pub used_in : Option TableFront → LiteralTable → Used
used_in None own = table_used own
used_in (Some front) own = front_used front

-- whether a literal is one with another
abbrev pub is_one : Literal → Literal → Bool
is_one literal other = same_key (key_of literal) (key_of other)

-- a literal that is used: a new one goes last
abbrev pub with_use : Used → Literal → Used
with_use used literal =
    if list_any (is_one literal) used.spellings then used
    else record used { spellings = used.spellings ++ literal ∷ [] }

-- one more is placed
abbrev pub with_units : Used → ℤ → Used
with_units used units = record used { addresses = used.addresses ++ units ∷ [] }

-- the units place of a literal that is placed
abbrev pub units_of : Used → Literal → Option ℤ
units_of used literal =
    option_and_then (λ i. slice_get used.addresses i) (position (is_one literal) used.spellings)

-- the literals that are used and not placed
abbrev pub pending_of : Used → List LiteralKey
pending_of used = drop (length used.addresses) (map key_of used.spellings)

-- they are placed from a place on
abbrev pub all_placed : Used → ℤ → Used
all_placed used from = record used { addresses = used.addresses ++ units_from from (pending_of used) }

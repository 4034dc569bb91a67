-- Literals that are used, by what makes them one.
use Rattle.std.proofs.Common.{◌≡◌, Bool, true, false, map, slice_get, unwrap_or, pos, refl, ap}
use Rattle.std.specs.Option.{option_and_then}
use Rattle.std.specs.List.{list_any}
use Rattle.std.proofs.lemmas.List.{map-append}
use Rattle.autocoder_statements.specs.declared.literal.Literal.{Literal}
use Rattle.autocoder_placing.specs.Cells.{literal_value}
use Rattle.autocoder_placing.specs.Literals.{key_of, same_key}
use Rattle.autocoder_placing.specs.Placement.{with_literal}
use Rattle.autocoder_placing.specs.UsedLiterals.{Used, is_one, units_of, with_use}
use Rattle.autocoder_placing.specs.View.{places_of}
use Rattle.autocoder_placing.specs.declared.placing.Placing.{Placing}
use Rattle.autocoder_placing.proofs.FrontLemmas.{any_mapped, position_mapped}

-- the uses of literals are those of what makes them one
pub literal_noted : (before : Placing) (literals : Used) (literal : Literal)
    → literals ≡ with_use before.literals literal
    → places_of (record before { literals = literals }) ≡ with_literal (places_of before) literal
literal_noted before literals literal is = by (list_any (is_one literal) before.literals.spellings) refl
  where
    same : list_any (same_key (key_of literal)) (map key_of before.literals.spellings)
        ≡ list_any (is_one literal) before.literals.spellings
    same = any_mapped key_of (same_key (key_of literal)) before.literals.spellings

    by : (b : Bool) → list_any (is_one literal) before.literals.spellings ≡ b
        → places_of (record before { literals = literals }) ≡ with_literal (places_of before) literal
    by true e = rw (is, same, e) refl
    by false e = rw (is, same, e, map-append) refl

-- the units place of a literal is found by what makes it one
pub value_placed : (all : Placing) (literal : Literal)
    → literal_value (places_of all) (key_of literal) ≡ unwrap_or (units_of all.literals literal) (pos 0)
value_placed all literal =
    ap (λ found. unwrap_or (option_and_then (λ i. slice_get all.literals.addresses i) found) (pos 0))
    (position_mapped key_of (same_key (key_of literal)) all.literals.spellings)

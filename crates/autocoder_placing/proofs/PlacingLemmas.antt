-- One literal more; a statement passed.
use Rattle.std.proofs.Common.{◌≡◌, List, [], ◌∷◌, ◌++◌, ℤ, negsuc, ◌+ℤ◌, Option}
use Rattle.std.proofs.Common.{refl, sym, ap, ◌∙◌}
use Rattle.std.proofs.lemmas.List.{append_assoc}
use Rattle.autocoder_statements.specs.declared.description.Description.{Description}
use Rattle.autocoder_placing.specs.Placement.{Placement, units_from, gone_on, with_ends, first_of_two, end_of_two}
use Rattle.autocoder_placing.specs.Placement.{beyond_literal, beyond_row}
use Rattle.autocoder_placing.specs.declared.literals.LiteralKey.{LiteralKey}

-- with the units place of one literal more, what is placed and what is left to place are all units places
pub one_more_placed : (from : ℤ) (keys rest : List LiteralKey) (key : LiteralKey) (so_far put whole : List ℤ)
    (units given : ℤ) → keys ≡ key ∷ rest → so_far ++ units_from from keys ≡ whole → put ≡ so_far ++ units ∷ []
    → units ≡ beyond_literal from key +ℤ negsuc 0 → given ≡ beyond_literal from key
    → put ++ units_from given rest ≡ whole
one_more_placed from keys rest key so_far put whole units given first left one last same =
    let next : units_from from keys ≡ units ∷ units_from given rest = rw (first, last, same) refl in
    ap (λ places. places ++ units_from given rest) one
    ∙ append_assoc so_far (units ∷ []) (units_from given rest)
    ∙ ap (λ places. so_far ++ places) (sym next) ∙ left

-- what is placed after a statement, of which the first instruction and the place before END are noted last
pub passed : (before on after : Placement) (row : Description) (first : Option ℤ) (before_end : ℤ)
    → on ≡ gone_on before row → after ≡ with_ends on first before_end
    → first ≡ first_of_two before.first_instruction before.next row.contents
    → before_end ≡ end_of_two before.before_end before.next row.addressing → after ≡ beyond_row before row
passed before on after row first before_end gone noted is_first is_end =
    let found = first_of_two before.first_instruction before.next row.contents in
    noted ∙ ap (λ (this : Placement). with_ends this first before_end) gone
    ∙ ap (λ (given : Option ℤ). with_ends (gone_on before row) given before_end) is_first
    ∙ ap (λ (given : ℤ). with_ends (gone_on before row) found given) is_end

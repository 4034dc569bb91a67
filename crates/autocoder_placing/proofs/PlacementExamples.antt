-- The place after the highest that is taken, and the names of units, computed.
use Rattle.std.proofs.Common.{◌≡◌, ℕ, ℤ, pos, negsuc, [], ◌∷◌, Option, None, Some, refl}
use Rattle.std.specs.Prelude.{codes}
use Rattle.autocoder_statements.specs.declared.address.Address.{Address}
use Rattle.autocoder_statements.specs.declared.address.Base.TheVariants as bases
use Rattle.autocoder_statements.specs.declared.label.Label.{Label}
use Rattle.autocoder_statements.specs.declared.operands.Unit.{Unit as AUnit}
use Rattle.autocoder_placing.specs.Placement.{SymbolValues, address_unit, highest_with, unit_or_value}

-- a first place after nothing, places above the highest, places below it, and no place
places_that_are_taken : highest_with None (pos 500) (pos 504) ∷ highest_with (Some (pos 504)) (pos 504) (pos 514)
    ∷ highest_with (Some (pos 514)) (pos 504) (pos 511) ∷ highest_with (Some (pos 514)) (pos 600) (pos 600)
    ∷ highest_with None (pos 333) (pos 333) ∷ highest_with None (negsuc 4) (pos 0) ∷ []
    ≡ Some (pos 504) ∷ Some (pos 514) ∷ Some (pos 514) ∷ Some (pos 514) ∷ None ∷ Some (pos 0) ∷ []
places_that_are_taken = refl

abbrev the_unit : AUnit
the_unit = record { graphics = codes "%U1" }

abbrev tape : Label
tape = record { text = codes "TAPE  " }

-- each symbol names this unit
abbrev symbols : SymbolValues
symbols label = unit_or_value (Some the_unit) (pos 400) 2

abbrev at_tape : ℤ → Option ℕ → Address
at_tape adjustment index = record { base = bases.Symbol tape; adjustment = adjustment; index = index }

a_symbol_alone_names_a_unit : address_unit symbols (at_tape (pos 0) None) ∷ address_unit symbols (at_tape (pos 1) None)
    ∷ address_unit symbols (at_tape (pos 0) (Some 0)) ∷ address_unit symbols (at_tape (negsuc 0) (Some 1))
    ∷ address_unit symbols (record { base = bases.Number 400; adjustment = pos 0; index = None }) ∷ []
    ≡ Some the_unit ∷ None ∷ None ∷ None ∷ None ∷ []
a_symbol_alone_names_a_unit = refl

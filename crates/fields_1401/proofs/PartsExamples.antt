-- Parts of characters moved, computed: `A` is zone 3 and digit 1, code 49; `N` is zone 2 and digit 5, code 37.
use Rattle.std.proofs.Common.{◌≡◌, Ok, Err, [], ◌∷◌, refl}
use Rattle.fields_1401.specs.declared.done.FieldStop.TheVariants.{Address}
use Rattle.fields_1401.specs.Outcome.{registers_of}
use Rattle.fields_1401.specs.Parts.{digit_moved_at, zone_moved_at}
use Rattle.fields_1401.proofs.ExampleCells.{plain, marked}

-- `N` becomes `J`, zone 2 and digit 1
the_zone_stays : digit_moved_at (plain 49 ∷ marked 37 ∷ []) 0 1 ≡ Ok (plain 49 ∷ marked 33 ∷ [], registers_of 15999 0)
the_zone_stays = refl

-- `N` becomes `E`, zone 3 and digit 5
the_digit_stays : zone_moved_at (marked 49 ∷ plain 37 ∷ []) 0 1 ≡ Ok (marked 49 ∷ plain 53 ∷ [], registers_of 15999 0)
the_digit_stays = refl

-- there is no place 2
parts_stay_in_core : digit_moved_at (plain 49 ∷ marked 37 ∷ []) 2 1 ≡ Err Address
parts_stay_in_core = refl

zones_stay_in_core : zone_moved_at (plain 49 ∷ marked 37 ∷ []) 0 2 ≡ Err Address
zones_stay_in_core = refl

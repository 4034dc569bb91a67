-- Instructions that the machine carries out, and some that it never does.
use Rattle.std.proofs.Common.{◌≡◌, Bool, true, false, List, [], ◌∷◌, refl}
use Rattle.std.specs.Prelude.{ℕ, map}
use Rattle.std.specs.Str.{byte}
use Rattle.machine_tables.specs.Operation.{is_fitted}

-- whether the machine carries out an operation's instructions of 1, 2, 4, 5, 7 and 8 characters
fitted : ℕ → List Bool
fitted operation = map (is_fitted operation) (1 ∷ 2 ∷ 4 ∷ 5 ∷ 7 ∷ 8 ∷ [])

a_move_has_no_d_character : fitted (byte "M") ≡ true ∷ false ∷ true ∷ false ∷ true ∷ false ∷ []
unfolding fitted
a_move_has_no_d_character = refl

a_branch_needs_an_address : fitted (byte "B") ≡ false ∷ false ∷ true ∷ true ∷ false ∷ true ∷ []
unfolding fitted
a_branch_needs_an_address = refl

a_halt_has_one_address_at_most : fitted (byte ".") ≡ true ∷ false ∷ true ∷ false ∷ false ∷ false ∷ []
unfolding fitted
a_halt_has_one_address_at_most = refl

a_register_is_stored_at_one_address : fitted (byte "H") ≡ false ∷ false ∷ true ∷ false ∷ false ∷ false ∷ []
unfolding fitted
a_register_is_stored_at_one_address = refl

nothing_multiplies : fitted (byte "@") ≡ false ∷ false ∷ false ∷ false ∷ false ∷ false ∷ []
unfolding fitted
nothing_multiplies = refl

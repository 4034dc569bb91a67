-- How many records there can be.
use Rattle.std.proofs.Common.{◌≡◌, ℕ, ◌≤◌, true, List, [], ◌∷◌, length, arith}
use Rattle.std.proofs.lemmas.Bool.{and_parts, leb-true}
use Rattle.std.proofs.lemmas.List.Sums.{sum_by-cons}
use Rattle.std.specs.List.{list_all}
use Rattle.std.specs.Prelude.{nat_le, nat_lt, ◌&&◌}
use Rattle.machine_tapes.specs.Held.{is_record}
use Rattle.machine_tapes.specs.Reel.{characters_in, most_characters}

-- each has a character at least
pub few_records : (records : List (List ℕ)) → list_all is_record records ≡ true
    → length records ≤ characters_in records
few_records [] all = omega arith
few_records (chars ∷ records) all =
    let parts = and_parts (is_record chars) (list_all is_record records) all in
    let sized = and_parts (nat_le 1 (length chars) && nat_le (length chars) most_characters)
    (list_all (λ char. nat_lt char 64) chars) parts.0 in
    let some = leb-true 1 (length chars)
    (and_parts (nat_le 1 (length chars)) (nat_le (length chars) most_characters) sized.0).0 in
    omega (arith, some, sum_by-cons (λ (each : List ℕ). length each) chars records, few_records records parts.1)

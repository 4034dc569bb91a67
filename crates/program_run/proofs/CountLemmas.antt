-- How many records a reel can have.
use Rattle.std.proofs.Common.{◌≡◌, ℕ, ◌≤◌, true, List, [], ◌∷◌, length, rules, arith}
use Rattle.std.proofs.lemmas.Bool.{and_parts, leb-true}
use Rattle.std.proofs.lemmas.List.Sums.{sum_by-cons}
use Rattle.std.specs.Prelude.{◌&&◌, nat_le, nat_lt}
use Rattle.std.specs.List.{list_all}
use Rattle.machine_tapes.specs.Held.{is_record}
use Rattle.machine_tapes.specs.Reel.{characters_in, most_characters}

-- how many records there are of so many characters
pub fewer_records : (records : List (List ℕ)) → list_all is_record records ≡ true
    → length records ≤ characters_in records
fewer_records [] good = search (rules, arith)
fewer_records (first ∷ records) good =
    let parts = and_parts (is_record first) (list_all is_record records) good in
    let sizes = and_parts (nat_le 1 (length first) && nat_le (length first) most_characters)
    (list_all (λ (char : ℕ). nat_lt char 64) first) parts.0 in
    let size = and_parts (nat_le 1 (length first)) (nat_le (length first) most_characters) sizes.0 in
    let some : 1 ≤ length first = leb-true 1 (length first) size.0 in
    omega (arith, some, fewer_records records parts.1, sum_by-cons length first records)

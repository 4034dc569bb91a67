-- Addresses of three characters, and index registers (A24-1403, "Addressing", "Indexing").
use Rattle.std.specs.Prelude.{ℕ, ◌+◌, ◌*◌, ◌/◌, ◌%◌, ◌==◌, ◌&&◌, nat_le, Bool, List, [], ◌∷◌, if◌then◌else◌}
use Rattle.bcd_1401.specs.Character.{digit_of, digit_under, zone_of}
use Rattle.core_1401.specs.Storage.{Storage, cell_at}

-- how many addresses there are, whatever the size of core storage
abbrev pub addresses : ℕ
addresses = 16000

-- the value of the characters h, t and u, before indexing
abbrev pub value_of : ℕ → ℕ → ℕ → ℕ
value_of h t u = 100 * digit_of h + 10 * digit_of t + digit_of u + 1000 * zone_of h + 4000 * zone_of u

-- whether the low bits are those of a digit 0 to 9, with 8-2 for zero
abbrev pub is_digit : ℕ → Bool
is_digit char = nat_le 1 (char % 16) && nat_le (char % 16) 10

-- the one spelling of an address with the digits 0 to 9 and without an index register
abbrev pub spelling_of : ℕ → List ℕ
spelling_of address =
    digit_under (address / 1000 % 4) (address / 100 % 10) ∷ digit_under 0 (address / 10 % 10) ∷ digit_under
    (address / 4000) (address % 10) ∷ []

-- three characters that spell an address: digits 0 to 9 with 8-2 for zero, and no zone over the tens
abbrev pub is_spelled : ℕ → ℕ → ℕ → Bool
is_spelled h t u = is_digit h && is_digit t && is_digit u && (zone_of t == 0)

-- the value of the three characters from a place on
abbrev pub value_at : Storage → ℕ → ℕ
value_at storage at = value_of (cell_at storage at).char (cell_at storage (at + 1)).char (cell_at storage (at + 2)).char

-- the first place of index register 1, 2 or 3: 087, 092 or 097
abbrev pub index_register : ℕ → ℕ
index_register number = 5 * number + 82

-- an address of this value, with that of an index register added; the number 0 is for none
abbrev pub indexed_by : Storage → ℕ → ℕ → ℕ
indexed_by storage value number =
    if number == 0 then value else (value + value_at storage (index_register number)) % addresses

-- the address that three characters stand for: with a zone over the tens, the index register's value is added
abbrev pub effective_at : Storage → ℕ → ℕ
effective_at storage at =
    let number = zone_of (cell_at storage (at + 1)).char in
    if number == 0 then value_at storage at else (value_at storage at + value_at storage
    (index_register number)) % addresses

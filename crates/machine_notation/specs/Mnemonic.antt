-- The mnemonics of instructions (Autocoder, "Operation").
use Rattle.std.specs.Prelude.{ℕ, ◌==◌, nat_le, Bool, true, false, ◌&&◌, if◌then◌else◌, List, [], ◌∷◌, Option, None}
use Rattle.std.specs.Prelude.{Some}
use Rattle.std.specs.Prelude.{find, codes, unwrap_or}
use Rattle.std.specs.Str.{byte}
use Rattle.machine_tables.specs.Operation.{mnemonic_at}
use Rattle.machine_notation.specs.declared.mnemonic.Mnemonic.{Mnemonic}

-- an operation by its graphic, how many addresses, the graphic of the d-character, and the columns 16 to 20
abbrev pub ARowWithD : Type 0
ARowWithD = ℕ × ℕ × ℕ × List ℕ

-- the mnemonics that say their d-character
unfoldable pub operations_with_d : List ARowWithD
operations_with_d =
    (byte "B", 1, byte "/", codes "BU   ") ∷
    (byte "B", 1, byte "Z", codes "BAV  ") ∷
    (byte "B", 1, byte "A", codes "BLC  ") ∷
    (byte "B", 1, byte "9", codes "BC9  ") ∷
    (byte "B", 1, byte "@", codes "BCV  ") ∷
    (byte "B", 1, byte "S", codes "BE   ") ∷
    (byte "B", 1, byte "T", codes "BL   ") ∷
    (byte "B", 1, byte "U", codes "BH   ") ∷
    (byte "V", 2, byte "1", codes "BW   ") ∷
    (byte "2", 0, byte ")", codes "WM   ") ∷
    (byte "2", 1, byte ")", codes "WM   ") ∷ []

-- the mnemonic of an operation; a character that is none is its own
unfoldable pub columns_of : ℕ → List ℕ
columns_of operation = unwrap_or (mnemonic_at operation) (operation ∷ codes "    ")

-- whether a sense switch has this letter
abbrev pub is_switch : ℕ → Bool
is_switch d = nat_le (byte "B") d && nat_le d (byte "G")

-- the mnemonic of an operation with a d-character after its addresses: a branch by the character at its second address
-- and one by a sense switch have their own
abbrev pub columns_before_d : ℕ → ℕ → ℕ → List ℕ
columns_before_d operation addresses d =
    if (operation == byte "B") && (addresses == 2) then codes "BCE  "
    else if (operation == byte "B") && (addresses == 1) && is_switch d then codes "BSS  "
    else columns_of operation

-- whether a row is of this operation, with this many addresses and this d-character
abbrev pub is_of : ℕ → ℕ → ℕ → ARowWithD → Bool
is_of operation addresses d row = (row.0 == operation) && (row.1 == addresses) && (row.2 == d)

abbrev pub row_or : Option ARowWithD → List ℕ → Mnemonic
row_or None columns = record { columns = columns; says_d = false }
row_or (Some row) columns = record { columns = row.3; says_d = true }

-- the mnemonic of an operation with this number of addresses, and a d-character or none
abbrev pub mnemonic_of : ℕ → ℕ → Option ℕ → Mnemonic
mnemonic_of operation addresses None = record { columns = columns_of operation; says_d = false }
mnemonic_of operation addresses (Some d) =
    row_or (find (is_of operation addresses d) operations_with_d) (columns_before_d operation addresses d)

-- The name of a served room (own).
use Rattle.std.specs.Prelude.{ℕ, ◌%◌, List, codes, get_or, map}

-- the character that a byte picks: a hexadecimal digit
abbrev pub character_of : ℕ → ℕ
character_of byte = get_or (codes "0123456789ABCDEF") (byte % 16) 0

-- each character is picked by a byte of its own
abbrev pub name_of : List ℕ → List ℕ
name_of bytes = map character_of bytes

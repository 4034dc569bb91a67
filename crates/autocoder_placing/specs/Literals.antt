-- What makes two literals one, and how long they are (Autocoder, "Literals", C24-3258 and J24-1434; that an address and
-- a text never are one own).
use Rattle.std.specs.Prelude.{◌≡◌, ℕ, Bool, true}
use Rattle.std.specs.Cmp.{IsEquivalence, IsPartialEquivalence}
use Rattle.std.specs.Hash.{HashWrites}
use Rattle.autocoder_statements.specs.declared.literal.Literal.{Literal}
use Rattle.autocoder_statements.specs.declared.literal.Literal.TheVariants as literals
use Rattle.autocoder_placing.specs.Characters.{characters_of}
use Rattle.autocoder_placing.specs.contracts.literals.LiteralKeyEq.TheImpl.Laws as key_equal
use Rattle.autocoder_placing.specs.contracts.literals.LiteralKeyHash.TheImpl as key_hash
use Rattle.autocoder_placing.specs.contracts.literals.LiteralKeyHash.TheImpl.Laws as key_hashed
use Rattle.autocoder_placing.specs.contracts.literals.LiteralKeyPartialEq.TheImpl as key_eq
use Rattle.autocoder_placing.specs.contracts.literals.LiteralKeyPartialEq.TheImpl.Laws as key_compared
use Rattle.autocoder_placing.specs.declared.literals.LiteralKey.{LiteralKey}
use Rattle.autocoder_placing.specs.declared.literals.LiteralKey.TheVariants as keys

-- what makes literals one: the characters of a constant, however it is written; the sign, the symbol, the adjustment by
-- its value and the index as it is written of an address; the label and the places of an area
abbrev pub key_of : Literal → LiteralKey
key_of (literals.Constant constant) = keys.Characters (characters_of constant)
key_of (literals.Address literal) = keys.Address literal
key_of (literals.Area literal) = keys.Area literal

-- literals are one if all of that is equal
abbrev pub same_key : LiteralKey → LiteralKey → Bool
same_key = (key_eq.ghosts).eq

-- this is an equivalence, and literals that are one are hashed alike
abbrev pub key_partial_laws : IsPartialEquivalence same_key
key_partial_laws = key_compared.laws-law

abbrev pub key_laws : IsEquivalence same_key
key_laws = key_equal.laws-law

abbrev pub key_input : LiteralKey → HashWrites
key_input = (key_hash.ghosts).hash_input

abbrev pub key_respects : (one other : LiteralKey) → same_key one other ≡ true → key_input one ≡ key_input other
key_respects = key_hashed.respects_eq-law

-- how many places a literal takes
abbrev pub key_length : LiteralKey → ℕ
key_length (keys.Characters characters) = characters.len
key_length (keys.Address literal) = 3
key_length (keys.Area literal) = literal.places

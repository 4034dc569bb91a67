-- Core storage while its characters are lent (own).
use Rattle.std.specs.Prelude.{ℕ, List}
use Rattle.std.specs.Borrow.{Fml, MutBor, Array, Lends}
use Rattle.bcd_1401.specs.contracts.character.Char.{the_row as char_row}
use Rattle.core_1401.specs.Places.{with_all_chars}
use Rattle.core_1401.specs.Storage.{Storage}
use Rattle.core_1401.specs.contracts.storage.Core.{the_row}

-- the characters are the last ones written through r, and the word marks stay
abbrev pub LendsChars : MutBor Storage → MutBor (List ℕ) → Fml
LendsChars core r = Lends the_row (Array char_row 0) core r (with_all_chars core.now)

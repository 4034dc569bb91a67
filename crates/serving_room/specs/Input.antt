-- The input by which a served room is closed (own).
use Rattle.std.specs.Prelude.{◌≡◌, ℕ, ◌+◌, nat_lt, nat_le, ◌==◌, Bool, false, ◌&&◌, if◌then◌else◌, List, [], ◌∷◌, ◌++◌}
use Rattle.std.specs.Prelude.{◌⊎◌, All, codes, get_or, Option, Some, None}
use Rattle.std.specs.Io.KnownBytes.{Consumes}
use Rattle.room_alone.specs.Text.{cut_of}

-- QUIT, and the carriage return that may follow it
abbrev pub quit_return : List ℕ
quit_return = codes "QUIT\r"

-- how many of these five bytes a line has after one more, while it is a beginning of them
abbrev pub match_more : Option ℕ → ℕ → Option ℕ
match_more None byte = None
match_more (Some count) byte =
    if nat_lt count 5 && (get_or quit_return count 0 == byte) then Some (count + 1) else None

-- so many of them are QUIT, with the carriage return or without it
abbrev pub has_quit : Option ℕ → Bool
has_quit None = false
has_quit (Some count) = nat_le 4 count

-- a line that closes the room, without its line feed
abbrev pub SaysClose : List ℕ → Type 0
SaysClose line = (line ≡ codes "QUIT") ⊎ (line ≡ codes "QUIT\r")

-- a line that doesn't
abbrev pub IsPassedOver : List ℕ → Type 0
IsPassedOver line = SaysClose line → ⊥

-- What was read ends with a line that closes the room, and no line before it does.
pub record SaysQuit (old new : Option (List ℕ)) : Type 0 where
  pub bytes : List ℕ
  pub read : Consumes old new bytes
  pub front : List (List ℕ)
  pub none : All IsPassedOver front
  pub line : List ℕ
  pub closes : SaysClose line
  pub lines_are : (cut_of bytes).finished ≡ front ++ line ∷ []
  pub ends : (cut_of bytes).rest ≡ []

-- What was read is lines and perhaps a part of one, and no line of it closes the room.
pub record SaysNoQuit (old new : Option (List ℕ)) : Type 0 where
  pub bytes : List ℕ
  pub read : Consumes old new bytes
  pub none : All IsPassedOver (cut_of bytes).finished

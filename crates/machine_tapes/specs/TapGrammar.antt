-- The text of a reel by its grammar, a .tap file of SIMH.
use Rattle.std.specs.Prelude.{◌≡◌, ℕ, ◌%◌, ◌<◌, true, List, [], ◌∷◌, ◌++◌, length}
use Rattle.std.specs.List.{list_all}
use Rattle.machine_tapes.specs.Front.{end_length, flag, is_character}
use Rattle.machine_tapes.specs.Held.{characters_of}
use Rattle.machine_tapes.specs.Reel.{tape_mark}
use Rattle.machine_tapes.specs.TapText.{between_lengths, length_text}

-- bytes of a record, each a character with its parity, and any byte more if they are odd in number
pub record IsBody (bytes odd : List ℕ) : Type 0 where
  pub some : 0 < length bytes
  pub few : length bytes < flag
  pub all : list_all is_character bytes ≡ true
  pub more : length odd ≡ length bytes % 2

-- The text is that of a reel with these records.
pub data IsTapOf : List ℕ → List (List ℕ) → Type 0 where
  -- it ends
  ends : IsTapOf [] []
  -- a length of all ones, and whatever follows
  ends_early : (rest : List ℕ) → IsTapOf (length_text end_length ++ rest) []
  -- a tape mark
  has_mark : (rest : List ℕ) (records : List (List ℕ)) → IsTapOf rest records
      → IsTapOf (length_text 0 ++ rest) (tape_mark ∷ records)
  -- a record between its lengths
  has_record : (bytes odd rest : List ℕ) (records : List (List ℕ)) → IsBody bytes odd → IsTapOf rest records
      → IsTapOf (between_lengths bytes odd ++ rest) (characters_of bytes ∷ records)

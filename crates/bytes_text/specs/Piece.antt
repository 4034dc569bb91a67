-- Texts as data (own).
use Rattle.std.specs.Prelude.{ℕ, ◌-◌, List, [], ◌∷◌, ◌++◌, length, replicate}
use Rattle.machine_notation.specs.Cells.{cell_text}
use Rattle.machine_notation.specs.Characters.{graphics_of, trimmed}
use Rattle.machine_notation.specs.Digits.{digits_in}
use Rattle.bytes_text.specs.declared.piece.Piece.{Piece}
use Rattle.bytes_text.specs.declared.piece.Piece.TheVariants.{Text, Padded, Byte, Number, Small, Count, Cell, Characters}

-- a text with blanks after it, up to a width
abbrev pub padded : ℕ → List ℕ → List ℕ
padded width text = text ++ replicate (width - length text) 32

-- the bytes of a piece
abbrev pub piece_text : Piece → List ℕ
piece_text (Text bytes) = bytes.now
piece_text (Padded width bytes) = padded width bytes.now
piece_text (Byte byte) = byte ∷ []
piece_text (Number width number) = digits_in width number
piece_text (Small number) = digits_in 1 number
piece_text (Count number) = digits_in 1 number
piece_text (Cell cell) = cell_text cell
piece_text (Characters chars) = graphics_of (trimmed chars.now)

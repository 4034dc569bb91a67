-- Characters to write by their graphics.
use Rattle.std.proofs.Common.{ℕ, ◌==◌, List, map}
use Rattle.std.specs.List.{position_or_len}
use Rattle.bcd_1401.specs.Graphic.{graphics}

-- the codes of these graphics
unfoldable pub chars_of_graphics : List ℕ → List ℕ
chars_of_graphics text = map (λ graphic. position_or_len (λ each. each == graphic) graphics) text

-- The pieces so far, with those that are left, are all of them.
use Rattle.std.proofs.Common.{◌≡◌, ◌++◌, drop}
use Rattle.std.specs.List.{flat_map}
use Rattle.bytes_text.specs.Piece.{piece_text}
use Rattle.bytes_text.proofs.piece.put_pieces.Given as goal

abbrev pub invariant-loop-piece : goal.invariant-loop-piece
invariant-loop-piece l =
    l.text.items ++ flat_map piece_text (drop l.piece-index l.pieces)
    ≡ l.initial.text.items ++ flat_map piece_text l.pieces

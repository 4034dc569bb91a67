-- The characters so far have their columns.
use Rattle.std.proofs.Common.{◌≡◌, ℕ, ◌<◌, length, get_or}
use Rattle.bcd_1401.specs.CardCode.{column_of}
use Rattle.devices_1401.proofs.card.Card.from_columns.Given as goal

abbrev pub invariant-loop-i : goal.invariant-loop-i
invariant-loop-i l =
    record {
      len : length l.chars ≡ 80;
      read : (k : ℕ) → k < l.i → column_of (get_or l.chars k 0)
          ≡ get_or l.columns k 0;
    }

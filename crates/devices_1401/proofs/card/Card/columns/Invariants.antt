-- The columns so far are those of their characters.
use Rattle.std.proofs.Common.{◌≡◌, ℕ, ◌<◌, length, get_or}
use Rattle.bcd_1401.specs.CardCode.{column_of}
use Rattle.devices_1401.proofs.card.Card.columns.Given as goal

abbrev pub invariant-loop-i : goal.invariant-loop-i
invariant-loop-i l =
    record {
      len : length l.columns ≡ 80;
      read : (k : ℕ) → k < l.i → get_or l.columns k 0
          ≡ column_of (get_or l.self.0 k 0);
    }

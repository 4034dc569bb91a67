-- The characters so far are those of the area.
use Rattle.std.proofs.Common.{◌≡◌, ℕ, ◌+◌, ◌<◌, length, get_or}
use Rattle.core_1401.specs.Storage.{cell_at}
use Rattle.cpu_1401.proofs.areas.card_at.Given as goal

abbrev pub invariant-loop-i : goal.invariant-loop-i
invariant-loop-i l =
    record {
      len : length l.columns ≡ 80;
      read : (k : ℕ) → k < l.i → get_or l.columns k 0
          ≡ (cell_at l.core (l.area + k)).char;
    }

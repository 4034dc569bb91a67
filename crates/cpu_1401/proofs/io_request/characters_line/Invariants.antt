-- The characters so far are those of the print area.
use Rattle.std.proofs.Common.{◌≡◌, ℕ, ◌+◌, ◌<◌, length, get_or}
use Rattle.core_1401.specs.Storage.{cell_at}
use Rattle.cpu_1401.proofs.io_request.characters_line.Given as goal

abbrev pub invariant-loop-i : goal.invariant-loop-i
invariant-loop-i l =
    record { len : length l.line ≡ 132; read : (k : ℕ) → k < l.i → get_or l.line k 0 ≡ (cell_at l.core (201 + k)).char }

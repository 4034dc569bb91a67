-- What the lines that are left have is what all have.
use Rattle.std.proofs.Common.{◌≡◌, drop}
use Rattle.std.specs.List.{list_any}
use Rattle.std.specs.Str.{byte}
use Rattle.autocoder_diagnostics.specs.Notes.{has_operation}
use Rattle.autocoder_warnings.proofs.fitted_notes.divide.Given as goal

abbrev pub invariant-loop-i : goal.invariant-loop-i
invariant-loop-i l =
    list_any (has_operation (byte "%")) (drop l.i l.lines) ≡ list_any (has_operation (byte "%")) l.lines

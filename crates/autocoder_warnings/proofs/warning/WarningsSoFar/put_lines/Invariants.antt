-- The warnings so far, with those of the lines that are left, are those of all lines.
use Rattle.std.proofs.Common.{◌≡◌, ◌+◌, ◌++◌, drop, length, map}
use Rattle.autocoder_diagnostics.specs.Noted.{known_of}
use Rattle.autocoder_placing.specs.Filling.{addresses_from, filled_from}
use Rattle.autocoder_placing.specs.View.{places_of}
use Rattle.autocoder_statements.specs.SourceLine.{lines_of}
use Rattle.autocoder_warnings.specs.Loss.{loss_of}
use Rattle.autocoder_warnings.specs.Overlap.{overlaps_from}
use Rattle.autocoder_warnings.specs.Warnings.{warnings_from}
use Rattle.autocoder_warnings.proofs.warning.WarningsSoFar.put_lines.Given as goal

abbrev pub invariant-loop-i : goal.invariant-loop-i
invariant-loop-i l = record {
  warned : l.self.warnings.items
      ++ warnings_from l.this.features (known_of l.this.notes) l.this.storage.items (l.i + 1)
      (addresses_from (places_of l.self.so_far) (drop l.i l.lines))
      (overlaps_from l.lines l.self.fillers.items l.i
      (filled_from (places_of l.this.all.now) (places_of l.self.so_far) (drop l.i l.lines)))
      (map loss_of (lines_of l.sources)) (drop l.i l.lines)
      ≡ l.initial.self.warnings.items
      ++ warnings_from l.this.features (known_of l.this.notes) l.this.storage.items 1
      (addresses_from (places_of l.initial.self.so_far) l.lines)
      (overlaps_from l.lines l.initial.self.fillers.items 0
      (filled_from (places_of l.this.all.now) (places_of l.initial.self.so_far) l.lines))
      (map loss_of (lines_of l.source)) l.lines;
  left : length (drop l.i l.lines) ≡ length (lines_of l.sources);
}

-- The labels so far, with those in the lines that are left, are those there were and those in all lines.
use Rattle.std.proofs.Common.{◌≡◌, drop}
use Rattle.std.specs.Prelude.{◌||◌}
use Rattle.std.specs.List.{list_any}
use Rattle.indexmap.specs.IndexSet.{contains}
use Rattle.autocoder_statements.specs.declared.label.Label.{Label}
use Rattle.autocoder_symbols.specs.Symbols.{same_label}
use Rattle.autocoder_warnings.specs.FittedNotes.{is_stored_in}
use Rattle.autocoder_warnings.proofs.fitted_notes.note_all_stored.Given as goal

abbrev pub invariant-loop-i : goal.invariant-loop-i
invariant-loop-i l =
    (label : Label) → (contains same_label l.labels label || list_any (is_stored_in label) (drop l.i l.lines))
    ≡ (contains same_label l.initial.labels label || list_any (is_stored_in label) l.lines)

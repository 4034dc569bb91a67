-- The labels so far, with those in the lines that are left, are those in all lines.
use Rattle.std.proofs.Common.{◌≡◌, drop}
use Rattle.std.specs.Prelude.{◌||◌}
use Rattle.std.specs.List.{list_any}
use Rattle.indexmap.specs.IndexSet.{contains}
use Rattle.autocoder_statements.specs.declared.label.Label.{Label}
use Rattle.autocoder_symbols.specs.Symbols.{same_label}
use Rattle.autocoder_diagnostics.specs.Notes.{is_named_in, is_number_in, is_signed_in}
use Rattle.autocoder_diagnostics.proofs.notes.note_lines.Given as goal

abbrev pub invariant-loop-i : goal.invariant-loop-i
invariant-loop-i l = record {
  named : (label : Label) → (contains same_label l.named label || list_any (is_named_in label) (drop l.i l.lines))
      ≡ list_any (is_named_in label) l.lines;
  numbers : (label : Label)
      → (contains same_label l.numbers label || list_any (is_number_in label) (drop l.i l.lines))
      ≡ list_any (is_number_in label) l.lines;
  signed : (label : Label) → (contains same_label l.signed label || list_any (is_signed_in label) (drop l.i l.lines))
      ≡ list_any (is_signed_in label) l.lines;
}

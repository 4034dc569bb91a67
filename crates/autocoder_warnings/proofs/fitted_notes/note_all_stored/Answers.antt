-- A line more is noted; once none is left, all are.
use Rattle.std.proofs.Common.{arith}
use Rattle.std.specs.Prelude.{◌||◌}
use Rattle.std.specs.List.{list_any}
use Rattle.indexmap.specs.IndexSet.{contains}
use Rattle.autocoder_symbols.specs.Symbols.{same_label}
use Rattle.autocoder_diagnostics.proofs.NotesLemmas.{line_noted, none_left}
use Rattle.autocoder_warnings.specs.FittedNotes.{is_stored_in}
use Rattle.autocoder_warnings.proofs.fitted_notes.note_all_stored.Goals as goal

pub loop-i-preserved : goal.loop-i-preserved
loop-i-preserved c = λ label.
    line_noted (is_stored_in label) c.args.lines.now c.loop-i.i c.line.result (contains same_label c.loop-i.labels label)
    (contains same_label c.note_stored.new.labels label)
    (contains same_label c.args.labels.now label || list_any (is_stored_in label) c.args.lines.now) c.line.ensures.rest
    (c.in_ok-note_stored.ensures.noted label) (c.loop-i.invariant label)

pub returns-clause-noted : goal.returns-clause-noted
returns-clause-noted c = λ label.
    none_left (is_stored_in label) c.args.lines.now c.loop-i.i (contains same_label c.loop-i.labels label)
    (contains same_label c.args.labels.now label || list_any (is_stored_in label) c.args.lines.now)
    (omega (arith, c.loop-i-test.false, c.len-i-end.ensures)) (c.loop-i.invariant label)

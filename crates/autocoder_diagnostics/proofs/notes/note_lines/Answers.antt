-- None is noted first; a line more is; once none is left, all are.
use Rattle.std.proofs.Common.{Bool, ap, arith}
use Rattle.std.specs.Prelude.{◌||◌}
use Rattle.std.specs.List.{list_any}
use Rattle.indexmap.specs.IndexSet.{contains}
use Rattle.autocoder_symbols.specs.Symbols.{same_label}
use Rattle.autocoder_diagnostics.specs.Notes.{is_named_in, is_number_in, is_signed_in}
use Rattle.autocoder_diagnostics.proofs.NotesLemmas.{line_noted, none_left}
use Rattle.autocoder_diagnostics.proofs.notes.note_lines.Goals as goal

pub loop-i-init : goal.loop-i-init
loop-i-init c = record {
  named = λ label.
      ap (λ (b : Bool). b || list_any (is_named_in label) c.args.lines.now) (c.requires.none_named label);
  numbers = λ label.
      ap (λ (b : Bool). b || list_any (is_number_in label) c.args.lines.now) (c.requires.none_numbers label);
  signed = λ label.
      ap (λ (b : Bool). b || list_any (is_signed_in label) c.args.lines.now) (c.requires.none_signed label);
}

pub loop-i-preserved : goal.loop-i-preserved
loop-i-preserved c = record {
  named = λ label.
      line_noted (is_named_in label) c.args.lines.now c.loop-i.i c.line-line.result (contains same_label c.loop-i.named label)
      (contains same_label c.note_named.new.labels label)
      (list_any (is_named_in label) c.args.lines.now)
      c.line-line.ensures.rest (c.in_ok-note_named.ensures.noted label) (c.loop-i.invariant.named label);
  numbers = λ label.
      line_noted (is_number_in label) c.args.lines.now c.loop-i.i c.line-line.result (contains same_label c.loop-i.numbers label)
      (contains same_label c.note_number.new.labels label)
      (list_any (is_number_in label) c.args.lines.now)
      c.line-line.ensures.rest (c.in_ok-note_number.ensures.noted label) (c.loop-i.invariant.numbers label);
  signed = λ label.
      line_noted (is_signed_in label) c.args.lines.now c.loop-i.i c.line-line.result (contains same_label c.loop-i.signed label)
      (contains same_label c.note_signed.new.labels label)
      (list_any (is_signed_in label) c.args.lines.now)
      c.line-line.ensures.rest (c.in_ok-note_signed.ensures.noted label) (c.loop-i.invariant.signed label);
}

pub returns-clause-named : goal.returns-clause-named
returns-clause-named c = λ label.
    none_left (is_named_in label) c.args.lines.now c.loop-i.i (contains same_label c.loop-i.named label)
    (list_any (is_named_in label) c.args.lines.now)
    (omega (arith, c.loop-i-test.false, c.len-i-end.ensures)) (c.loop-i.invariant.named label)

pub returns-clause-numbers : goal.returns-clause-numbers
returns-clause-numbers c = λ label.
    none_left (is_number_in label) c.args.lines.now c.loop-i.i (contains same_label c.loop-i.numbers label)
    (list_any (is_number_in label) c.args.lines.now)
    (omega (arith, c.loop-i-test.false, c.len-i-end.ensures)) (c.loop-i.invariant.numbers label)

pub returns-clause-signed : goal.returns-clause-signed
returns-clause-signed c = λ label.
    none_left (is_signed_in label) c.args.lines.now c.loop-i.i (contains same_label c.loop-i.signed label)
    (list_any (is_signed_in label) c.args.lines.now)
    (omega (arith, c.loop-i-test.false, c.len-i-end.ensures)) (c.loop-i.invariant.signed label)

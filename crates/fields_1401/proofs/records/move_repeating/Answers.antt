-- Each step moves one character more.
use Rattle.std.proofs.Common.{rules, refl, arith, ◌∙◌, ap}
use Rattle.fields_1401.specs.Places.{marks_of}
use Rattle.fields_1401.proofs.RecordLemmas.{record_none, record_more}
use Rattle.fields_1401.proofs.PlacesLemmas.{marks_stay}
use Rattle.fields_1401.proofs.records.move_repeating.Goals as goal

pub loop-i-init : goal.loop-i-init
loop-i-init c = record { moved = record_none c.args.core.now c.args.a c.args.b; marks = refl; size = refl }

pub loop-i-preserved : goal.loop-i-preserved
loop-i-preserved c =
    let more = record_more c.args.core.now c.args.a c.args.b c.loop-i.i (omega arith) (omega arith) in
    record {
      moved = cc;
      marks = ap marks_of c.put_char.ensures ∙ marks_stay _ _ _ ∙ c.loop-i.invariant.marks;
      size = search rules;
    }

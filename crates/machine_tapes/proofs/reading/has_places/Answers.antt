-- A word separator comes to no place; a cell comes to the next, which is in core and doesn't end the record.
use Rattle.std.proofs.Common.{ℕ, ◌+◌, ◌<◌, Bool, true, false, length, arith, ap, sym, ◌∙◌}
use Rattle.std.specs.Prelude.{is_some}
use Rattle.std.proofs.lemmas.Bool.{lt-ltb}
use Rattle.machine_tapes.specs.TapeText.{is_separator}
use Rattle.machine_tapes.specs.Transfer.{ends_record}
use Rattle.machine_tapes.proofs.ReadLemmas.{enough_places, left, left_separator, still_reads}
use Rattle.machine_tapes.proofs.reading.has_places.Goals as goal
use Rattle.machine_tapes.proofs.reading.has_places.Goals.{then-is_separator}
use Rattle.machine_tapes.proofs.reading.has_places.Goals.{else-is_separator+else-place-size+else-ends_record}

pub returns-then-end-places : goal.returns-then-end-places
returns-then-end-places c =
    sym (enough_places c.args.mode c.args.is_odd c.args.core.now c.args.at c.args.tape.now (omega arith))

pub loop-i-preserved : goal.loop-i-preserved
loop-i-preserved c =
    let how = c.args.mode in
    let odd = c.args.is_odd in
    let core = c.args.core.now in
    let tape = c.args.tape.now in
    let i = c.loop-i.i in
    let lt : i < length tape = omega arith in
    let is = ap (is_separator how c.loop-i.is_marked) (sym c.char.ensures) ∙ sym c.is_separator.ensures in
    elim c.if-is_separator.branch [
      | then-is_separator w ↦
          c.loop-i.invariant
          ∙ ap is_some (left_separator how odd c.loop-i.is_marked core c.loop-i.place tape i lt (is ∙ w.if-is_separator.true))
          ∙ ap (λ (place : ℕ). is_some (left how odd true core place tape (i + 1))) (sym w.place-is)
          ∙ ap (λ (marked : Bool). is_some (left how odd marked core c.if-is_separator.place tape (i + 1))) (sym w.is_marked-is)
      | else-is_separator+else-place-size+else-ends_record w ↦
          let inside : c.loop-i.place < length core = omega arith in
          c.loop-i.invariant
          ∙ still_reads how odd c.loop-i.is_marked core c.loop-i.place tape i lt (is ∙ w.if-is_separator.false)
          (lt-ltb c.loop-i.place (length core) inside)
          (sym (w.ends_record.ensures ∙ ap ends_record w.get.ensures) ∙ w.if-ends_record.false)
          ∙ ap (λ (place : ℕ). is_some (left how odd false core place tape (i + 1))) (sym w.place-is)
          ∙ ap (λ (marked : Bool). is_some (left how odd marked core c.if-is_separator.place tape (i + 1))) (sym w.is_marked-is)
    ]

-- A cell comes to the next place, which is in core; a place that ends a record ends this one.
use Rattle.std.proofs.Common.{◌≡◌, ℕ, ◌<◌, false, true, length, drop, arith, ap, sym, ◌∙◌}
use Rattle.std.proofs.lemmas.Bool.{ltb-true}
use Rattle.core_1401.specs.Storage.{Storage, cell_at}
use Rattle.machine_tapes.specs.TapeText.{cells_from}
use Rattle.machine_tapes.specs.Transfer.{ends_record}
use Rattle.machine_tapes.proofs.ReadLemmas.{in_core_of, moved_ends}
use Rattle.machine_tapes.proofs.reading.put_chars.Goals as goal

pub get-requires : goal.get-requires
get-requires c =
    let s : Storage = c.loop-i.machine.storage in
    let place : ℕ = c.loop-i.place in
    let inside : place < length s =
    ltb-true place (length s)
    (in_core_of c.args.mode s place (cells_from c.args.mode c.args.is_odd false (drop c.loop-i.i c.args.tape.now))
    c.loop-i.invariant.reads) in
    omega (arith, inside, ap length c.core-in-loop-i.ensures)

pub returns-then-ends_record-clause-read : goal.returns-then-ends_record-clause-read
returns-then-ends_record-clause-read c =
    let s : Storage = c.loop-i.machine.storage in
    let place : ℕ = c.loop-i.place in
    let i : ℕ = c.loop-i.i in
    let lt : i < length c.args.tape.now = omega arith in
    let inside =
    in_core_of c.args.mode s place (cells_from c.args.mode c.args.is_odd false (drop i c.args.tape.now))
    c.loop-i.invariant.reads in
    let ends : ends_record (cell_at s place) ≡ true =
    ap (λ (t : Storage). ends_record (cell_at t place)) (sym c.core-in-loop-i.ensures)
    ∙ sym (c.ends_record.ensures ∙ ap ends_record c.get.ensures) ∙ c.if-ends_record.true in
    c.loop-i.invariant.whole
    ∙ moved_ends c.args.mode c.args.is_odd s place c.args.tape.now i lt c.requires.unmarked inside ends

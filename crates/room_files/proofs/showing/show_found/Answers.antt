-- A text with these entries is shown, or shown up to what comes after them.
use Rattle.std.proofs.Common.{rules, subst, sym}
use Rattle.std.specs.Prelude.{IfErr, Result, ⊤}
use Rattle.room_files.specs.declared.showing.ShowFault.{ShowFault}
use Rattle.room_files.specs.Showing.{IsNotShown}
use Rattle.room_files.proofs.ShowingLemmas.{shown_up_to}
use Rattle.room_files.proofs.showing.show_found.Goals as goal

pub returns-clause-fault : goal.returns-clause-fault
returns-clause-fault g c text is =
    let old = g.W.Sink.received c.args.writer.now in
    let new = g.W.Sink.received c.put_listing.new.writer in
    subst (λ (each : Result ⊤ ShowFault). IfErr each (IsNotShown text c.args.view old new)) (sym c.unfinished.ensures)
    (shown_up_to text c.args.view old new c.args.room.now.size c.args.room.now.journal c.args.rest.now is
    (search (rules, c.put_listing.ensures.shown, c.in_ok-put_listing.ensures.shown, c.journal.ensures.journal)))

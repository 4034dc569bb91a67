-- The job and its trace are those that go on after the key, or were stopped by it.
use Rattle.std.proofs.Common.{ℕ, List, length, OnErr, OnOk, sym, subst, ap, ◌∙◌}
use Rattle.std.specs.Prelude.{is_some, option_and_then}
use Rattle.std.specs.Io.KnownBytes.{Appends}
use Rattle.bytes_streams.specs.Sink.{AppendsPart}
use Rattle.devices_1401.specs.declared.card.Card.{Card}
use Rattle.job_runner.specs.Unattended.{Job, ended, taped_with_deck, unattended}
use Rattle.program_run.specs.RunDeck.{HasWritten, HasWrittenPart, first_place, received, started_job}
use Rattle.program_run.specs.RunTrace.{traced}
use Rattle.program_run.proofs.StartLemmas.{broke_off_as, left_at_end, reported, started_as, stopped_as}
use Rattle.program_run.proofs.StartLemmas.{stopped_off_as, traced_as, untraced_as}
use Rattle.program_run.proofs.deck_running.run_started.Goals as goal

pub returns-in-None-clause-report : goal.returns-in-None-clause-report
returns-in-None-clause-report g c =
    let t = c.args.taped.now in
    let after = taped_with_deck c.press_start.new.deck c.press_start.new.taped in
    let job =
    started_as c.args.start c.args.limit c.args.cards.now c.new-deck.result t after c.new-deck.ensures c.in-None.ensures in
    let held =
    c.cards_held-held.ensures ∙ ap (λ (deck : List Card). length (taped_with_deck deck t).machine.devices.hopper) c.new-deck.ensures in
    reported c.run_deck.result c.cards_held-held.result (length (taped_with_deck c.args.cards.now t).machine.devices.hopper)
    (unattended c.args.limit after) (started_job c.args.start c.args.limit (taped_with_deck c.args.cards.now t)) held job
    c.run_deck.ensures.report

pub returns-in-None-clause-end : goal.returns-in-None-clause-end
returns-in-None-clause-end g c =
    let t = c.args.taped.now in
    let after = taped_with_deck c.press_start.new.deck c.press_start.new.taped in
    let job =
    started_as c.args.start c.args.limit c.args.cards.now c.new-deck.result t after c.new-deck.ensures c.in-None.ensures in
    left_at_end c.run_deck.result (unattended c.args.limit after)
    (started_job c.args.start c.args.limit (taped_with_deck c.args.cards.now t)) c.run_deck.new.deck c.run_deck.new.taped
    job c.run_deck.ensures.end

pub returns-in-None-clause-written : goal.returns-in-None-clause-written
returns-in-None-clause-written g c =
    let t = c.args.taped.now in
    let after = taped_with_deck c.press_start.new.deck c.press_start.new.taped in
    let job =
    started_as c.args.start c.args.limit c.args.cards.now c.new-deck.result t after c.new-deck.ensures c.in-None.ensures in
    subst (λ (each : Job). OnOk c.run_deck.result (HasWritten first_place each.lines each.cards
    (received (g.W.Sink.received c.args.outputs.now.paper) (g.P.Sink.received c.args.outputs.now.punch))
    (received (g.W.Sink.received c.run_deck.new.outputs.paper) (g.P.Sink.received c.run_deck.new.outputs.punch)))) (sym job) c.run_deck.ensures.written

pub returns-in-None-clause-part : goal.returns-in-None-clause-part
returns-in-None-clause-part g c =
    let t = c.args.taped.now in
    let after = taped_with_deck c.press_start.new.deck c.press_start.new.taped in
    let job =
    started_as c.args.start c.args.limit c.args.cards.now c.new-deck.result t after c.new-deck.ensures c.in-None.ensures in
    subst (λ (each : Job). OnErr c.run_deck.result (HasWrittenPart first_place each.lines each.cards
    (received (g.W.Sink.received c.args.outputs.now.paper) (g.P.Sink.received c.args.outputs.now.punch))
    (received (g.W.Sink.received c.run_deck.new.outputs.paper) (g.P.Sink.received c.run_deck.new.outputs.punch)))) (sym job) c.run_deck.ensures.part

pub returns-in-None-clause-traced : goal.returns-in-None-clause-traced
returns-in-None-clause-traced g c =
    let t = c.args.taped.now in
    let after = taped_with_deck c.press_start.new.deck c.press_start.new.taped in
    let text =
    traced_as c.args.start c.args.limit c.args.cards.now c.new-deck.result t after c.new-deck.ensures c.in-None.ensures in
    subst (λ (each : List ℕ). OnOk c.run_deck.result (Appends (option_and_then g.F.Sink.received c.args.outputs.now.trace.file)
    (option_and_then g.F.Sink.received c.run_deck.new.outputs.trace.file) (traced (is_some c.args.outputs.now.trace.file) each))) (sym text)
    c.run_deck.ensures.traced

pub returns-in-None-clause-traced_part : goal.returns-in-None-clause-traced_part
returns-in-None-clause-traced_part g c =
    let t = c.args.taped.now in
    let after = taped_with_deck c.press_start.new.deck c.press_start.new.taped in
    let text =
    traced_as c.args.start c.args.limit c.args.cards.now c.new-deck.result t after c.new-deck.ensures c.in-None.ensures in
    subst (λ (each : List ℕ). OnErr c.run_deck.result (AppendsPart (option_and_then g.F.Sink.received c.args.outputs.now.trace.file)
    (option_and_then g.F.Sink.received c.run_deck.new.outputs.trace.file) (traced (is_some c.args.outputs.now.trace.file) each))) (sym text)
    c.run_deck.ensures.traced_part

pub returns-in-Some-clause-report : goal.returns-in-Some-clause-report
returns-in-Some-clause-report g c =
    let t = c.args.taped.now in
    let after = taped_with_deck c.press_start.new.deck c.press_start.new.taped in
    let job =
    stopped_as c.args.start c.in-Some.why c.args.limit c.args.cards.now c.new-deck.result t after c.new-deck.ensures c.in-Some.ensures in
    let held =
    c.cards_held-held.ensures ∙ ap (λ (deck : List Card). length (taped_with_deck deck t).machine.devices.hopper) c.new-deck.ensures in
    reported c.run_nothing.result c.cards_held-held.result (length (taped_with_deck c.args.cards.now t).machine.devices.hopper)
    (ended 0 c.in-Some.why after) (started_job c.args.start c.args.limit (taped_with_deck c.args.cards.now t)) held job
    c.run_nothing.ensures.report

pub returns-in-Some-clause-end : goal.returns-in-Some-clause-end
returns-in-Some-clause-end g c =
    let t = c.args.taped.now in
    let after = taped_with_deck c.press_start.new.deck c.press_start.new.taped in
    let job =
    stopped_as c.args.start c.in-Some.why c.args.limit c.args.cards.now c.new-deck.result t after c.new-deck.ensures c.in-Some.ensures in
    left_at_end c.run_nothing.result (ended 0 c.in-Some.why after)
    (started_job c.args.start c.args.limit (taped_with_deck c.args.cards.now t)) c.run_nothing.new.deck c.run_nothing.new.taped
    job c.run_nothing.ensures.end

pub returns-in-Some-clause-written : goal.returns-in-Some-clause-written
returns-in-Some-clause-written g c =
    let t = c.args.taped.now in
    let after = taped_with_deck c.press_start.new.deck c.press_start.new.taped in
    let job =
    stopped_as c.args.start c.in-Some.why c.args.limit c.args.cards.now c.new-deck.result t after c.new-deck.ensures c.in-Some.ensures in
    subst (λ (each : Job). OnOk c.run_nothing.result (HasWritten first_place each.lines each.cards
    (received (g.W.Sink.received c.args.outputs.now.paper) (g.P.Sink.received c.args.outputs.now.punch))
    (received (g.W.Sink.received c.run_nothing.new.outputs.paper) (g.P.Sink.received c.run_nothing.new.outputs.punch)))) (sym job) c.run_nothing.ensures.written

pub returns-in-Some-clause-part : goal.returns-in-Some-clause-part
returns-in-Some-clause-part g c =
    let t = c.args.taped.now in
    let after = taped_with_deck c.press_start.new.deck c.press_start.new.taped in
    let job =
    stopped_as c.args.start c.in-Some.why c.args.limit c.args.cards.now c.new-deck.result t after c.new-deck.ensures c.in-Some.ensures in
    subst (λ (each : Job). OnErr c.run_nothing.result (HasWrittenPart first_place each.lines each.cards
    (received (g.W.Sink.received c.args.outputs.now.paper) (g.P.Sink.received c.args.outputs.now.punch))
    (received (g.W.Sink.received c.run_nothing.new.outputs.paper) (g.P.Sink.received c.run_nothing.new.outputs.punch)))) (sym job) c.run_nothing.ensures.part

pub returns-in-Some-clause-traced : goal.returns-in-Some-clause-traced
returns-in-Some-clause-traced g c =
    let t = c.args.taped.now in
    let after = taped_with_deck c.press_start.new.deck c.press_start.new.taped in
    let text =
    untraced_as c.args.start c.in-Some.why c.args.limit c.args.cards.now c.new-deck.result t after c.new-deck.ensures c.in-Some.ensures in
    subst (λ (each : List ℕ). OnOk c.run_nothing.result (Appends (option_and_then g.F.Sink.received c.args.outputs.now.trace.file)
    (option_and_then g.F.Sink.received c.run_nothing.new.outputs.trace.file) (traced (is_some c.args.outputs.now.trace.file) each))) (sym text)
    c.run_nothing.ensures.traced

pub returns-in-Some-clause-traced_part : goal.returns-in-Some-clause-traced_part
returns-in-Some-clause-traced_part g c =
    let t = c.args.taped.now in
    let after = taped_with_deck c.press_start.new.deck c.press_start.new.taped in
    let text =
    untraced_as c.args.start c.in-Some.why c.args.limit c.args.cards.now c.new-deck.result t after c.new-deck.ensures c.in-Some.ensures in
    subst (λ (each : List ℕ). OnErr c.run_nothing.result (AppendsPart (option_and_then g.F.Sink.received c.args.outputs.now.trace.file)
    (option_and_then g.F.Sink.received c.run_nothing.new.outputs.trace.file) (traced (is_some c.args.outputs.now.trace.file) each))) (sym text)
    c.run_nothing.ensures.traced_part

pub returns-in-None-clause-broke_off : goal.returns-in-None-clause-broke_off
returns-in-None-clause-broke_off g c =
    let t = c.args.taped.now in
    let after = taped_with_deck c.press_start.new.deck c.press_start.new.taped in
    broke_off_as c.args.start c.args.limit (taped_with_deck c.args.cards.now t) after c.run_deck.new.taped.tapes
    c.run_deck.result
    (λ steps. started_as c.args.start steps c.args.cards.now c.new-deck.result t after c.new-deck.ensures c.in-None.ensures)
    c.run_deck.ensures.left_off

pub returns-in-Some-clause-broke_off : goal.returns-in-Some-clause-broke_off
returns-in-Some-clause-broke_off g c =
    let t = c.args.taped.now in
    let after = taped_with_deck c.press_start.new.deck c.press_start.new.taped in
    stopped_off_as c.args.start c.args.limit c.in-Some.why (taped_with_deck c.args.cards.now t) after
    c.run_nothing.new.taped.tapes c.run_nothing.result
    (λ steps. stopped_as c.args.start c.in-Some.why steps c.args.cards.now c.new-deck.result t after c.new-deck.ensures
    c.in-Some.ensures) c.run_nothing.ensures.left_off

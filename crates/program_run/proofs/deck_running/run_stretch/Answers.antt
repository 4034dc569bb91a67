-- What a stretch writes, and what it leaves.
use Rattle.std.proofs.Common.{Bool, Option, length, subst, sym, ap, arith, ◌∙◌, ◌+◌, ◌<◌, ℕ, refl}
use Rattle.std.specs.Prelude.{is_some, nat_lt, option_and_then}
use Rattle.std.specs.Io.KnownBytes.{Appends}
use Rattle.bytes_streams.specs.Sink.{AppendsPart}
use Rattle.machine_tables.specs.declared.regs.Regs.{Regs}
use Rattle.job_steps.specs.TraceLine.{Seen}
use Rattle.program_run.specs.TraceText.{trace_text}
use Rattle.program_run.specs.RunTrace.{lines_after, seen_if, traced}
use Rattle.program_run.proofs.TraceLemmas.{line_part, of_size, some_limit, stretch_told, work_by}
use Rattle.job_runner.specs.Paper.{paper_text}
use Rattle.job_runner.specs.Unattended.{Job, taped_with_deck, unattended}
use Rattle.program_run.specs.RunDeck.{IsWhyUnwritten, cards_text, failed_of, received}
use Rattle.program_run.proofs.StretchLemmas.{few_steps, ran_part, stretch_begins, stretch_job, within_left}
use Rattle.program_run.proofs.WrittenLemmas.{all_of_it, first_part_written, nothing_yet, only_traced}
use Rattle.program_run.proofs.WrittenLemmas.{paper_and_part_written}
use Rattle.program_run.proofs.deck_running.run_stretch.Goals as goal

pub returns-in-Err-clause-part : goal.returns-in-Err-clause-part
returns-in-Err-clause-part g c =
    let job = unattended c.args.left (taped_with_deck c.args.deck.now c.args.taped.now) in
    record {
      paper = nothing_yet (g.W.Sink.received c.args.outputs.now.paper) (paper_text c.args.place job.lines);
      punch = nothing_yet (g.P.Sink.received c.args.outputs.now.punch) (cards_text job.cards);
    }

pub returns-in-Err-clause-why : goal.returns-in-Err-clause-why
returns-in-Err-clause-why g c = (refl, refl)

pub returns-in-Err-clause-file : goal.returns-in-Err-clause-file
returns-in-Err-clause-file g c = refl

pub returns-in-Err-clause-traced_part : goal.returns-in-Err-clause-traced_part
returns-in-Err-clause-traced_part g c =
    nothing_yet (option_and_then g.F.Sink.received c.args.outputs.now.trace.file)
    (traced (is_some c.args.outputs.now.trace.before)
    (trace_text c.args.left (taped_with_deck c.args.deck.now c.args.taped.now)))

pub returns-in-Err-clause-why_untraced : goal.returns-in-Err-clause-why_untraced
returns-in-Err-clause-why_untraced g c = refl

pub returns-in-Err-write_paper-clause-part : goal.returns-in-Err-write_paper-clause-part
returns-in-Err-write_paper-clause-part g c =
    let few = within_left c.min-limit.result c.args.left c.most_at_once.result c.min-limit.ensures in
    let s = taped_with_deck c.args.deck.now c.args.taped.now in
    let after = taped_with_deck c.run_job.new.cards c.run_job.new.taped in
    let whole = ran_part (unattended c.min-limit.result s) after c.in-Ok.end.steps c.in-Ok.end.stop
    c.new-output.ensures.lines c.new-output.ensures.cards c.in-Ok.ensures.job c.as_slice-lines.ensures.value
    c.as_slice-cards.ensures.value in
    first_part_written c.args.place
    (received (g.W.Sink.received c.args.outputs.now.paper) (g.P.Sink.received c.args.outputs.now.punch))
    (received (g.W.Sink.received c.write_paper.new.paper) (g.P.Sink.received c.args.outputs.now.punch))
    (stretch_begins c.min-limit.result c.args.left s _ few whole c.in-Ok.ensures.begins)
    c.in-Err-write_paper.ensures.part
    (nothing_yet (g.P.Sink.received c.args.outputs.now.punch) (cards_text c.as_slice-cards.result.now))

pub returns-in-Err-write_cards-clause-part : goal.returns-in-Err-write_cards-clause-part
returns-in-Err-write_cards-clause-part g c =
    let few = within_left c.min-limit.result c.args.left c.most_at_once.result c.min-limit.ensures in
    let s = taped_with_deck c.args.deck.now c.args.taped.now in
    let after = taped_with_deck c.run_job.new.cards c.run_job.new.taped in
    let whole = ran_part (unattended c.min-limit.result s) after c.in-Ok.end.steps c.in-Ok.end.stop
    c.new-output.ensures.lines c.new-output.ensures.cards c.in-Ok.ensures.job c.as_slice-lines.ensures.value
    c.as_slice-cards.ensures.value in
    paper_and_part_written c.args.place
    (received (g.W.Sink.received c.args.outputs.now.paper) (g.P.Sink.received c.args.outputs.now.punch))
    (received (g.W.Sink.received c.write_paper.new.paper) (g.P.Sink.received c.write_cards.new.punch))
    (stretch_begins c.min-limit.result c.args.left s _ few whole c.in-Ok.ensures.begins)
    c.in-Ok-write_paper.ensures.text
    c.in-Err-write_cards.ensures.part

pub returns-in-Ok-put_line-clause-ran : goal.returns-in-Ok-put_line-clause-ran
returns-in-Ok-put_line-clause-ran g c =
    let few = within_left c.min-limit.result c.args.left c.most_at_once.result c.min-limit.ensures in
    let s = taped_with_deck c.args.deck.now c.args.taped.now in
    let after = taped_with_deck c.run_job.new.cards c.run_job.new.taped in
    let whole = ran_part (unattended c.min-limit.result s) after c.in-Ok.end.steps c.in-Ok.end.stop
    c.new-output.ensures.lines c.new-output.ensures.cards c.in-Ok.ensures.job c.as_slice-lines.ensures.value
    c.as_slice-cards.ensures.value in
    record {
      lines = c.as_slice-lines.result.now;
      cards = c.as_slice-cards.result.now;
      written = record { paper = c.in-Ok-write_paper.ensures.text; punch = c.in-Ok-write_cards.ensures.text };
      place_is = c.in-Ok-write_paper.ensures.place;
      printed_is = refl;
      punched_is = refl;
      job =
          stretch_job c.min-limit.result c.args.left c.in-Ok.end.steps c.in-Ok.end.stop c.stop_of_job-stop.result s after
          c.as_slice-lines.result.now c.as_slice-cards.result.now few whole c.stop_of_job-stop.ensures.none
          c.stop_of_job-stop.ensures.some c.in-Ok.ensures.limit c.in-Ok.ensures.goes_on c.in-Ok.ensures.at_end;
    }

pub returns-in-Ok-put_line-clause-traced : goal.returns-in-Ok-put_line-clause-traced
returns-in-Ok-put_line-clause-traced g c =
    let is = is_some c.args.outputs.now.trace.before in
    let m = c.args.taped.now in
    let m' = c.run_job.new.taped in
    let deck = c.args.deck.now in
    let deck' = c.run_job.new.cards in
    let told = stretch_told c.taped_step_law.ensures is deck deck' m m' c.args.left c.min-limit.ensures
    c.most_at_once.ensures c.new-output.ensures.lines c.new-output.ensures.cards c.in-Ok.ensures.job
    c.as_slice-lines.ensures.value c.as_slice-cards.ensures.value c.in-Ok.ensures.limit c.stop_of_step-why.ensures.none
    c.stop_of_step-why.ensures.some c.stop_of_job-stop.ensures.none c.stop_of_job-stop.ensures.some
    (c.from.ensures ∙ ap (λ (r : Regs). r.paper) c.regs-regs.ensures.value) c.cards_held.ensures c.cards_held-held.ensures
    (c.from-2.ensures ∙ ap (λ (r : Regs). r.stacker) c.regs-regs.ensures.value) c.tape_instruction-next.ensures.value
    (λ e. c.mark_after.ensures (c.is_on-is_traced.ensures ∙ e)) in
    let work = work_by (nat_lt c.from.result (length c.as_slice-lines.result.now))
    (nat_lt c.cards_held.result c.cards_held-held.result) (nat_lt c.from-2.result (length c.as_slice-cards.result.now)) c.mark_after.result in
    record {
      lines = lines_after c.min-limit.result (seen_if is m.machine) work c.stop_of_step-why.result m'.machine;
      written =
          subst (λ (before : Option Seen). Appends (option_and_then g.F.Sink.received c.args.outputs.now.trace.file)
          (option_and_then g.F.Sink.received c.put_line.new.self.file)
          (lines_after c.min-limit.result before work c.stop_of_step-why.result m'.machine)) c.requires.seen
          c.in-Ok-put_line.ensures.text;
      whole = told;
    }

pub returns-clause-traced_part : goal.returns-clause-traced_part
returns-clause-traced_part g c =
    let is = is_some c.args.outputs.now.trace.before in
    let m = c.args.taped.now in
    let m' = c.run_job.new.taped in
    let deck = c.args.deck.now in
    let deck' = c.run_job.new.cards in
    let told = stretch_told c.taped_step_law.ensures is deck deck' m m' c.args.left c.min-limit.ensures
    c.most_at_once.ensures c.new-output.ensures.lines c.new-output.ensures.cards c.in-Ok.ensures.job
    c.as_slice-lines.ensures.value c.as_slice-cards.ensures.value c.in-Ok.ensures.limit c.stop_of_step-why.ensures.none
    c.stop_of_step-why.ensures.some c.stop_of_job-stop.ensures.none c.stop_of_job-stop.ensures.some
    (c.from.ensures ∙ ap (λ (r : Regs). r.paper) c.regs-regs.ensures.value) c.cards_held.ensures c.cards_held-held.ensures
    (c.from-2.ensures ∙ ap (λ (r : Regs). r.stacker) c.regs-regs.ensures.value) c.tape_instruction-next.ensures.value
    (λ e. c.mark_after.ensures (c.is_on-is_traced.ensures ∙ e)) in
    let old = option_and_then g.F.Sink.received c.args.outputs.now.trace.file in
    let new = option_and_then g.F.Sink.received c.put_line.new.self.file in
    let work = work_by (nat_lt c.from.result (length c.as_slice-lines.result.now))
    (nat_lt c.cards_held.result c.cards_held-held.result) (nat_lt c.from-2.result (length c.as_slice-cards.result.now)) c.mark_after.result in
    line_part is c.args.left c.in-Ok.end.steps c.stop_of_job-stop.result (taped_with_deck deck m) (taped_with_deck deck' m') old new
    (lines_after c.min-limit.result (seen_if is m.machine) work c.stop_of_step-why.result m'.machine) told
    (subst (λ (before : Option Seen). AppendsPart old new
    (lines_after c.min-limit.result before work c.stop_of_step-why.result m'.machine)) c.requires.seen
    c.in-Err-put_line.ensures.part)

pub returns-clause-part : goal.returns-clause-part
returns-clause-part g c =
    let few = within_left c.min-limit.result c.args.left c.most_at_once.result c.min-limit.ensures in
    let s = taped_with_deck c.args.deck.now c.args.taped.now in
    let after = taped_with_deck c.run_job.new.cards c.run_job.new.taped in
    let whole = ran_part (unattended c.min-limit.result s) after c.in-Ok.end.steps c.in-Ok.end.stop
    c.new-output.ensures.lines c.new-output.ensures.cards c.in-Ok.ensures.job c.as_slice-lines.ensures.value
    c.as_slice-cards.ensures.value in
    paper_and_part_written c.args.place
    (received (g.W.Sink.received c.args.outputs.now.paper) (g.P.Sink.received c.args.outputs.now.punch))
    (received (g.W.Sink.received c.write_paper.new.paper) (g.P.Sink.received c.write_cards.new.punch))
    (stretch_begins c.min-limit.result c.args.left s _ few whole c.in-Ok.ensures.begins)
    c.in-Ok-write_paper.ensures.text
    (all_of_it (g.P.Sink.received c.args.outputs.now.punch) (g.P.Sink.received c.write_cards.new.punch) (cards_text c.as_slice-cards.result.now)
    c.in-Ok-write_cards.ensures.text)

pub returns-in-Err-write_paper-clause-traced_part : goal.returns-in-Err-write_paper-clause-traced_part
returns-in-Err-write_paper-clause-traced_part g c =
    let s = taped_with_deck c.args.deck.now c.args.taped.now in
    nothing_yet (option_and_then g.F.Sink.received c.args.outputs.now.trace.file)
    (traced (is_some c.args.outputs.now.trace.before) (trace_text c.args.left s))

pub returns-in-Err-write_paper-clause-why : goal.returns-in-Err-write_paper-clause-why
returns-in-Err-write_paper-clause-why g c =
    c.in-Err-write_paper.ensures.why (g.P.Sink.has_failed c.args.outputs.now.punch)

pub returns-in-Err-write_paper-clause-file : goal.returns-in-Err-write_paper-clause-file
returns-in-Err-write_paper-clause-file g c = refl

pub returns-in-Err-write_paper-clause-why_untraced : goal.returns-in-Err-write_paper-clause-why_untraced
returns-in-Err-write_paper-clause-why_untraced g c =
    c.in-Err-write_paper.ensures.untraced (failed_of g.F.Sink.has_failed c.args.outputs.now.trace.file)

pub returns-in-Err-write_cards-clause-why : goal.returns-in-Err-write_cards-clause-why
returns-in-Err-write_cards-clause-why g c =
    let paper = g.W.Sink.has_failed c.write_paper.new.paper in
    subst (λ (old : Bool). IsWhyUnwritten c.in-Err-write_cards.unpunched old paper
    (g.P.Sink.has_failed c.args.outputs.now.punch) (g.P.Sink.has_failed c.write_cards.new.punch))
    c.in-Ok-write_paper.ensures.good (c.in-Err-write_cards.ensures.why paper)

pub returns-in-Err-write_cards-clause-file : goal.returns-in-Err-write_cards-clause-file
returns-in-Err-write_cards-clause-file g c = refl

pub returns-in-Err-write_cards-clause-traced_part : goal.returns-in-Err-write_cards-clause-traced_part
returns-in-Err-write_cards-clause-traced_part g c =
    nothing_yet (option_and_then g.F.Sink.received c.args.outputs.now.trace.file)
    (traced (is_some c.args.outputs.now.trace.before)
    (trace_text c.args.left (taped_with_deck c.args.deck.now c.args.taped.now)))

pub returns-in-Err-write_cards-clause-why_untraced : goal.returns-in-Err-write_cards-clause-why_untraced
returns-in-Err-write_cards-clause-why_untraced g c =
    c.in-Err-write_cards.ensures.untraced (failed_of g.F.Sink.has_failed c.args.outputs.now.trace.file)

pub mark_after-requires-clause-least : goal.mark_after-requires-clause-least
mark_after-requires-clause-least g c = c.tape_instruction-next.ensures.least

pub mark_after-requires-clause-most : goal.mark_after-requires-clause-most
mark_after-requires-clause-most g c = c.tape_instruction-next.ensures.most

pub put_line-requires-clause-size : goal.put_line-requires-clause-size
put_line-requires-clause-size g c =
    of_size (is_some c.args.outputs.now.trace.before) c.args.outputs.now.trace.before c.args.taped.now.machine
    c.run_job.new.taped.machine c.requires.seen c.in-Ok.ensures.size

pub put_line-requires-clause-file : goal.put_line-requires-clause-file
put_line-requires-clause-file g c = c.requires.file

pub returns-in-Ok-put_line-clause-most : goal.returns-in-Ok-put_line-clause-most
returns-in-Ok-put_line-clause-most g c =
    few_steps c.in-Ok.end.steps c.min-limit.result c.args.left c.most_at_once.result c.min-limit.ensures
    c.in-Ok.ensures.most

pub returns-in-Ok-put_line-clause-some : goal.returns-in-Ok-put_line-clause-some
returns-in-Ok-put_line-clause-some g c = λ more.
    let stopped = c.stop_of_job-stop.ensures.none more in
    subst (λ (n : ℕ). 0 < n) (sym (c.in-Ok.ensures.limit stopped.0))
    (some_limit (is_some c.args.outputs.now.trace.before) c.min-limit.result c.args.left c.most_at_once.result
    c.min-limit.ensures c.most_at_once.ensures stopped.1)

pub returns-in-Ok-put_line-clause-good : goal.returns-in-Ok-put_line-clause-good
returns-in-Ok-put_line-clause-good g c = (c.in-Ok-write_paper.ensures.good, c.in-Ok-write_cards.ensures.good)

pub returns-in-Ok-put_line-clause-seen : goal.returns-in-Ok-put_line-clause-seen
returns-in-Ok-put_line-clause-seen g c = λ more.
    c.in-Ok-put_line.ensures.before
    (some_limit (is_some c.args.outputs.now.trace.before) c.min-limit.result c.args.left c.most_at_once.result
    c.min-limit.ensures c.most_at_once.ensures (c.stop_of_job-stop.ensures.none more).1)

pub returns-in-Ok-put_line-clause-file : goal.returns-in-Ok-put_line-clause-file
returns-in-Ok-put_line-clause-file g c = c.put_line.ensures.file

pub returns-in-Ok-put_line-clause-traced_good : goal.returns-in-Ok-put_line-clause-traced_good
returns-in-Ok-put_line-clause-traced_good g c = c.in-Ok-put_line.ensures.good

pub returns-clause-why : goal.returns-clause-why
returns-clause-why g c =
    only_traced c.in-Err-put_line.untraced (g.W.Sink.has_failed c.args.outputs.now.paper)
    (g.W.Sink.has_failed c.write_paper.new.paper) (g.P.Sink.has_failed c.args.outputs.now.punch)
    (g.P.Sink.has_failed c.write_cards.new.punch) c.in-Err-put_line.ensures.told c.in-Ok-write_paper.ensures.good
    c.in-Ok-write_cards.ensures.good

pub returns-clause-file : goal.returns-clause-file
returns-clause-file g c = c.put_line.ensures.file

pub returns-clause-why_untraced : goal.returns-clause-why_untraced
returns-clause-why_untraced g c = c.in-Err-put_line.ensures.why

pub returns-in-Err-clause-left_off : goal.returns-in-Err-clause-left_off
returns-in-Err-clause-left_off g c =
    let few = within_left c.min-limit.result c.args.left c.most_at_once.result c.min-limit.ensures in
    let off = c.in-Err.ensures.left_off in (off.0, omega (arith, few, off.1), off.2)

pub returns-in-Err-write_paper-clause-left_off : goal.returns-in-Err-write_paper-clause-left_off
returns-in-Err-write_paper-clause-left_off g c =
    let few = within_left c.min-limit.result c.args.left c.most_at_once.result c.min-limit.ensures in
    (c.min-limit.result, few, ap (λ (job : Job). job.state.tapes) c.in-Ok.ensures.job)

pub returns-in-Err-write_cards-clause-left_off : goal.returns-in-Err-write_cards-clause-left_off
returns-in-Err-write_cards-clause-left_off g c =
    let few = within_left c.min-limit.result c.args.left c.most_at_once.result c.min-limit.ensures in
    (c.min-limit.result, few, ap (λ (job : Job). job.state.tapes) c.in-Ok.ensures.job)

pub returns-clause-left_off : goal.returns-clause-left_off
returns-clause-left_off g c =
    let few = within_left c.min-limit.result c.args.left c.most_at_once.result c.min-limit.ensures in
    (c.min-limit.result, few, ap (λ (job : Job). job.state.tapes) c.in-Ok.ensures.job)

pub returns-in-Ok-put_line-clause-leads_on : goal.returns-in-Ok-put_line-clause-leads_on
returns-in-Ok-put_line-clause-leads_on g c = λ none more.
    let s = taped_with_deck c.args.deck.now c.args.taped.now in
    let stopped = c.stop_of_job-stop.ensures.none none in
    ap (λ (steps : ℕ). (unattended (steps + more) s).state.tapes) (c.in-Ok.ensures.limit stopped.0)
    ∙ ap (λ (job : Job). job.state.tapes) (c.in-Ok.ensures.goes_on stopped.0 more)
    ∙ ap (λ (job : Job). (unattended more job.state).state.tapes) c.in-Ok.ensures.job

-- Each stretch adds what it writes, and leaves the rest.
use Rattle.std.proofs.Common.{◌≡◌, ◌+◌, ◌-◌, ℕ, Bool, arith, refl, sym, subst, ap, ◌∙◌}
use Rattle.bytes_streams.specs.Sink.{AppendsPart}
use Rattle.program_run.specs.TraceText.{trace_text}
use Rattle.program_run.specs.RunTrace.{IsWhyUntraced, seen_if, traced}
use Rattle.job_runner.proofs.JobLemmas.{no_step}
use Rattle.program_run.proofs.WrittenLemmas.{nothing_yet}
use Rattle.program_run.proofs.TraceLemmas.{all_traced, is_seen, trace_at_first, trace_goes_on, trace_part}
use Rattle.std.specs.Prelude.{is_some, option_and_then}
use Rattle.job_runner.specs.Paper.{paper_text}
use Rattle.job_runner.specs.Unattended.{taped_with_deck, unattended}
use Rattle.program_run.specs.RunDeck.{IsWhyUnwritten, cards_text, failed_of, first_place, received}
use Rattle.program_run.specs.declared.deck_running.Broken.{Broken}
use Rattle.program_run.proofs.StretchLemmas.{all_ended, all_written, at_first, goes_on_so_far, grown, part_so_far}
use Rattle.program_run.proofs.deck_running.run_deck.Goals as goal

pub loop-stretch-init : goal.loop-stretch-init
loop-stretch-init g c =
    let s = taped_with_deck c.args.deck.now c.args.taped.now in
    let first = received (g.W.Sink.received c.args.outputs.now.paper) (g.P.Sink.received c.args.outputs.now.punch) in
    let file = c.begin.ensures.file in
    record {
      so_far = at_first c.args.limit s first;
      on = λ more.
          let none : (c.args.limit - c.args.limit) + more ≡ more = omega arith in
          ap (λ (steps : ℕ). (unattended steps s).state.tapes) none;
      paper = refl;
      punch = refl;
      traced =
          trace_at_first (is_some c.args.outputs.now.trace.file) c.args.limit s
          (option_and_then g.F.Sink.received c.args.outputs.now.trace.file)
          (option_and_then g.F.Sink.received c.begin.new.self.file)
          (ap (λ each. option_and_then g.F.Sink.received each) file);
      seen = c.in-Ok.ensures.before;
      file = ap (λ each. is_some each) file;
      trace = ap (λ each. failed_of g.F.Sink.has_failed each) file;
    }

pub returns-in-Err-run_stretch-clause-part : goal.returns-in-Err-run_stretch-clause-part
returns-in-Err-run_stretch-clause-part g c =
    part_so_far c.loop-stretch.invariant.so_far c.in-Err-run_stretch.ensures.part

pub returns-in-Some-clause-written : goal.returns-in-Some-clause-written
returns-in-Some-clause-written g c =
    all_written (grown c.loop-stretch.invariant.so_far c.in-Ok-run_stretch.ensures.ran c.in-Ok-run_stretch.ensures.most) c.in-Some.is

pub loop-stretch-preserved : goal.loop-stretch-preserved
loop-stretch-preserved g c =
    let i = c.loop-stretch.invariant in
    let whole = grown i.so_far c.in-Ok-run_stretch.ensures.ran c.in-Ok-run_stretch.ensures.most in
    record {
      so_far =
          goes_on_so_far whole c.in-None.is i.so_far.within c.saturating_add-printed.ensures
          c.saturating_add-punched.ensures;
      on = λ more.
          let limit = c.args.limit in
          let left = c.loop-stretch.left in
          let steps = c.in-Ok-run_stretch.stretch.steps in
          let few = c.in-Ok-run_stretch.ensures.most in
          let parts : (limit - (left - steps)) + more ≡ (limit - left) + (steps + more) =
          omega (arith, few, i.so_far.within) in
          ap (λ (k : ℕ). (unattended k (taped_with_deck c.args.deck.now c.args.taped.now)).state.tapes) parts
          ∙ i.on (steps + more)
          ∙ c.in-Ok-run_stretch.ensures.leads_on c.in-None.is more;
      paper = c.in-Ok-run_stretch.ensures.good.0 ∙ i.paper;
      punch = c.in-Ok-run_stretch.ensures.good.1 ∙ i.punch;
      traced = trace_goes_on c.loop-stretch.taped.machine i.seen i.traced c.in-Ok-run_stretch.ensures.traced c.in-None.is;
      seen = c.in-Ok-run_stretch.ensures.seen c.in-None.is
          ∙ ap (λ each. seen_if each c.run_stretch.new.taped.machine) (is_seen _ c.loop-stretch.taped.machine i.seen);
      file = c.run_stretch.ensures.file ∙ i.file;
      trace = c.in-Ok-run_stretch.ensures.traced_good ∙ i.trace;
    }

pub returns-in-Some-clause-end : goal.returns-in-Some-clause-end
returns-in-Some-clause-end g c =
    all_ended (grown c.loop-stretch.invariant.so_far c.in-Ok-run_stretch.ensures.ran c.in-Ok-run_stretch.ensures.most) c.in-Some.is

pub returns-in-Some-clause-traced : goal.returns-in-Some-clause-traced
returns-in-Some-clause-traced g c =
    let i = c.loop-stretch.invariant in
    all_traced c.loop-stretch.taped.machine i.seen i.traced c.in-Ok-run_stretch.ensures.traced c.in-Some.is

pub returns-in-Err-run_stretch-clause-traced_part : goal.returns-in-Err-run_stretch-clause-traced_part
returns-in-Err-run_stretch-clause-traced_part g c =
    let i = c.loop-stretch.invariant in
    let new = option_and_then g.F.Sink.received c.run_stretch.new.outputs.trace.file in
    trace_part c.loop-stretch.taped.machine new i.seen i.traced c.in-Err-run_stretch.ensures.traced_part

pub run_stretch-requires-clause-seen : goal.run_stretch-requires-clause-seen
run_stretch-requires-clause-seen g c =
    let seen = c.loop-stretch.invariant.seen in
    let is = is_seen (is_some c.args.outputs.now.trace.file) c.loop-stretch.taped.machine seen in
    seen ∙ sym (ap (λ each. seen_if each c.loop-stretch.taped.machine) is)

pub run_stretch-requires-clause-file : goal.run_stretch-requires-clause-file
run_stretch-requires-clause-file g c =
    is_seen (is_some c.args.outputs.now.trace.file) c.loop-stretch.taped.machine c.loop-stretch.invariant.seen
    ∙ sym c.loop-stretch.invariant.file

pub returns-in-Err-clause-traced_part : goal.returns-in-Err-clause-traced_part
returns-in-Err-clause-traced_part g c =
    let s = taped_with_deck c.args.deck.now c.args.taped.now in
    let first = option_and_then g.F.Sink.received c.args.outputs.now.trace.file in
    let text = traced (is_some c.args.outputs.now.trace.file) (trace_text c.args.limit s) in
    subst (λ each. AppendsPart first each text)
    (sym (ap (λ each. option_and_then g.F.Sink.received each) c.begin.ensures.file)) (nothing_yet first text)

pub returns-in-Err-clause-part : goal.returns-in-Err-clause-part
returns-in-Err-clause-part g c =
    let job = unattended c.args.limit (taped_with_deck c.args.deck.now c.args.taped.now) in
    record {
      paper = nothing_yet (g.W.Sink.received c.args.outputs.now.paper) (paper_text first_place job.lines);
      punch = nothing_yet (g.P.Sink.received c.args.outputs.now.punch) (cards_text job.cards);
    }

pub returns-in-Err-clause-why : goal.returns-in-Err-clause-why
returns-in-Err-clause-why g c =
    let paper = g.W.Sink.has_failed c.args.outputs.now.paper in
    let punch = g.P.Sink.has_failed c.args.outputs.now.punch in
    subst (λ (why : Broken). IsWhyUnwritten why paper paper punch punch) (sym c.in-Err.ensures.err) (refl, refl)

pub returns-in-Err-clause-why_untraced : goal.returns-in-Err-clause-why_untraced
returns-in-Err-clause-why_untraced g c =
    let old = failed_of g.F.Sink.has_failed c.args.outputs.now.trace.file in
    let new = failed_of g.F.Sink.has_failed c.begin.new.self.file in
    subst (λ (why : Broken). IsWhyUntraced why old new) (sym c.in-Err.ensures.err)
    (ap (λ each. failed_of g.F.Sink.has_failed each) c.begin.ensures.file)

pub returns-in-Err-run_stretch-clause-why : goal.returns-in-Err-run_stretch-clause-why
returns-in-Err-run_stretch-clause-why g c =
    let i = c.loop-stretch.invariant in
    let paper = g.W.Sink.has_failed c.run_stretch.new.outputs.paper in
    let punch = g.P.Sink.has_failed c.run_stretch.new.outputs.punch in
    subst (λ (old : Bool). IsWhyUnwritten c.in-Err-run_stretch.broken old paper
    (g.P.Sink.has_failed c.args.outputs.now.punch) punch) i.paper
    (subst (λ (old : Bool). IsWhyUnwritten c.in-Err-run_stretch.broken
    (g.W.Sink.has_failed c.loop-stretch.outputs.paper) paper old punch) i.punch c.in-Err-run_stretch.ensures.why)

pub returns-in-Err-run_stretch-clause-why_untraced : goal.returns-in-Err-run_stretch-clause-why_untraced
returns-in-Err-run_stretch-clause-why_untraced g c =
    subst (λ (old : Bool). IsWhyUntraced c.in-Err-run_stretch.broken old
    (failed_of g.F.Sink.has_failed c.run_stretch.new.outputs.trace.file)) c.loop-stretch.invariant.trace
    c.in-Err-run_stretch.ensures.why_untraced

pub returns-in-Err-clause-left_off : goal.returns-in-Err-clause-left_off
returns-in-Err-clause-left_off g c =
    (0, omega arith, no_step 0 refl (taped_with_deck c.args.deck.now c.args.taped.now))

pub returns-in-Err-run_stretch-clause-left_off : goal.returns-in-Err-run_stretch-clause-left_off
returns-in-Err-run_stretch-clause-left_off g c =
    let i = c.loop-stretch.invariant in
    let off = c.in-Err-run_stretch.ensures.left_off in (
      (c.args.limit - c.loop-stretch.left) + off.0,
      omega (arith, off.1, i.so_far.within),
      i.on off.0 ∙ off.2,
    )

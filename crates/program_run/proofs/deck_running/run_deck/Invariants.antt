-- What was written, and what the rest of the job writes, make the whole.
use Rattle.std.proofs.Common.{◌≡◌, ◌-◌}
use Rattle.job_runner.specs.Unattended.{taped_with_deck}
use Rattle.std.specs.Prelude.{is_some, option_and_then}
use Rattle.program_run.specs.RunDeck.{LeadsOn, failed_of, received}
use Rattle.program_run.specs.RunTrace.{seen_if}
use Rattle.program_run.proofs.TraceLemmas.{TraceSoFar}
use Rattle.program_run.proofs.StretchLemmas.{SoFar}
use Rattle.program_run.proofs.deck_running.run_deck.Given as goal

abbrev pub invariant-loop-stretch : goal.invariant-loop-stretch
invariant-loop-stretch g l = record {
  so_far : SoFar l.fn.limit l.left (taped_with_deck l.fn.deck l.fn.taped)
      (taped_with_deck l.deck l.taped)
      (received (g.W.Sink.received l.fn.outputs.paper) (g.P.Sink.received l.fn.outputs.punch))
      (received (g.W.Sink.received l.outputs.paper) (g.P.Sink.received l.outputs.punch)) l.place l.printed l.punched;
  on : LeadsOn (l.fn.limit - l.left) (taped_with_deck l.fn.deck l.fn.taped) (taped_with_deck l.deck l.taped);
  paper : g.W.Sink.has_failed l.outputs.paper ≡ g.W.Sink.has_failed l.fn.outputs.paper;
  punch : g.P.Sink.has_failed l.outputs.punch ≡ g.P.Sink.has_failed l.fn.outputs.punch;
  traced : TraceSoFar (is_some l.fn.outputs.trace.file) l.fn.limit l.left
      (taped_with_deck l.fn.deck l.fn.taped)
      (taped_with_deck l.deck l.taped)
      (option_and_then g.F.Sink.received l.fn.outputs.trace.file) (option_and_then g.F.Sink.received l.outputs.trace.file);
  seen : l.outputs.trace.before ≡ seen_if (is_some l.fn.outputs.trace.file) l.taped.machine;
  file : is_some l.outputs.trace.file ≡ is_some l.fn.outputs.trace.file;
  trace : failed_of g.F.Sink.has_failed l.outputs.trace.file ≡ failed_of g.F.Sink.has_failed l.fn.outputs.trace.file;
}

abbrev pub decreases-loop-stretch : goal.decreases-loop-stretch
decreases-loop-stretch g l = l.left

-- What is added, with the lines that are left added after it, is all of it.
use Rattle.std.proofs.Common.{◌≡◌, ◌++◌, drop}
use Rattle.job_runner.specs.Paper.{paper_text, place_beyond}
use Rattle.job_runner.proofs.paper.put_paper.Given as goal

abbrev pub invariant-loop-line : goal.invariant-loop-line
invariant-loop-line l = record {
  text : l.text.items ++ paper_text l.next (drop l.line-index l.lines)
      ≡ l.initial.text.items ++ paper_text l.fn.place l.lines;
  place : place_beyond l.next (drop l.line-index l.lines) ≡ place_beyond l.fn.place l.lines;
}

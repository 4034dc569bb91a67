-- Lines were done, and the result is what their end means.
use Rattle.program_operate.proofs.operating.answer_lines.Goals as goal

pub returns : goal.returns
returns g c = record {
  after = c.operate-operated.result.sitting;
  ended = c.operate-operated.result.end;
  faults = c.operate-operated.result.faults;
  lines = c.operate-operated.ensures.lines;
  kept = c.operate-operated.ensures.kept;
  lost = c.operate-operated.ensures.lost;
  source = c.operate-operated.ensures.source;
  result_is = c.outcome_of.ensures;
}

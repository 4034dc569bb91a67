-- A segment's cells are read again as they are written, so it is one of the machine's.
use Rattle.machine_image.proofs.SpellingLemmas.{is_segment_again}
use Rattle.machine_image.proofs.writing.put_segment.Goals as goal

pub returns-clause-cells : goal.returns-clause-cells
returns-clause-cells c = is_segment_again c.args.segment.now c.in_ok-put_cells.ensures.again

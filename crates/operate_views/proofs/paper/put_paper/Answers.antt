-- A line more is added.
use Rattle.std.proofs.Common.{◌+◌, drop}
use Rattle.std.specs.Prelude.{slice_get}
use Rattle.std.specs.List.{flat_map}
use Rattle.bytes_text.proofs.AddsLemmas.{adds_part}
use Rattle.operate_views.specs.Paper.{line_text, paper_text, printed_text}
use Rattle.operate_views.proofs.PaperLemmas.{line_more}
use Rattle.operate_views.proofs.paper.put_paper.Goals as goal

pub loop-at-preserved : goal.loop-at-preserved
loop-at-preserved c =
    let lines = c.args.devices.now.paper in
    let at = c.loop-at.at in
    adds_part c.args.text.now c.loop-at.text c.put_line_at.new.text (line_text (slice_get lines at))
    (flat_map printed_text (drop (at + 1) lines)) (flat_map printed_text (drop at lines))
    (paper_text c.args.most lines) (line_more lines at) c.loop-at.invariant c.put_line_at.ensures

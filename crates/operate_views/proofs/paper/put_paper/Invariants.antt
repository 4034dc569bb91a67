-- All lines but those that are left.
use Rattle.std.proofs.Common.{drop}
use Rattle.std.specs.List.{flat_map}
use Rattle.bytes_text.specs.Written.{AddsBut}
use Rattle.operate_views.specs.Paper.{paper_text, printed_text}
use Rattle.operate_views.proofs.paper.put_paper.Given as goal

abbrev pub invariant-loop-at : goal.invariant-loop-at
invariant-loop-at l =
    AddsBut l.initial.text l.text (flat_map printed_text (drop l.at l.devices.paper))
    (paper_text l.most l.devices.paper)

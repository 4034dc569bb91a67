-- All rows but those that are left.
use Rattle.std.proofs.Common.{◌+◌, ◌-◌, ◌/◌}
use Rattle.std.specs.List.{flat_map, range_with_len}
use Rattle.bytes_text.specs.Written.{AddsBut}
use Rattle.operate_views.specs.Ruler.{numbered_row, rows_text}
use Rattle.operate_views.proofs.ruler.put_core.Given as goal

abbrev pub invariant-loop-number : goal.invariant-loop-number
invariant-loop-number l =
    AddsBut l.initial.text l.text
    (flat_map (numbered_row l.core l.first l.end) (range_with_len l.number ((l.end + 49) / 50 - l.number)))
    (rows_text l.core l.first l.end)

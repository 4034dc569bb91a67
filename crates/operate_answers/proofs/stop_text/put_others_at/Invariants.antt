-- All but the breaks that are left.
use Rattle.std.proofs.Common.{drop}
use Rattle.bytes_text.specs.Written.{AddsBut}
use Rattle.operate_answers.specs.StopText.{others_text}
use Rattle.operate_answers.proofs.stop_text.put_others_at.Given as goal

abbrev pub invariant-loop-stop : goal.invariant-loop-stop
invariant-loop-stop l =
    AddsBut l.initial.text l.text (others_text l.number l.at (drop l.stop-index l.stops))
    (others_text l.number l.at l.stops)

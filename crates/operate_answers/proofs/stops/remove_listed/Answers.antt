-- Those stay that aren't listed.
use Rattle.std.proofs.Common.{rules, not}
use Rattle.std.proofs.lemmas.Fn.{filter_same}
use Rattle.operate_answers.specs.Stops.{is_listed}
use Rattle.operate_answers.specs.declared.stops.NumberedStop.{NumberedStop}
use Rattle.operate_answers.proofs.stops.remove_listed.Goals as goal

pub returns : goal.returns
returns c =
    filter_same _ (λ (stop : NumberedStop). not (is_listed c.args.numbers.now stop.number)) _
    (λ x b f' k. search rules) _ _ c.retain.ensures.filtered

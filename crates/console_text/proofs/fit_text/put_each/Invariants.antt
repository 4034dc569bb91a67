-- The words so far are those of the features so far.
use Rattle.std.proofs.Common.{◌≡◌, ◌++◌, take}
use Rattle.std.specs.List.{flat_map}
use Rattle.machine_tables.specs.Features.{feature_list}
use Rattle.console_text.specs.FitText.{word_if}
use Rattle.console_text.proofs.fit_text.put_each.Given as goal

abbrev pub invariant-loop-feature : goal.invariant-loop-feature
invariant-loop-feature l =
    l.text.items ≡ l.initial.text.items ++ flat_map (word_if l.features) (take l.feature-index feature_list)

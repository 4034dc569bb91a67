-- The reels that the values so far name are mounted.
use Rattle.std.proofs.Common.{ℕ, List, ◌++◌, map, take}
use Rattle.program_arguments.specs.Mounting.{AreMounted}
use Rattle.program_arguments.specs.Options.{Reads}
use Rattle.program_arguments.proofs.mounting.put_each.Given as goal

abbrev pub invariant-loop-value : goal.invariant-loop-value
invariant-loop-value l = Reads l.initial.faults.are_none l.faults.are_none ((texts : List (List ℕ))
    → AreMounted texts l.initial.reels.items
    → AreMounted (texts ++ map (λ each. each.now) (take l.value-index l.values)) l.reels.items)

use Rattle.std.proofs.Common.{length, ◌-◌, ◌≡◌, ◌≤◌, take}
use Rattle.room_files.proofs.rewriting.common_lines.Given as goal

-- as far as both are the same
abbrev pub invariant-loop-at : goal.invariant-loop-at
invariant-loop-at l =
    (l.common ≤ l.at) × (l.at ≤ length l.old) × (l.at ≤ length l.new) × (take l.at l.old ≡ take l.at l.new)
    × (take l.common l.old ≡ take l.common l.new)

-- proposed from the loop's first test
abbrev pub decreases-loop-at : goal.decreases-loop-at
decreases-loop-at l = length l.old - l.at

-- What is marked so far, or left to be marked, is what is among the numbers.
use Rattle.std.proofs.Common.{◌≡◌, ◌+◌, ◌≤◌, ◌==◌, ◌||◌, ℕ, false, drop, get_or, length}
use Rattle.std.specs.List.{list_any}
use Rattle.room_files.proofs.choosing.mark_numbers.Given as goal

abbrev pub invariant-loop-number : goal.invariant-loop-number
invariant-loop-number l =
    (length l.marks.items ≡ l.last + 1) × ((n : ℕ) → n ≤ l.last
    → (get_or l.marks.items n false || list_any (λ number. number == n) (drop l.number-index l.numbers))
    ≡ list_any (λ number. number == n) l.numbers)

-- The d-character that is kept, as contracts see it.
use Rattle.std.proofs.Common.{◌≡◌, ℕ, Bool, true, false, refl, ap}
use Rattle.std.specs.Prelude.{if◌then◌else◌}
use Rattle.cpu_1401.specs.Branch.{branch_if}
use Rattle.cpu_1401.specs.Chaining.{keeping_d}
use Rattle.cpu_1401.specs.State.{State}
use Rattle.cpu_1401.specs.declared.instruction.Instruction.{Instruction}

-- without the lengths it is seen as a blank, so keeping another one changes nothing
kept_is_seen : (lengths : Bool) (d before : ℕ)
    → (if lengths then d else 0) ≡ (if lengths then d else (if lengths then before else 0))
kept_is_seen true d before = refl
kept_is_seen false d before = refl

-- it may be kept before the branch
pub kept_before : (taken : Bool) (b : ℕ) (this : Instruction) (s : State) (d before : ℕ)
    → branch_if taken b this (record s { chained = if s.features.lengths then d else 0 })
    ≡ keeping_d d (branch_if taken b this (record s { chained = if s.features.lengths then before else 0 }))
kept_before true b this s d before =
    ap (λ (n : ℕ). record (branch_if true b this s) { chained = n }) (kept_is_seen s.features.lengths d before)
kept_before false b this s d before =
    ap (λ (n : ℕ). record (branch_if false b this s) { chained = n }) (kept_is_seen s.features.lengths d before)

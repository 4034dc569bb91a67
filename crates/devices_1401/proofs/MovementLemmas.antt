-- If nothing is pending, a print moves the carriage one line.
use Rattle.std.proofs.Common.{◌≡◌, ℕ, ◌+◌, ◌%◌, Option, Some, None, unwrap_or, ap, ◌∙◌}
use Rattle.devices_1401.specs.Carriage.{positions, position_after}
use Rattle.devices_1401.specs.Movement.{control_of, pending_of}
use Rattle.devices_1401.specs.declared.control.Movement.{Movement}
use Rattle.devices_1401.specs.declared.control.Movement.TheVariants.{SpaceBy}
use Rattle.devices_1401.specs.declared.control.Spaces.TheVariants.{One}

pub one_line : (pending : Option Movement) (movement : Movement) (from to : ℕ) → pending_of pending ≡ None → movement
    ≡ unwrap_or pending (SpaceBy One)
    → to ≡ position_after (control_of movement) from → to ≡ (from + 1) % positions
unfolding position_after
one_line None movement from to none e e_to = e_to ∙ ap (λ (m : Movement). position_after (control_of m) from) e
one_line (Some other) movement from to none e e_to = absurd cc

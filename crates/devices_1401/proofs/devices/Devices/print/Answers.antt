-- The movement is the pending one, or one space.
use Rattle.std.proofs.Common.{◌+◌, ◌%◌, ℕ, None, ap, ◌∙◌}
use Rattle.devices_1401.specs.Carriage.{Carriage, positions}
use Rattle.devices_1401.specs.Devices.{Devices}
use Rattle.devices_1401.proofs.MovementLemmas.{one_line}
use Rattle.devices_1401.proofs.devices.Devices.print.Goals as goal

pub returns-in-Ok-clause-count : goal.returns-in-Ok-clause-count
returns-in-Ok-clause-count c = λ none.
    let nothing = ap (λ (d : Devices). d.carriage.pending) c.self.view_is ∙ none in
    let further =
    one_line c.self.inside.pending c.unwrap_or-movement.result c.self.inside.position
    c.position_after-self-inside.result nothing c.unwrap_or-movement.ensures
    c.position_after-self-inside.ensures.value in
    let from = ap (λ (d : Devices). d.carriage.position) c.self.view_is in
    ap (λ (k : ℕ). let carriage : Carriage = record { position = k; pending = None } in carriage) (further
    ∙ ap (λ k. (k + 1) % positions) from)

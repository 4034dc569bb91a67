-- The card is that of the punch area.
use Rattle.std.proofs.Common.{true, ap, sym, ◌∙◌}
use Rattle.devices_1401.specs.Devices.{Devices, punched}
use Rattle.cpu_1401.specs.CardsAndPrinter.{with_devices, with_punch}
use Rattle.cpu_1401.specs.contracts.machine.Machine.{the_view}
use Rattle.cpu_1401.proofs.machine.Machine.punch.Goals as goal

pub returns-in-Ok : goal.returns-in-Ok
returns-in-Ok c =
    ap (λ (devices : Devices). with_devices devices (the_view c.self.inside))
    (c.in-Ok.ensures.devices ∙ ap (punched c.self.inside.devices) c.card_of-card.ensures)
    ∙ ap (with_punch true) c.self.view_is
    ∙ ap (λ punches. with_punch punches c.args.self.now) (sym c.if-request.true)

-- What a device holds (own).
use Rattle.std.specs.Prelude.{ℕ, length}
use Rattle.devices_1401.specs.Devices.{Devices}
use Rattle.operate_sitting.specs.declared.device_watch.Device.{Device}
use Rattle.operate_sitting.specs.declared.device_watch.Device.TheVariants as device

-- how many cards or printed lines a device holds
abbrev pub held_by : Device → Devices → ℕ
held_by device.Reader devices = length devices.hopper
held_by device.Punch devices = length devices.stacker
held_by device.Printer devices = length devices.paper

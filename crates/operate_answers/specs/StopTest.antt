-- What a break or a watch remembers, and whether the last step met it (own).
use Rattle.std.specs.Prelude.{◌==◌, ◌&&◌, Bool, false, not, if◌then◌else◌}
use Rattle.cpu_1401.specs.State.{State}
use Rattle.operate_sitting.specs.Breaks.{arrives, is_met_at, only_after}
use Rattle.operate_sitting.specs.DeviceWatch.{held_by}
use Rattle.operate_sitting.specs.PlaceWatch.{watch_begun, watch_seen}
use Rattle.operate_sitting.specs.declared.breaks.Break.{Break}
use Rattle.operate_sitting.specs.declared.device_watch.DeviceWatch.{DeviceWatch}
use Rattle.operate_answers.specs.Asked.{is_asked}
use Rattle.operate_answers.specs.declared.asked.Asked.{Asked}
use Rattle.operate_answers.specs.declared.stop_test.StopTest.{StopTest}
use Rattle.operate_answers.specs.declared.stop_test.StopTest.TheVariants as test

-- a break as a search begins, and after a step, if its condition holds there or not
abbrev pub break_begun : {C : Type 0} → Break C → Break C
break_begun it = record it { is_met = false }

abbrev pub break_seen : {C : Type 0} → Bool → Break C → State → Break C
break_seen is_so it s = let there = arrives it.address is_so s in
    record it { only = if there then only_after it.only else it.only; is_met = there && is_met_at it.only }

-- a watch on a device as a search begins, and after a step
abbrev pub device_begun : DeviceWatch Asked → State → DeviceWatch Asked
device_begun it s = record it { held = held_by it.device s.devices; is_met = false }

abbrev pub device_seen : DeviceWatch Asked → State → DeviceWatch Asked
device_seen it s = let held = held_by it.device s.devices in
    record it { held = held; is_met = not (held == it.held) && is_asked it.condition s }

-- what a test remembers as a search begins
abbrev pub test_begun : StopTest → State → StopTest
test_begun (test.Arrival it) s = test.Arrival (break_begun it)
test_begun (test.Places it) s = test.Places (watch_begun it s.storage)
test_begun (test.Device it) s = test.Device (device_begun it s)

-- what it remembers after a step
abbrev pub test_seen : StopTest → State → StopTest
test_seen (test.Arrival it) s = test.Arrival (break_seen (is_asked it.condition s) it s)
test_seen (test.Places it) s = test.Places (watch_seen it s.storage)
test_seen (test.Device it) s = test.Device (device_seen it s)

-- whether the last step met it
abbrev pub is_test_met : StopTest → Bool
is_test_met (test.Arrival it) = it.is_met
is_test_met (test.Places it) = it.is_met
is_test_met (test.Device it) = it.is_met

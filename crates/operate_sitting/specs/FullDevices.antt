-- When an operator has to go to the devices (own).
use Rattle.std.specs.Prelude.{◌==◌, ◌&&◌, ◌||◌, Bool, length}
use Rattle.devices_1401.specs.Devices.{Devices, is_full}

-- the paper or the stacker is full, or the hopper is empty while there are more cards
abbrev pub wants_hands : Bool → Devices → Bool
wants_hands has_more_cards devices =
    is_full devices.paper || is_full devices.stacker || has_more_cards && (length devices.hopper == 0)

-- The machine as plain data, and as it is at power-on (own: all off and empty).
use Rattle.std.specs.Prelude.{ℕ, ◌<◌, ◌≤◌, Bool, false, List, length, replicate, slice_set, if◌then◌else◌}
use Rattle.bcd_1401.specs.declared.cell.Cell.{Cell}
use Rattle.core_1401.specs.Address.{addresses}
use Rattle.core_1401.specs.Storage.{Storage, blanks}
use Rattle.devices_1401.specs.Carriage.{form_of, line_of, forms, lines_of_form}
use Rattle.devices_1401.specs.Devices.{Devices, no_cards, most_held}
use Rattle.machine_tables.specs.Features.{no_features}
use Rattle.machine_tables.specs.declared.features.Features.{Features}
use Rattle.machine_tables.specs.declared.regs.Regs.{Regs}

-- Storage by address, the I, A and B registers, the indicators, the sense switches A to G, and the devices. Then what
-- the machine is fitted with, and the d-character by which a branch of one character goes on.
pub record State : Type 0 where
  pub storage : Storage
  pub i : ℕ
  pub a : ℕ
  pub b : ℕ
  pub unequal : Bool
  pub low : Bool
  pub high : Bool
  pub overflow : Bool
  pub switches : List Bool
  pub devices : Devices
  pub features : Features
  pub chained : ℕ

-- the machine at power-on, with core storage of this size
abbrev pub power_on : ℕ → State
power_on size = record {
  storage = blanks size;
  i = 0;
  a = 0;
  b = 0;
  unequal = false;
  low = false;
  high = false;
  overflow = false;
  switches = replicate 7 false;
  devices = no_cards;
  features = no_features;
  chained = 0;
}

-- the machine fitted with these features and no others: only one with the lengths keeps a d-character
abbrev pub fitted_with : Features → State → State
fitted_with features s = record s { features = features; chained = if features.lengths then s.chained else 0 }

-- what an operator reads from the machine beside its storage
abbrev pub regs_of : State → Regs
regs_of s = record {
  i = s.i;
  a = s.a;
  b = s.b;
  unequal = s.unequal;
  low = s.low;
  high = s.high;
  overflow = s.overflow;
  switches = s.switches;
  hopper = length s.devices.hopper;
  stacker = length s.devices.stacker;
  paper = length s.devices.paper;
  form = form_of s.devices.carriage;
  line = line_of s.devices.carriage;
}

-- The registers hold addresses, no more cards and lines are there than fit, and the form and the line are those of a
-- carriage.
pub record IsInRange (regs : Regs) : Type 0 where
  pub i : regs.i < addresses
  pub a : regs.a < addresses
  pub b : regs.b < addresses
  pub hopper : regs.hopper ≤ most_held
  pub stacker : regs.stacker ≤ most_held
  pub paper : regs.paper ≤ most_held
  pub form : regs.form < forms
  pub first_line : 1 ≤ regs.line
  pub last_line : regs.line ≤ lines_of_form

-- a sense switch turned on or off: 0 is A, 6 is G
abbrev pub with_switch : State → ℕ → Bool → State
with_switch s n on = record s { switches = slice_set s.switches n on }

-- another cell at a place
abbrev pub with_cell : State → ℕ → Cell → State
with_cell s at cell = record s { storage = slice_set s.storage at cell }

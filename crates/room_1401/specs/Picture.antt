-- What a picture shows of the machine (own).
use Rattle.std.specs.Prelude.{ℕ, List, length}
use Rattle.devices_1401.specs.Devices.{last_punched, next_card}
use Rattle.cpu_1401.specs.CardsAndPrinter.{card_at, read_area}
use Rattle.cpu_1401.specs.Fetched.{next_instruction}
use Rattle.cpu_1401.specs.State.{State, regs_of}
use Rattle.cpu_1401.specs.CarryOut.{examined}
use Rattle.room_alone.specs.declared.entry.SeatedCommand.{SeatedCommand}
use Rattle.room_1401.specs.declared.picture.Picture.{Picture}
use Rattle.room_1401.specs.declared.picture.Window.{Window}
use Rattle.room_1401.specs.Paper.{lines_from}
use Rattle.room_alone.specs.Replay.{replay}

-- how many places of core storage a picture shows
abbrev pub window_cells : ℕ
window_cells = 600

-- the picture of a machine after this number of commands
abbrev pub picture_of : State → ℕ → Window → Picture
picture_of s after window = record {
  after = after;
  size = length s.storage;
  regs = regs_of s;
  next = next_instruction s;
  read = card_at s.storage read_area;
  hopper = next_card s.devices;
  punched = last_punched s.devices;
  core = window.core;
  cells = examined s.storage window.core window_cells;
  paper = window.paper;
  lines = lines_from s.devices.paper window.paper;
}

-- the picture after these commands
abbrev pub picture_after : ℕ → List SeatedCommand → Window → Picture
picture_after size pairs window = picture_of (replay size pairs) (length pairs) window

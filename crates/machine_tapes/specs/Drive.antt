-- Tape units: the reel on each, and what the machine asks of it (A24-1403, "Magnetic Tape", from memory; own is a reel
-- without room in place of none).
use Rattle.std.specs.Prelude.{Bool, true, false, []}
use Rattle.machine_tapes.specs.Reel.{Reel, mounted}
use Rattle.machine_tapes.specs.declared.drive.Drive.{Drive}

-- a unit without a reel
abbrev pub no_reel : Drive
no_reel = record { reel = mounted [] 0; has_ring = false; is_ready = false; latch = false }

-- a unit on which this reel was put, with a ring that allows writing or without it
abbrev pub mounted_on : Reel → Bool → Drive
mounted_on reel has_ring = record { reel = reel; has_ring = has_ring; is_ready = true; latch = false }

-- What a tape instruction does to the machine and to its unit (A24-1403, "Magnetic Tape", from memory; the refusals, and
-- that the A register stays, are own).
use Rattle.std.specs.Prelude.{ℕ, ◌+◌, ◌==◌, ◌&&◌, ◌||◌, nat_le, Bool, false, List, [], ◌∷◌, length, take, drop, Option, None}
use Rattle.std.specs.Prelude.{Some, Result, Ok, Err, position, slice_get, slice_set, if◌then◌else◌}
use Rattle.bcd_1401.specs.declared.cell.Cell.{Cell}
use Rattle.core_1401.specs.Storage.{Storage, cell_at, is_in_core}
use Rattle.machine_tables.specs.declared.stop.Stop.{Stop}
use Rattle.machine_tables.specs.declared.stop.Stop.TheVariants as stop
use Rattle.fields_1401.specs.Records.{above_by, group_mark}
use Rattle.machine_tapes.specs.Reel.{Reel, after_backspace, after_pass, after_rewind, after_write, room_in, tape_mark}
use Rattle.cpu_1401.specs.State.{State}
use Rattle.machine_tapes.specs.TapeText.{cells_read, ends_file, text_of}
use Rattle.machine_tapes.specs.declared.drive.Drive.{Drive}
use Rattle.machine_tapes.specs.declared.work.TapeInstruction.{TapeInstruction}
use Rattle.machine_tapes.specs.declared.work.TapeMode.{TapeMode}
use Rattle.machine_tapes.specs.declared.work.TapeMode.TheVariants.{Move, Load}
use Rattle.machine_tapes.specs.declared.work.TapeWork.{TapeWork}
use Rattle.machine_tapes.specs.declared.work.TapeWork.TheVariants as work

-- the machine and the unit afterwards, or why the instruction can't be carried out
abbrev pub TapeOutcome : Type 0
TapeOutcome = Result (State × Drive) Stop

-- the machine and the unit after an outcome, and why the instruction can't be carried out, if it can't: then both are as
-- they were
abbrev pub machine_after : TapeOutcome → State → State
machine_after (Ok done) s = done.0
machine_after (Err why) s = s

abbrev pub drive_after : TapeOutcome → Drive → Drive
drive_after (Ok done) drive = done.1
drive_after (Err why) drive = drive

abbrev pub stop_after : TapeOutcome → Option Stop
stop_after (Ok done) = None
stop_after (Err why) = Some why

-- whether a cell ends a record in core: it is a group mark with a word mark
abbrev pub ends_record : Cell → Bool
ends_record cell = (cell.char == group_mark) && cell.mark

-- how many cells there are from a place up before the first that ends a record; none if none does in core
abbrev pub record_len_at : Storage → ℕ → Option ℕ
record_len_at storage at = position ends_record (drop at storage)

-- the cells from b up, of this number, written as a record
abbrev pub write_cells : TapeMode → TapeInstruction → State → Drive → ℕ → TapeOutcome
write_cells how this s drive n =
    let text = text_of how this.unit.is_odd (take n (drop this.b s.storage)) in
    if n == 0 then Err stop.Address
    else (if nat_le (length text) (room_in drive.reel)
    then Ok (record s { i = this.next; b = above_by this.b (n + 1) }, record drive { reel = after_write drive.reel text })
    else Err stop.Tape)

abbrev pub write_by : TapeMode → TapeInstruction → State → Drive → Option ℕ → TapeOutcome
write_by how this s drive None = Err stop.Address
write_by how this s drive (Some n) = write_cells how this s drive n

-- a record written from b
abbrev pub write_from : TapeMode → TapeInstruction → State → Drive → TapeOutcome
write_from how this s drive = write_by how this s drive (record_len_at s.storage this.b)

-- a cell of a record put where another is: a move leaves the word mark that is there
abbrev pub read_into : TapeMode → Cell → Cell → Cell
read_into Move there cell = record there { char = cell.char }
read_into Load there cell = cell

-- what is put after the last cell of a record
abbrev pub end_cell : Cell
end_cell = record { char = group_mark; mark = false }

-- storage with a cell of a record put at a place
abbrev pub with_read : TapeMode → Storage → ℕ → Cell → Storage
with_read how storage at cell = slice_set storage at (read_into how (cell_at storage at) cell)

-- The cells of a record put at a place and those above it, up to the first place that ends a record, where the rest is
-- lost, or to the place after the last, where a group mark is put: storage afterwards, and that place. None if one of
-- the places isn't in core.
abbrev pub read_to : TapeMode → Storage → ℕ → List Cell → Option (Storage × ℕ)
read_to how storage at [] =
    if is_in_core storage at then Some (if ends_record (cell_at storage at) then (storage, at)
    else (with_read how storage at end_cell, at))
    else None
read_to how storage at (cell ∷ cells) =
    if is_in_core storage at then (if ends_record (cell_at storage at) then Some (storage, at)
    else read_to how (with_read how storage at cell) (at + 1) cells)
    else None

-- the machine after a record was put, and whether the record ends a file
abbrev pub after_put : TapeInstruction → List ℕ → State → Option (Storage × ℕ) → Result (State × Bool) Stop
after_put this chars s None = Err stop.Address
after_put this chars s (Some done) =
    Ok (record s { storage = done.0; i = this.next; b = above_by done.1 1 }, ends_file this.unit.is_odd chars)

abbrev pub copied_by : TapeMode → TapeInstruction → State → Option (List ℕ) → Result (State × Bool) Stop
copied_by how this s None = Err stop.Tape
copied_by how this s (Some chars) =
    after_put this chars s (read_to how s.storage this.b (cells_read how this.unit.is_odd chars))

-- the next record of a reel copied to b
abbrev pub copied : TapeMode → TapeInstruction → State → Reel → Result (State × Bool) Stop
copied how this s reel = copied_by how this s (slice_get reel.ahead 0)

-- and passed: the latch goes on if it ends a file
abbrev pub after_copy : Drive → Result (State × Bool) Stop → TapeOutcome
after_copy drive (Ok done) = Ok (done.0, record drive { reel = after_pass drive.reel; latch = drive.latch || done.1 })
after_copy drive (Err why) = Err why

-- the next record read to b
abbrev pub read_next : TapeMode → TapeInstruction → State → Drive → TapeOutcome
read_next how this s drive = after_copy drive (copied how this s drive.reel)

-- a tape mark written
abbrev pub write_mark : TapeInstruction → State → Drive → TapeOutcome
write_mark this s drive =
    if nat_le 1 (room_in drive.reel)
    then Ok (record s { i = this.next }, record drive { reel = after_write drive.reel tape_mark })
    else Err stop.Tape

-- what a unit with a ring does, and what is refused without one
abbrev pub if_ring : Drive → TapeOutcome → TapeOutcome
if_ring drive outcome = if drive.has_ring then outcome else Err stop.Tape

-- what is asked of a unit that is ready
abbrev pub work_ready : TapeWork → TapeInstruction → State → Drive → TapeOutcome
work_ready (work.Read how) this s drive = read_next how this s drive
work_ready (work.Write how) this s drive = if_ring drive (write_from how this s drive)
work_ready work.Backspace this s drive =
    Ok (record s { i = this.next }, record drive { reel = after_backspace drive.reel })
work_ready work.Erase this s drive = if_ring drive (Ok (record s { i = this.next }, drive))
work_ready work.WriteMark this s drive = if_ring drive (write_mark this s drive)
work_ready work.Rewind this s drive = Ok (record s { i = this.next }, record drive { reel = after_rewind drive.reel })
work_ready work.Unload this s drive =
    Ok (
      record s { i = this.next },
      record drive { reel = after_rewind drive.reel; is_ready = false; latch = false },
    )

-- what is asked of a unit
unfoldable pub work_at : TapeInstruction → State → Drive → TapeOutcome
work_at this s drive = if drive.is_ready then work_ready this.work this s drive else Err stop.Tape

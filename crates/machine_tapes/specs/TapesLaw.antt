-- What holds of every run with tape units, and of records that are read again (own).
use Rattle.std.specs.Prelude.{◌≡◌, ℕ, ◌+◌, ◌<◌, ◌≤◌, ◌==◌, ◌&&◌, ◌||◌, not, Bool, true, false, List, ◌∷◌, length, map}
use Rattle.std.specs.Prelude.{slice_index_or}
use Rattle.std.specs.List.{list_all}
use Rattle.bcd_1401.specs.declared.cell.Cell.{Cell}
use Rattle.core_1401.specs.Storage.{cell_at}
use Rattle.machine_tapes.specs.Reel.{after_write, room_in}
use Rattle.cpu_1401.specs.Run.{run_for}
use Rattle.cpu_1401.specs.State.{State}
use Rattle.machine_tapes.specs.TapeText.{cells_read, even_blank, separator, text_of}
use Rattle.machine_tapes.specs.TapedRun.{finished_with, taped_run_for}
use Rattle.machine_tapes.specs.TapedStep.{without_reels}
use Rattle.machine_tapes.specs.Tapes.{no_tapes}
use Rattle.machine_tapes.specs.Transfer.{drive_after, ends_record, machine_after, work_at}
use Rattle.machine_tapes.specs.declared.drive.Drive.{Drive}
use Rattle.machine_tapes.specs.declared.work.TapeInstruction.{TapeInstruction}
use Rattle.machine_tapes.specs.declared.work.TapeMode.TheVariants.{Move, Load}
use Rattle.machine_tapes.specs.declared.work.TapeWork.TheVariants as work

-- Whether a cell that a load writes is read as the same: it is no word separator without a word mark, nor in even parity
-- the character that is read as a blank.
abbrev pub is_kept_by_load : Bool → Cell → Bool
is_kept_by_load is_odd cell =
    (cell.mark || not (cell.char == separator)) && (is_odd || not (cell.char == even_blank))

-- a cell without its word mark
abbrev pub unmarked : Cell → Cell
unmarked cell = record cell { mark = false }

-- A move in odd parity reads the record of these characters from one reel into an area as long as the record, and another
-- writes from there to the other reel. The area is followed by a group mark with a word mark, and has none itself, before
-- the record is read or after.
pub record IsCopied (s : State) (reads writes : TapeInstruction) (from to : Drive) (chars : List ℕ)
    (beyond : List (List ℕ)) : Type 0 where
  pub reading : reads.work ≡ work.Read Move
  pub writing : writes.work ≡ work.Write Move
  pub reads_odd : reads.unit.is_odd ≡ true
  pub writes_odd : writes.unit.is_odd ≡ true
  pub area : writes.b ≡ reads.b
  pub from_ready : from.is_ready ≡ true
  pub to_ready : to.is_ready ≡ true
  pub ring : to.has_ring ≡ true
  pub ahead : from.reel.ahead ≡ chars ∷ beyond
  pub some : 0 < length chars
  pub room : length chars ≤ room_in to.reel
  pub inside : reads.b + length chars < length s.storage
  pub before : (k : ℕ) → k < length chars → ends_record (cell_at s.storage (reads.b + k)) ≡ false
  pub after : (k : ℕ) → k < length chars
      → ends_record (record (cell_at s.storage (reads.b + k)) { char = slice_index_or chars k 0 }) ≡ false
  pub end : ends_record (cell_at s.storage (reads.b + length chars)) ≡ true

-- Without a reel a run is that of the machine alone. A load reads again what a load has written, but for a word separator
-- without a word mark and, in even parity, the A bit alone; a move reads again what a move has written in odd parity, but
-- for the word marks. A record that is copied from one reel is the same on the other.
pub record TapesLaw : Type 0 where
  pub without_reels : (limit : ℕ) (s : State)
      → taped_run_for limit (without_reels s) ≡ finished_with no_tapes (run_for limit s)
  pub load_again : (is_odd : Bool) (cells : List Cell) → list_all (is_kept_by_load is_odd) cells ≡ true
      → cells_read Load is_odd (text_of Load is_odd cells) ≡ cells
  pub move_again : (cells : List Cell) → cells_read Move true (text_of Move true cells) ≡ map unmarked cells
  pub copies : (s : State) (reads writes : TapeInstruction) (from to : Drive) (chars : List ℕ) (beyond : List (List ℕ))
      → IsCopied s reads writes from to chars beyond
      → drive_after (work_at writes (machine_after (work_at reads s from) s) to) to
      ≡ record to { reel = after_write to.reel chars }

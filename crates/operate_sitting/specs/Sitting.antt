-- What contracts see of a sitting (own): its room with the keeper, and the notes on its journal.
use Rattle.std.specs.Prelude.{ℕ, ◌==◌, false, not, List, Option, length}
use Rattle.cpu_1401.specs.State.{State}
use Rattle.devices_1401.specs.declared.card.Card.{Card}
use Rattle.machine_commands.specs.declared.command.Command.{Command}
use Rattle.room_alone.specs.Account.{Account}
use Rattle.room_alone.specs.Journal.{state_of}
use Rattle.room_alone.specs.Kept.{KeptAccount}
use Rattle.room_alone.specs.declared.entry.Entry.{Entry}
use Rattle.operate_sitting.specs.declared.full_devices.FullDevices.{FullDevices}
use Rattle.operate_sitting.specs.declared.again.BackFault.{BackFault}
use Rattle.operate_sitting.specs.declared.again.BackFault.TheVariants as back
use Rattle.operate_sitting.specs.Back.{whole_of}
use Rattle.operate_sitting.specs.declared.earlier.Origin.{Origin}
use Rattle.operate_sitting.specs.declared.earlier.PastFault.{PastFault}
use Rattle.operate_sitting.specs.declared.earlier.PastFault.TheVariants as past
use Rattle.operate_sitting.specs.declared.notes.Mark.{Mark}
use Rattle.operate_sitting.specs.Notes.{Noted, cards_before, cards_by, end_at, hand_of, lines_in, undo_place}
use Rattle.operate_sitting.specs.Tending.{tending}

pub record SittingAccount : Type 0 where
  pub account : KeptAccount
  pub notes : Noted

abbrev pub journal_of : SittingAccount → List Entry
journal_of it = it.account.room.journal

-- the machine, which the journal explains
abbrev pub machine_of : SittingAccount → State
machine_of it = state_of it.account.room.size it.account.room.journal

-- the devices are looked at after each step, with these cards in hand
abbrev pub watching : List Card → FullDevices
watching hand = record { has_more_cards = not (length hand == 0); is_met = false }

-- what is done at the devices
abbrev pub tending_of : SittingAccount → List Command
tending_of it = tending (machine_of it).devices (hand_of it.notes)

-- the end of its journal
abbrev pub now_at : SittingAccount → Mark
now_at it = end_at (length (journal_of it)) it.notes

-- how many lines have done something
abbrev pub lines_of : SittingAccount → ℕ
lines_of it = length (lines_in (now_at it) it.notes.marks)

-- where the first of the last lines began, this many, that have done something
abbrev pub undone_at : ℕ → SittingAccount → Option Mark
undone_at lines it = undo_place lines (now_at it) it.notes.marks

-- how many cards had come into the hand before the instructions that are taken back, this many
abbrev pub cards_back : ℕ → SittingAccount → ℕ
cards_back instructions it = cards_by (whole_of instructions (journal_of it)) it.notes.marks (length it.notes.deck)

-- how many cards came with the program
abbrev pub cards_loaded : SittingAccount → ℕ
cards_loaded it = cards_before it.notes.marks (length it.notes.deck)

-- why a sitting can't go back if a room can't
abbrev pub past_fault : BackFault → PastFault
past_fault back.Memory = past.Memory
past_fault back.TooFew = past.TooFew
past_fault back.Interrupted = past.Interrupted

-- what contracts see of an earlier room: the room, and where its journal comes from
pub record EarlierAccount : Type 0 where
  pub room : Account
  pub origin : Origin

-- The first line, and those of the entries so far.
use Rattle.std.proofs.Common.{◌++◌, [], true, take}
use Rattle.bytes_text.specs.Written.{Adds}
use Rattle.room_files.specs.JournalText.{entries_text, header_text}
use Rattle.room_files.proofs.writing.write_journal.Given as goal

abbrev pub invariant-loop-i : goal.invariant-loop-i
invariant-loop-i l =
    Adds (record { items = []; is_whole = true }) l.text
    (header_text l.size ++ entries_text 1 (take l.i l.journal))

-- So far the text is that of the room's journal, and if it is a journal's it goes on from there.
use Rattle.std.proofs.Common.{length}
use Rattle.room_files.proofs.ReadsLemmas.{Reads}
use Rattle.room_files.proofs.reading.recover_journal.Given as goal

abbrev pub invariant-lines : goal.invariant-lines
invariant-lines l = Reads l.text l.room.size l.room.journal l.rest

abbrev pub decreases-lines : goal.decreases-lines
decreases-lines l = length l.rest

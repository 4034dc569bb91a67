-- The room that carried out the first commands has the first entries.
use Rattle.std.proofs.Common.{◌≡◌, ◌++◌, List, take, ap, ◌∙◌, length}
use Rattle.room_alone.specs.Journal.{pairs_of}
use Rattle.room_alone.specs.declared.entry.Entry.{Entry}
use Rattle.operate_sitting.proofs.FirstEntriesLemmas.{first_entries}
use Rattle.operate_sitting.proofs.again.carry_entries.Goals as goal

pub returns-in-Ok-carry_again-clause-journal : goal.returns-in-Ok-carry_again-clause-journal
returns-in-Ok-carry_again-clause-journal g c =
    let journal = c.args.room.now.journal in
    let new = c.carry_again.new.room in
    let entries : List Entry = c.first_entries-entries.result.now in
    let size : new.size ≡ c.args.room.now.size =
    c.in-Ok-carry_again.ensures.size
    ∙ c.in-Ok.ensures.size
    ∙ c.size.ensures.value
    ∙ ap length c.core.ensures
    ∙ c.machine.ensures.size in
    let are : pairs_of new.journal ≡ pairs_of (take c.args.count journal) =
    c.in-Ok-carry_again.ensures.commands
    ∙ ap (λ (none : List Entry). pairs_of none ++ pairs_of entries) c.in-Ok.ensures.journal
    ∙ ap pairs_of c.first_entries-entries.ensures
    ∙ ap (λ (all : List Entry). pairs_of (take c.args.count all)) c.journal.ensures.journal in
    first_entries c.args.room.now.size new.size c.args.count journal new.journal size c.journal.ensures.legal
    c.journal-legal.ensures.legal are

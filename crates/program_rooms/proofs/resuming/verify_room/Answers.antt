-- A journal's text begins with its first line.
use Rattle.std.proofs.Common.{◌≡◌, ℕ, List, ◌++◌, append-nil, sym, ap, ◌∙◌, rules}
use Rattle.room_alone.specs.Kept.{lines_by}
use Rattle.room_files.specs.JournalText.{entry_text, header_text}
use Rattle.program_rooms.proofs.resuming.verify_room.Goals as goal

pub verify_journal-requires-clause-head :
    goal.verify_journal-requires-clause-head
verify_journal-requires-clause-head g c =
    let lines : List ℕ = lines_by entry_text 1 c.args.taken.room.journal in
    let same : c.size-size.result ≡ c.args.taken.room.size = search rules in (
      lines,
      c.requires.text
          ∙ ap (λ size. header_text size ++ lines) (sym same)
          ∙ ap (λ head. head ++ lines) (sym (append-nil (header_text c.size-size.result))),
    )

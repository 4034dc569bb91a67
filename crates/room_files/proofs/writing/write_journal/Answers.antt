-- One line more.
use Rattle.std.proofs.Common.{◌+◌, ◌++◌, [], true, sym, subst, ◌∙◌, take, arith, append_assoc, ap, ℕ, List}
use Rattle.bytes_text.specs.Written.{Adds, Written}
use Rattle.bytes_text.proofs.AddsLemmas.{adds}
use Rattle.room_files.specs.JournalText.{entries_text, entry_text, header_text}
use Rattle.room_files.proofs.TextLemmas.{lines_by-take}
use Rattle.room_files.proofs.writing.write_journal.Goals as goal

pub loop-i-preserved : goal.loop-i-preserved
loop-i-preserved c =
    let journal = c.args.journal.now in
    let i = c.loop-i.i in
    let entry = c.index-journal-i.result in
    let line : List ℕ = entry_text (i + 1) entry in
    let head : List ℕ = header_text c.args.size in
    let empty : Written = record { items = []; is_whole = true } in
    subst (λ (text : List ℕ). Adds empty c.put_entry.new.text text)
    (append_assoc head (entries_text 1 (take i journal)) line
    ∙ ap (λ (text : List ℕ). head ++ text)
    (sym (lines_by-take entry_text journal i entry (omega arith) c.index-journal-i.is)))
    (adds empty c.loop-i.text c.put_entry.new.text _ line c.loop-i.invariant c.put_entry.ensures)

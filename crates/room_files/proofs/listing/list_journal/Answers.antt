-- One entry more.
use Rattle.std.proofs.Common.{◌+◌, [], true, sym, subst, arith, ℕ, List}
use Rattle.bytes_text.specs.Written.{Adds, Written}
use Rattle.bytes_text.proofs.AddsLemmas.{adds}
use Rattle.room_files.specs.Listing.{listed}
use Rattle.room_files.proofs.TextLemmas.{lines_by-take}
use Rattle.room_files.proofs.listing.list_journal.Goals as goal

pub loop-i-preserved : goal.loop-i-preserved
loop-i-preserved c =
    let i = c.loop-i.i in
    let entry = c.index-journal-i.result in
    let empty : Written = record { items = []; is_whole = true } in
    subst (λ (text : List ℕ). Adds empty c.put_listed.new.text text)
    (sym (lines_by-take (listed c.args.view) c.args.journal.now i entry (omega arith) c.index-journal-i.is))
    (adds empty c.loop-i.text c.put_listed.new.text _ (listed c.args.view (i + 1) entry)
    c.loop-i.invariant c.put_listed.ensures)

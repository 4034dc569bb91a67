-- One line more, and the end of the lines.
use Rattle.std.proofs.Common.{◌≡◌, ℕ, true, List, subst, sym, ◌∙◌}
use Rattle.core_1401.specs.Storage.{is_core_size}
use Rattle.room_alone.specs.declared.entry.Entry.{Entry}
use Rattle.room_alone.specs.Journal.{IsLegal}
use Rattle.room_files.specs.Reading.IsReached.{at_header}
use Rattle.room_files.proofs.ReadsLemmas.{Reads, first_line, memory_alone, memory_first, next_line, refused_line}
use Rattle.room_files.proofs.ReadsLemmas.{shorter, start, that_journal}
use Rattle.room_files.proofs.reading.recover_journal.Goals as goal

pub returns-in-Err-clause-memory : goal.returns-in-Err-clause-memory
returns-in-Err-clause-memory c =
    λ size journal rest is. memory_first c.args.text.now c.in-Err.why size journal rest c.in-Err.ensures.err is

pub returns-in_default-clause-fault : goal.returns-in_default-clause-fault
returns-in_default-clause-fault c =
    let text = c.args.text.now in
    at_header text (first_line text c.in-Ok.header.0 c.in-Ok.header.1.now c.in-Ok.ensures.ok)

pub lines-init : goal.lines-init
lines-init c =
    let text = c.args.text.now in
    let rest = c.in-Ok.header.1.now in
    let size = c.in-Ok-power_on.ensures.size in
    let empty = c.in-Ok-power_on.ensures.journal in
    let core = subst (λ (n : ℕ). is_core_size n ≡ true) size c.machine-machine.ensures.core in
    subst (λ (n : ℕ). Reads text n c.in-Ok-power_on.room.journal rest) (sym size)
    (subst (λ (journal : List Entry). Reads text c.in-Ok.header.0 journal rest) (sym empty)
    (start text c.in-Ok.header.0 rest core c.in-Ok.ensures.ok))

pub lines-smaller : goal.lines-smaller
lines-smaller c =
    shorter c.lines.room.size c.lines.room.journal c.lines.rest.now c.read_entry.new.room.journal
    c.in-Ok-read_entry.beyond.now c.in-Ok-read_entry.ensures.read

pub lines-preserved : goal.lines-preserved
lines-preserved c =
    let text = c.args.text.now in
    let some = sym c.has_line.ensures ∙ c.lines-test.true in
    let next = c.read_entry.new.room in
    let beyond = c.in-Ok-read_entry.beyond.now in
    let same = c.read_entry.ensures.size in
    let legal = subst (λ (n : ℕ). IsLegal n next.journal) same c.read_entry.ensures.legal in
    subst (λ (n : ℕ). Reads text n next.journal beyond) (sym same)
    (next_line text c.lines.room.size c.lines.room.journal c.lines.rest.now next.journal beyond c.lines.invariant some
    c.in-Ok-read_entry.ensures.read legal c.read_entry.ensures.bound)

pub returns-in-Err-read_entry-clause-memory : goal.returns-in-Err-read_entry-clause-memory
returns-in-Err-read_entry-clause-memory c = λ size journal rest is.
    let some = sym c.has_line.ensures ∙ c.lines-test.true in
    memory_alone c.args.text.now c.lines.room.size c.lines.room.journal c.lines.rest.now size journal rest
    c.in-Err-read_entry.why c.lines.invariant some is c.in-Err-read_entry.ensures.why

pub returns-in-Err-read_entry-clause-fault : goal.returns-in-Err-read_entry-clause-fault
returns-in-Err-read_entry-clause-fault c =
    let some = sym c.has_line.ensures ∙ c.lines-test.true in
    refused_line c.args.text.now c.lines.room.size c.lines.room.journal c.lines.rest.now c.line_due-line.result
    c.in-Err-read_entry.why c.lines.invariant some c.line_due-line.ensures c.in-Err-read_entry.ensures.why

pub returns-clause-again : goal.returns-clause-again
returns-clause-again c = λ size journal rest is.
    let none = sym c.has_line.ensures ∙ c.lines-test.false in
    that_journal c.args.text.now c.lines.room.size c.lines.room.journal c.lines.rest.now size journal rest
    c.lines.invariant none is

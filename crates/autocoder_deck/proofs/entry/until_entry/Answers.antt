-- No instruction is left, and the machine isn't at its entry.
use Rattle.std.proofs.Common.{rules, ◌≡◌, ◌∙◌, false, sym, subst, arith}
use Rattle.std.specs.Prelude.{Err}
use Rattle.job_runner.specs.Unattended.{taped_with_deck}
use Rattle.machine_tables.specs.declared.stop.Stop.TheVariants as stop
use Rattle.autocoder_deck.specs.Entry.{IsWhyUnloaded, is_at_entry, none_carried, stopped, until_entry}
use Rattle.autocoder_deck.proofs.EntryLemmas.{no_step}
use Rattle.autocoder_deck.proofs.entry.until_entry.Goals as goal

pub returns-else-is_at_entry-2-clause-err : goal.returns-else-is_at_entry-2-clause-err
returns-else-is_at_entry-2-clause-err c =
    let s = taped_with_deck c.loop-left.deck c.loop-left.taped in
    let outside : is_at_entry s.machine ≡ false = search rules in
    let last : until_entry c.loop-left.left c.loop-left.carried s ≡ Err (stopped stop.Limit s.machine) =
    no_step c.loop-left.left c.loop-left.carried s (λ some. omega (arith, some, c.loop-left-test.false)) outside in
    let why : c.stopped-else-is_at_entry-2.result ≡ stopped stop.Limit s.machine = search rules in
    subst (IsWhyUnloaded (until_entry c.args.limit none_carried (taped_with_deck c.args.deck.now c.args.taped.now))) (sym why)
    (sym c.loop-left.invariant ∙ last)

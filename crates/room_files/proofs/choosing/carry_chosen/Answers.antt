-- One entry more, which is chosen or isn't.
use Rattle.std.proofs.Common.{◌≡◌, ◌+◌, false, List, ◌++◌, length, take, ap, sym, ◌∙◌, arith}
use Rattle.std.proofs.lemmas.List.{get_or_default, length-map}
use Rattle.room_alone.specs.Journal.{pair_of, pairs_of}
use Rattle.room_alone.specs.declared.entry.SeatedCommand.{SeatedCommand}
use Rattle.room_files.specs.Choice.{chosen, chosen_of, if_chosen, is_chosen}
use Rattle.room_files.proofs.ChoiceLemmas.{chosen_by_mark, refused_so}
use Rattle.room_files.proofs.TextLemmas.{lines_by-part, lines_by-take}
use Rattle.room_files.proofs.choosing.carry_chosen.Goals as goal

pub loop-i-preserved : goal.loop-i-preserved
loop-i-preserved c =
    let until = c.args.until in
    let without = c.args.without.now in
    let journal = c.args.journal.now in
    let i = c.loop-i.i in
    let entry = c.index-journal-i.result in
    let chosen_is : c.is_chosen-chosen.result ≡ is_chosen until without (i + 1) =
    c.is_chosen-chosen.ensures
    ∙ chosen_by_mark until without i c.index.result.now
    (c.index.ensures
    ∙ get_or_default c.in-Ok.left_out.items (i + 1) c.index.result.now false (omega (arith, c.in-Ok.ensures.count))
    ∙ c.in-Ok.ensures.marks (i + 1) (omega arith)) in (
      c.in-Ok-carry_if_chosen.ensures.commands
          ∙ ap (λ test. pairs_of c.loop-i.room.journal ++ if_chosen test entry) chosen_is
          ∙ ap (λ (pairs : List SeatedCommand). pairs ++ chosen_of until without (i + 1) entry) c.loop-i.invariant.0
          ∙ sym (lines_by-take (chosen_of until without) journal i entry (omega arith) c.index-journal-i.is),
      c.carry_if_chosen.ensures.size ∙ c.loop-i.invariant.1,
    )

-- a command that is chosen was refused, so those before it are fewer than all that are chosen
pub returns-in-Err-clause-fault : goal.returns-in-Err-clause-fault
returns-in-Err-clause-fault c =
    let until = c.args.until in
    let without = c.args.without.now in
    let journal = c.args.journal.now in
    let i = c.loop-i.i in
    let entry = c.index-journal-i.result in
    let chosen_is : c.is_chosen-chosen.result ≡ is_chosen until without (i + 1) =
    c.is_chosen-chosen.ensures
    ∙ chosen_by_mark until without i c.index.result.now
    (c.index.ensures
    ∙ get_or_default c.in-Ok.left_out.items (i + 1) c.index.result.now false (omega (arith, c.in-Ok.ensures.count))
    ∙ c.in-Ok.ensures.marks (i + 1) (omega arith)) in
    let one : length (chosen_of until without (i + 1) entry) ≡ 1 =
    ap (λ test. length (if_chosen test entry)) (sym chosen_is ∙ c.in-Err.ensures.chosen) in
    let count : length c.loop-i.room.journal ≡ length (chosen until without (take i journal)) =
    sym (length-map c.loop-i.room.journal pair_of) ∙ ap length c.loop-i.invariant.0 in
    refused_so c.loop-i.room.journal (chosen until without journal) c.in-Err.fault c.in-Err.ensures.fault
    (omega (
      arith,
      one,
      count,
      lines_by-part (chosen_of until without) journal i entry (omega arith) c.index-journal-i.is,
    ))

-- Journals of a small machine that are legal, and some that aren't, computed.
use Rattle.std.proofs.Common.{◌≡◌, true, List, [], ◌∷◌, refl, arith, ap, sym, true≢false}
use Rattle.bcd_1401.specs.declared.cell.Cell.{Cell}
use Rattle.core_1401.specs.Storage.{blank}
use Rattle.cpu_1401.specs.State.{power_on}
use Rattle.machine_commands.specs.declared.answer.Answer.TheVariants.{Done, Cells, Refused}
use Rattle.machine_commands.specs.declared.answer.Refusal.TheVariants.{Address}
use Rattle.machine_commands.specs.declared.command.Command.TheVariants.{Deposit, Examine, SetI}
use Rattle.room_alone.specs.declared.entry.Entry.{Entry}
use Rattle.room_alone.specs.Account.{IsExplained}
use Rattle.cpu_1401.specs.CarryOut.{carry_out}
use Rattle.room_alone.specs.Journal.{IsLegal, entry}

-- K with a word mark
abbrev marked_k : Cell
marked_k = record { char = 34; mark = true }

-- seat 1 puts a K at place 1, seat 2 is answered this when it looks at places 0 and 1, and seat 1 starts out of core
abbrev answered : List Cell → List Entry
answered cells =
    entry 1 (Deposit 1 (marked_k ∷ [])) Done
    ∷ entry 2 (Examine 0 2) (Cells cells)
    ∷ entry 1 (SetI 3) (Refused Address)
    ∷ []

what_stands_there_is_legal : IsLegal 3 (answered (blank ∷ marked_k ∷ []))
unfolding carry_out
what_stands_there_is_legal = refl

two_blanks_are_not_legal : IsLegal 3 (answered (blank ∷ blank ∷ [])) → ⊥
unfolding carry_out
two_blanks_are_not_legal legal =
    let same : blank ≡ marked_k = cc legal in true≢false (sym (ap (λ (c : Cell). c.mark) same))

the_machine_with_the_k_is_explained : IsExplained (record (power_on 3) { storage = blank ∷ marked_k ∷ blank ∷ [] })
    (answered (blank ∷ marked_k ∷ []))
unfolding carry_out
the_machine_with_the_k_is_explained = record { machine_is = refl; legal = refl; bound = omega arith }

the_machine_at_power_on_is_not : IsExplained (power_on 3) (answered (blank ∷ marked_k ∷ [])) → ⊥
unfolding carry_out
the_machine_at_power_on_is_not explained =
    let same : blank ≡ marked_k = cc explained.machine_is in true≢false (sym (ap (λ (c : Cell). c.mark) same))

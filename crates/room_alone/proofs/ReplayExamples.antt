-- Commands of two operators on a small machine of three places, carried out in turn, computed. The codes: 49 and 50 are
-- A and B.
use Rattle.std.proofs.Common.{◌≡◌, ℕ, true, List, [], ◌∷◌, refl}
use Rattle.bcd_1401.specs.Graphic.{graphics}
use Rattle.bcd_1401.specs.declared.cell.Cell.{Cell}
use Rattle.core_1401.specs.Places.{with_cells}
use Rattle.core_1401.specs.Storage.{blank}
use Rattle.machine_tables.specs.Features.{no_features, with_feature}
use Rattle.machine_tables.specs.declared.features.Feature.TheVariants.{Lengths}
use Rattle.machine_tables.specs.declared.stop.Stop.TheVariants as stop
use Rattle.cpu_1401.specs.Fitting.{fitted_step}
use Rattle.cpu_1401.specs.Run.{run_for}
use Rattle.cpu_1401.specs.Step.{step}
use Rattle.devices_1401.specs.declared.card.Card.{Card}
use Rattle.machine_commands.specs.declared.answer.Answer.TheVariants.{Done, Cells, Ran, Refused}
use Rattle.machine_commands.specs.declared.answer.Refusal.TheVariants as refusal
use Rattle.machine_commands.specs.declared.command.Command.TheVariants.{Deposit, Examine, SetI, Feed, LoadKey, Run}
use Rattle.machine_commands.specs.declared.command.Command.TheVariants.{Fit}
use Rattle.cpu_1401.specs.CarryOut.{carry_out}
use Rattle.room_alone.specs.declared.entry.SeatedCommand.{SeatedCommand}
use Rattle.room_alone.specs.Replay.{pair, answers_of, replay}

-- a halt, 59
abbrev a_halt : Cell
a_halt = record { char = 59; mark = true }

-- a halt is put at the last place and run, and then it is shown
abbrev halt_and_look : List SeatedCommand
halt_and_look =
    pair 0 (Deposit 2 (a_halt ∷ []))
    ∷ pair 1 (SetI 2)
    ∷ pair 1 (Run 5)
    ∷ pair 0 (Examine 1 2)
    ∷ []

each_answer_follows_from_the_commands_before : answers_of 3 halt_and_look
    ≡ Done ∷ Done ∷ Ran 1 stop.Halt 3 ∷ Cells (blank ∷ a_halt ∷ []) ∷ []
unfolding carry_out fitted_step step run_for graphics
each_answer_follows_from_the_commands_before = refl

the_last_machine : (replay 3 halt_and_look).i ≡ 3
unfolding carry_out fitted_step step run_for graphics
the_last_machine = refl

-- a halt of two characters at the first place, which a machine carries out from when it has the lengths
a_machine_is_fitted_in_its_turn :
    answers_of 3 (pair 0 (Deposit 0 (a_halt ∷ blank ∷ a_halt ∷ [])) ∷ pair 0 (Run 5)
    ∷ pair 1 (Fit (with_feature no_features Lengths)) ∷ pair 0 (Run 5) ∷ [])
    ≡ Done ∷ Ran 0 stop.Length 0 ∷ Done ∷ Ran 1 stop.Halt 2 ∷ []
unfolding carry_out fitted_step step run_for graphics
a_machine_is_fitted_in_its_turn = refl

abbrev card : List ℕ → Card
card chars = record { 0 = chars }

-- each of two operators feeds a card, and the load key reads one of them at a time
two_cards_are_loaded :
    answers_of 3 (pair 1 (Feed (card (49 ∷ []))) ∷ pair 2 (Feed (card (50 ∷ []))) ∷ pair 2 LoadKey ∷ pair 1 LoadKey
    ∷ pair 1 LoadKey ∷ [])
    ≡ Done ∷ Done ∷ Done ∷ Done ∷ Refused refusal.Reader ∷ []
unfolding carry_out with_cells
two_cards_are_loaded = refl

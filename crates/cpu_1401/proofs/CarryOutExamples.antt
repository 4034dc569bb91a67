-- Commands on a small machine, computed.
use Rattle.std.proofs.Common.{◌≡◌, true, false, [], ◌∷◌, refl}
use Rattle.bcd_1401.specs.declared.cell.Cell.{Cell}
use Rattle.core_1401.specs.Storage.{blank}
use Rattle.cpu_1401.specs.State.{State, power_on}
use Rattle.machine_commands.specs.declared.answer.Answer.TheVariants.{Done, Refused}
use Rattle.machine_commands.specs.declared.answer.Refusal.TheVariants.{Address, Limit, Count}
use Rattle.machine_commands.specs.declared.command.Command.TheVariants.{Deposit, Examine, SetI, Switch, Run}
use Rattle.machine_commands.specs.declared.command.Command.TheVariants.{Fit}
use Rattle.machine_tables.specs.Features.{no_features, with_feature}
use Rattle.machine_tables.specs.declared.features.Feature.TheVariants.{BitTest, Lengths}
use Rattle.machine_tables.specs.declared.features.Features.{Features}
use Rattle.machine_tables.specs.declared.switch_name.SwitchName.TheVariants.{B}
use Rattle.cpu_1401.specs.CarryOut.{carry_out}

-- K with a word mark
abbrev marked_k : Cell
marked_k = record { char = 34; mark = true }

-- a machine of three places
abbrev small : State
small = power_on 3

cells_go_up_from_their_address : carry_out small (Deposit 1 (marked_k ∷ blank ∷ [])) ≡ record {
  state = record small { storage = blank ∷ marked_k ∷ blank ∷ [] };
  answer = Done;
}
unfolding carry_out
cells_go_up_from_their_address = refl

cells_past_the_end_are_refused : carry_out small (Deposit 2 (marked_k ∷ blank ∷ []))
    ≡ record { state = small; answer = Refused Address }
unfolding carry_out
cells_past_the_end_are_refused = refl

the_count_is_looked_at_first : carry_out small (Examine 4 41) ≡ record { state = small; answer = Refused Count }
unfolding carry_out
the_count_is_looked_at_first = refl

no_place_past_the_end : carry_out small (Examine 2 2) ≡ record { state = small; answer = Refused Address }
unfolding carry_out
no_place_past_the_end = refl

a_start_out_of_core_is_refused : carry_out small (SetI 3) ≡ record { state = small; answer = Refused Address }
unfolding carry_out
a_start_out_of_core_is_refused = refl

switch_b_is_the_second : carry_out small (Switch B true) ≡ record {
  state = record small { switches = false ∷ true ∷ false ∷ false ∷ false ∷ false ∷ false ∷ [] };
  answer = Done;
}
unfolding carry_out
switch_b_is_the_second = refl

a_run_of_none_is_refused : carry_out small (Run 0) ≡ record { state = small; answer = Refused Limit }
unfolding carry_out
a_run_of_none_is_refused = refl

abbrev lengths : Features
lengths = with_feature no_features Lengths

abbrev bit_test : Features
bit_test = with_feature no_features BitTest

a_machine_is_fitted : carry_out small (Fit lengths) ≡ record {
  state = record small { features = lengths };
  answer = Done;
}
unfolding carry_out
a_machine_is_fitted = refl

-- the machine with the lengths, which has kept K as the d-character of a branch
abbrev with_lengths : State
with_lengths = record small { features = lengths; chained = 34 }

other_features_are_taken_out : carry_out with_lengths (Fit bit_test) ≡ record {
  state = record small { features = bit_test };
  answer = Done;
}
unfolding carry_out
other_features_are_taken_out = refl

the_lengths_stay_with_what_they_kept : carry_out with_lengths (Fit (with_feature lengths BitTest)) ≡ record {
  state = record small { features = with_feature lengths BitTest; chained = 34 };
  answer = Done;
}
unfolding carry_out
the_lengths_stay_with_what_they_kept = refl

-- A deck of unknown making, taken by the load key up to the entry of its program (own).
use Rattle.std.specs.Prelude.{◌≡◌, ⊤, ℕ, zero, suc, ◌==◌, nat_le, Bool, true, false, not, ◌&&◌, if◌then◌else◌, List}
use Rattle.std.specs.Prelude.{length, replicate, slice_set, Result, Ok, Err}
use Rattle.core_1401.specs.Storage.{is_in_core}
use Rattle.cpu_1401.specs.State.{State}
use Rattle.machine_tapes.specs.TapedStep.{without_reels}
use Rattle.machine_tapes.specs.declared.taped_machine.TapedMachine.{TapedMachine}
use Rattle.job_runner.specs.Unattended.{taped_load, unattended}
use Rattle.machine_tables.specs.declared.stop.Stop.{Stop}
use Rattle.machine_tables.specs.declared.stop.Stop.TheVariants as stop
use Rattle.autocoder_deck.specs.Contents.{card_places}
use Rattle.autocoder_deck.specs.declared.entry.LoadFault.{LoadFault}
use Rattle.autocoder_deck.specs.declared.entry.LoadFault.TheVariants as fault

-- whether a column of a card is read to a place
abbrev pub is_card_place : ℕ → Bool
is_card_place at = nat_le 1 at && nat_le at 80

-- whether the next instruction is the first of the program: it isn't on a card, and its place is in core
abbrev pub is_at_entry : State → Bool
is_at_entry s = not (is_card_place s.i) && is_in_core s.storage s.i

-- at which of the places 000 to 080 an instruction was carried out since the last card was read
abbrev pub none_carried : List Bool
none_carried = replicate card_places false

-- the same after an instruction at a place, which may have read a card
abbrev pub carried_after : Bool → ℕ → List Bool → List Bool
carried_after has_read at carried =
    if has_read then none_carried else if is_card_place at then slice_set carried at true else carried

-- how many cards there are
abbrev pub cards_held : State → ℕ
cards_held s = length s.devices.hopper

-- a machine at the entry of its program, and what was carried out of the last card's places
pub record AtEntry : Type 0 where
  pub state : TapedMachine
  pub carried : List Bool

-- why there is no entry: the machine stopped before
abbrev pub stopped : Stop → State → LoadFault
stopped why s = fault.Stopped why s.i

-- an instruction that doesn't stop the machine, and those after it
abbrev pub load_on : Stop → TapedMachine → TapedMachine → List Bool → (List Bool → TapedMachine → Result AtEntry LoadFault)
    → Result AtEntry LoadFault
load_on stop.Limit before t carried more =
    more (carried_after (not (cards_held t.machine == cards_held before.machine)) before.machine.i carried) t
load_on stop.Halt before t carried more = Err (stopped stop.Halt t.machine)
load_on stop.Reader before t carried more = Err (stopped stop.Reader t.machine)
load_on stop.Forms before t carried more = Err (stopped stop.Forms t.machine)
load_on stop.Stacker before t carried more = Err (stopped stop.Stacker t.machine)
load_on stop.NoMark before t carried more = Err (stopped stop.NoMark t.machine)
load_on stop.OpCode before t carried more = Err (stopped stop.OpCode t.machine)
load_on stop.Length before t carried more = Err (stopped stop.Length t.machine)
load_on stop.Address before t carried more = Err (stopped stop.Address t.machine)
load_on stop.Overlap before t carried more = Err (stopped stop.Overlap t.machine)
load_on stop.Carriage before t carried more = Err (stopped stop.Carriage t.machine)
load_on stop.NotFitted before t carried more = Err (stopped stop.NotFitted t.machine)
load_on stop.DChar before t carried more = Err (stopped stop.DChar t.machine)
load_on stop.Tape before t carried more = Err (stopped stop.Tape t.machine)

-- one instruction after the other until the next is the program's first, this many at most
unfoldable pub until_entry : ℕ → List Bool → TapedMachine → Result AtEntry LoadFault
until_entry zero carried t =
    if is_at_entry t.machine then Ok (record { state = t; carried = carried }) else Err (stopped stop.Limit t.machine)
until_entry (suc limit) carried t =
    if is_at_entry t.machine then Ok (record { state = t; carried = carried })
    else load_on (unattended 1 t).stop t (unattended 1 t).state carried (until_entry limit)

-- the load key is pressed, and the deck loads itself until its program begins; without a card nothing is done
abbrev pub loaded_with : ℕ → TapedMachine → Result AtEntry LoadFault
loaded_with limit t =
    if length t.machine.devices.hopper == 0 then Err (stopped stop.Reader t.machine)
    else until_entry limit none_carried (taped_load t)

-- the same on a machine whose units have no reels
abbrev pub loaded_deck : ℕ → State → Result AtEntry LoadFault
loaded_deck limit s = loaded_with limit (without_reels s)

-- why a deck isn't loaded: its machine stops so, or memory is refused
abbrev pub IsWhyUnloaded : Result AtEntry LoadFault → LoadFault → Type 0
IsWhyUnloaded outcome (fault.Stopped why at) = outcome ≡ Err (fault.Stopped why at)
IsWhyUnloaded outcome fault.Memory = ⊤

-- The commands that acts stand for (own).
use Rattle.std.specs.Prelude.{◌≡◌, ◌⊎◌, ℕ, ◌+◌, ◌-◌, ◌*◌, ◌/◌, nat_lt, Bool, true, false, if◌then◌else◌, List, []}
use Rattle.std.specs.Prelude.{◌∷◌, length, map, take, drop, reverse, option_map, Option, None, Some, Result}
use Rattle.std.specs.Prelude.{Ok, Err}
use Rattle.std.specs.List.{list_all, range_with_len}
use Rattle.bcd_1401.specs.Digits.{is_digit}
use Rattle.bcd_1401.specs.declared.cell.Cell.{Cell}
use Rattle.console_text.specs.CardText.{card_of}
use Rattle.console_text.specs.declared.line.LineFault.{LineFault}
use Rattle.core_1401.specs.Cells.{most_cells}
use Rattle.core_1401.specs.Storage.{Storage, cell_at}
use Rattle.cpu_1401.specs.State.{State}
use Rattle.devices_1401.specs.declared.card.Card.{Card}
use Rattle.fields_1401.specs.declared.sign.Sign.{Sign}
use Rattle.fields_1401.specs.declared.sign.Sign.TheVariants.{Minus}
use Rattle.machine_commands.specs.declared.command.Command.{Command}
use Rattle.machine_commands.specs.declared.command.Command.TheVariants as command
use Rattle.machine_notation.specs.Characters.{char_of, chars_of}
use Rattle.operate_orders.specs.declared.orders.Act.{Act}
use Rattle.operate_orders.specs.declared.orders.Act.TheVariants as act
use Rattle.operate_orders.specs.declared.orders.Deposited.{Deposited}
use Rattle.operate_orders.specs.declared.orders.Deposited.TheVariants as deposited
use Rattle.operate_orders.specs.declared.places.Place.{Place}
use Rattle.operate_orders.specs.declared.values.Value.{Value}
use Rattle.operate_orders.specs.declared.values.Value.TheVariants as value
use Rattle.operate_program.specs.Field.{cells_of, field_of, units_of}
use Rattle.operate_program.specs.Known.{Known}
use Rattle.operate_program.specs.Range.{places_in_core}
use Rattle.operate_program.specs.Statement.{statement_commands}
use Rattle.operate_program.specs.Value.{address_of}
use Rattle.operate_program.specs.declared.fault.ActFault.{ActFault}
use Rattle.operate_program.specs.declared.fault.ActFault.TheVariants as fault
use Rattle.operate_program.specs.declared.fault.PlaceFault.{PlaceFault}
use Rattle.operate_program.specs.declared.field.Field.{Field}
use Rattle.operate_views.specs.Value.{lettered, with_number}
use Rattle.operate_views.specs.declared.fault.FieldFault.TheVariants as field_fault
use Rattle.operate_views.specs.declared.fault.ValueFault.TheVariants as value_faults

-- what a call returned, seen by view, is the answer, unless memory was refused
abbrev pub Gives : {X Y : Type 0} → (X → Y) → Result X ActFault → Result Y ActFault → Type 0
Gives view (Ok value) answer = answer ≡ Ok (view value)
Gives view (Err why) answer = (why ≡ fault.Memory) ⊎ (answer ≡ Err why)

infixl 10 ◌>>=◌
-- what is on the left, and if it has no fault, what follows it
abbrev pub ◌>>=◌ : {X Y : Type 0} → Result X ActFault → (X → Result Y ActFault) → Result Y ActFault
Ok value >>= beyond = beyond value
Err why >>= beyond = Err why

-- a command, and no other
abbrev one : Command → Result (List Command) ActFault
one command = Ok (command ∷ [])

-- an address, or the fault of its place
abbrev pub if_place : {X : Type 0} → Result X PlaceFault → Result X ActFault
if_place (Ok at) = Ok at
if_place (Err why) = Err (fault.Place why)

-- a card, or a fault
abbrev pub if_card : Result Card LineFault → Result Card ActFault
if_card (Ok card) = Ok card
if_card (Err why) = Err fault.Card

abbrev deposit_if : {X : Type 0} → ℕ → List Cell → Result X PlaceFault → Result (List Command) ActFault
deposit_if at cells (Ok places) = one (command.Deposit at cells)
deposit_if at cells (Err why) = Err (fault.Place why)

-- the command that deposits cells, if all of their places are in core
unfoldable pub cells_commands : Storage → ℕ → List Cell → Result (List Command) ActFault
cells_commands storage at cells = deposit_if at cells (places_in_core storage at (length cells))

abbrev deposited_at : Known → State → Deposited → ℕ → Result (List Command) ActFault
deposited_at known s (deposited.Cells cells) at = cells_commands s.storage at cells
deposited_at known s (deposited.Statement statement) at = statement_commands known (length s.storage) at statement

-- cells, or what the assembler makes of a statement
unfoldable pub deposit_commands : Known → State → Place → Deposited → Result (List Command) ActFault
deposit_commands known s place what = do
  at ← if_place (address_of known s place)
  deposited_at known s what at

abbrev marked_at : State → Bool → ℕ → Result (List Command) ActFault
marked_at s mark at =
    one (command.Deposit at (record { char = (cell_at s.storage at).char; mark = mark } ∷ []))

-- one cell, with its character as it is
unfoldable pub mark_commands : Known → State → Place → Bool → Result (List Command) ActFault
mark_commands known s place mark = do
  at ← if_place (address_of known s place)
  marked_at s mark at

abbrev start_at : ℕ → Result (List Command) ActFault
start_at at = one (command.SetI at)

unfoldable pub start_commands : Known → State → Place → Result (List Command) ActFault
start_commands known s place = do
  at ← if_place (address_of known s place)
  start_at at

-- the card that a text is
abbrev pub card_in : List ℕ → Result Card ActFault
card_in text = if_card (card_of (chars_of text))

abbrev pub sign_written : Bool → Option Sign
sign_written minus = if minus then Some Minus else None

-- the cells of a field, given units first, with a number in them, from the high place on
unfoldable pub number_cells : Bool → List ℕ → List Cell → Result (List Cell) ActFault
number_cells minus digits cells =
    if list_all is_digit digits
    then (if nat_lt (length cells) (length digits)
    then Err (fault.Value (value_faults.Digits (length cells) (length digits)))
    else Ok (reverse (with_number (sign_written minus) digits cells)))
    else Err fault.NoValue

abbrev pub chars_after : Option ℕ → Option (List ℕ) → Option (List ℕ)
chars_after None chars = None
chars_after (Some char) chars = option_map (λ (more : List ℕ). char ∷ more) chars

-- the characters of a text, if each byte is a graphic
abbrev pub chars_in : List ℕ → Option (List ℕ)
chars_in [] = Some []
chars_in (byte ∷ bytes) = chars_after (char_of byte) (chars_in bytes)

abbrev text_cells_if : List Cell → Option (List ℕ) → Result (List Cell) ActFault
text_cells_if cells None = Err fault.NoValue
text_cells_if cells (Some chars) =
    if nat_lt (length cells) (length chars)
    then Err (fault.Value (value_faults.Characters (length cells) (length chars)))
    else Ok (lettered chars (reverse cells))

-- the same with a text in them
unfoldable pub text_cells : List ℕ → List Cell → Result (List Cell) ActFault
text_cells text cells = text_cells_if cells (chars_in text)

abbrev pub value_cells : Value → List Cell → Result (List Cell) ActFault
value_cells (value.Number minus digits) cells = number_cells minus digits cells
value_cells (value.Text text) cells = text_cells text cells

-- the command that deposits the piece of this number, of cells from a place on, 40 by 40
abbrev pub piece : ℕ → List Cell → ℕ → Command
piece low cells number =
    command.Deposit (low + most_cells * number) (take most_cells (drop (most_cells * number) cells))

-- the commands that deposit cells from a place on
abbrev pub pieces : ℕ → List Cell → List Command
pieces low cells = map (piece low cells) (range_with_len 0 ((length cells + (most_cells - 1)) / most_cells))

abbrev pieces_at : ℕ → List Cell → List Cell → Result (List Command) ActFault
pieces_at at cells put = Ok (pieces (at + 1 - length cells) put)

-- a value in the field with its units at a place, whose cells these are
unfoldable pub set_at : ℕ → List Cell → Value → Result (List Command) ActFault
set_at at cells value = do
  put ← value_cells value cells
  pieces_at at cells put

abbrev set_if : ℕ → Value → Option (List Cell) → Result (List Command) ActFault
set_if at value None = Err (fault.Field (field_fault.NoMark at))
set_if at value (Some cells) = set_at at cells value

-- a value in a field, whose units place is in core
unfoldable pub set_commands : Storage → Field → Value → Result (List Command) ActFault
set_commands storage field value = set_if (units_of field) value (cells_of storage field)

unfoldable pub value_commands : Known → State → Place → Value → Result (List Command) ActFault
value_commands known s place value = do
  field ← if_place (field_of known s place)
  set_commands s.storage field value

-- the commands that an act stands for; a run stands for none of its own, nor do cards, which come into the hand, and the
-- load key, before which the hopper is filled from there
abbrev pub commands_of : Known → State → Act → Result (List Command) ActFault
commands_of known s (act.Deposit place what) = deposit_commands known s place what
commands_of known s (act.Set field value) = value_commands known s field value
commands_of known s (act.Mark place) = mark_commands known s place true
commands_of known s (act.Unmark place) = mark_commands known s place false
commands_of known s (act.Start place) = start_commands known s place
commands_of known s (act.Switch switch on) = one (command.Switch switch on)
commands_of known s (act.Feed text) = Ok []
commands_of known s (act.Deck file) = Ok []
commands_of known s act.Load = Ok []
commands_of known s (act.Step count) = Ok []
commands_of known s (act.Continue count) = Ok []
commands_of known s (act.Until place) = Ok []
commands_of known s (act.Go place) = start_commands known s place

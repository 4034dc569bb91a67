-- The lines that act, and have a grammar of their own (own).
use Rattle.std.specs.Prelude.{ℕ, ◌==◌, nat_lt, Bool, true, false, not, if◌then◌else◌, List, length, drop, Option}
use Rattle.std.specs.Prelude.{None, Some, Result, Ok, Err, codes}
use Rattle.std.specs.Option.{ok_or}
use Rattle.std.specs.Str.{bytes_eq}
use Rattle.bcd_1401.specs.declared.cell.Cell.{Cell}
use Rattle.console_text.specs.Words.{without_blanks, switch_named}
use Rattle.devices_1401.specs.Card.{card_columns}
use Rattle.machine_notation.specs.Cells.{cells_of, spelled}
use Rattle.machine_notation.specs.declared.fault.CellsFault.{CellsFault}
use Rattle.machine_notation.specs.declared.fault.CellsFault.TheVariants as cells_fault
use Rattle.machine_tables.specs.declared.switch_name.SwitchName.{SwitchName}
use Rattle.operate_orders.specs.Kind.{equals}
use Rattle.operate_orders.specs.Operands.{Said, ◌>>=◌, place_operand, lone_place}
use Rattle.operate_orders.specs.Parts.{first_of, before_byte, from_byte, operand_in, beyond_operand, is_end, has_graphics}
use Rattle.operate_orders.specs.Text.{capitals}
use Rattle.operate_orders.specs.Value.{value_operand}
use Rattle.operate_orders.specs.declared.fault.OrderFault.{OrderFault}
use Rattle.operate_orders.specs.declared.fault.OrderFault.TheVariants as fault
use Rattle.operate_orders.specs.declared.orders.Act.TheVariants as act
use Rattle.operate_orders.specs.declared.orders.Deposited.{Deposited}
use Rattle.operate_orders.specs.declared.orders.Deposited.TheVariants.{Cells, Statement}
use Rattle.operate_orders.specs.declared.orders.Order.{Order}
use Rattle.operate_orders.specs.declared.orders.Order.TheVariants.{Act}
use Rattle.operate_orders.specs.declared.words.Keyword.TheVariants as keyword

-- a statement: all that follows the equals sign and blanks
unfoldable pub statement_in : List ℕ → Result Deposited OrderFault
statement_in text =
    if length (without_blanks text) == 0 then Err (fault.Usage keyword.Deposit)
    else Ok (Statement (capitals (without_blanks text)))

-- what a text that spells no cells is as a fault of its line
abbrev pub fault_of : CellsFault → OrderFault
fault_of cells_fault.Graphic = fault.Graphic
fault_of cells_fault.Length = fault.Cells

abbrev pub if_cells : Result (List Cell) CellsFault → Result (List Cell) OrderFault
if_cells (Ok cells) = Ok cells
if_cells (Err why) = Err (fault_of why)

-- cells: all bytes
unfoldable pub cells_in : List ℕ → Result Deposited OrderFault
cells_in text = if length text == 0 then Err (fault.Usage keyword.Deposit) else do
  cells ← if_cells (cells_of (spelled (capitals text)))
  Ok (Cells cells)

-- a statement after an equals sign, or else cells after one blank
unfoldable pub deposited_in : List ℕ → Result Deposited OrderFault
deposited_in beyond =
    if first_of (without_blanks beyond) == equals then statement_in (drop 1 (without_blanks beyond))
    else cells_in (drop 1 beyond)

-- deposit ADDRESS TEXT, or deposit ADDRESS = STATEMENT
unfoldable pub deposit_of : List ℕ → Said
deposit_of rest = do
  place ← place_operand keyword.Deposit (operand_in rest)
  what ← deposited_in (beyond_operand rest)
  Ok (Act (act.Deposit place what))

-- set FIELD = NUMBER, or set FIELD = @TEXT@
unfoldable pub set_of : List ℕ → Said
set_of rest = do
  field ← lone_place keyword.Set (before_byte equals rest)
  value ← value_operand keyword.Set (drop 1 (from_byte equals rest))
  Ok (Act (act.Set field value))

-- on, or off
unfoldable pub setting_of : List ℕ → Option Bool
setting_of word =
    if bytes_eq word (codes "ON") then Some true else (if bytes_eq word (codes "OFF") then Some false else None)

abbrev switch_with : Option SwitchName → Option Bool → Option Order
switch_with None on = None
switch_with (Some switch) None = None
switch_with (Some switch) (Some on) = Some (Act (act.Switch switch on))

unfoldable pub switched : List ℕ → List ℕ → Option Order
switched letter setting = switch_with (switch_named (capitals letter)) (setting_of (capitals setting))

-- switch A on, or switch A off
unfoldable pub switch_of : List ℕ → Said
switch_of rest =
    if not (is_end (beyond_operand (beyond_operand rest))) then Err (fault.Usage keyword.Switch)
    else ok_or (switched (operand_in rest) (operand_in (beyond_operand rest))) (fault.Usage keyword.Switch)

-- feed [TEXT]: all bytes after one blank
unfoldable pub feed_of : List ℕ → Said
feed_of rest =
    if nat_lt card_columns (length (drop 1 rest)) then Err fault.Card
    else (if has_graphics (capitals (drop 1 rest)) then Ok (Act (act.Feed (capitals (drop 1 rest)))) else Err fault.Graphic)

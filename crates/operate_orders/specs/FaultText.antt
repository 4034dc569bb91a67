-- The texts of faults (own), as they follow a question mark.
use Rattle.std.specs.Prelude.{ℕ, List, ◌++◌, codes}
use Rattle.machine_notation.specs.Digits.{digits_in}
use Rattle.operate_orders.specs.Words.{row_of}
use Rattle.operate_orders.specs.declared.fault.OrderFault.{OrderFault}
use Rattle.operate_orders.specs.declared.fault.OrderFault.TheVariants as fault

unfoldable pub byte_text : ℕ → ℕ → List ℕ
byte_text byte column =
    codes "byte " ++ digits_in 1 byte ++ codes " in column " ++ digits_in 1 column ++ codes " is no character"

-- a word's usage, or what is typed and what is said of it
unfoldable pub fault_text : OrderFault → List ℕ
fault_text fault.Length = codes "a line has at most 200 bytes"
fault_text (fault.Byte byte column) = byte_text byte column
fault_text (fault.Word word) = word ++ codes " is no word here"
fault_text (fault.Usage keyword) = (row_of keyword).usage
fault_text (fault.Count word) = word ++ codes " is no number from 1 on"
fault_text (fault.Digits word) = word ++ codes " has more than nine digits"
fault_text (fault.Place word) = word ++ codes " is no address"
fault_text (fault.Range word) = word ++ codes " is no range of places"
fault_text (fault.Number word) = word ++ codes " is no number"
fault_text fault.Graphic = codes "a byte is no graphic"
fault_text fault.Cells = codes "a deposit has at most 40 cells"
fault_text fault.Card = codes "a card has 80 columns"

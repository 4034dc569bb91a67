-- The text of a command is typed for it.
use Rattle.std.proofs.Common.{◌≡◌, ℕ, ◌+◌, ◌-◌, ◌*◌, ◌^◌, ◌<◌, ◌≤◌, Bool, true, false, List, [], ◌∷◌, ◌++◌}
use Rattle.std.proofs.Common.{length, replicate, refl, sym, ap, subst, arith, length-append}
use Rattle.std.specs.Prelude.{codes, slice_index}
use Rattle.std.specs.Fmt.{decimal}
use Rattle.std.specs.List.{flat_map}
use Rattle.std.proofs.lemmas.Fmt.{length-decimal-le}
use Rattle.std.proofs.lemmas.List.{append_assoc, append-nil, length-map, length-replicate}
use Rattle.bcd_1401.specs.declared.cell.Cell.{Cell}
use Rattle.bcd_1401.specs.Graphic.{graphics}
use Rattle.core_1401.specs.Address.{addresses}
use Rattle.machine_tables.specs.declared.switch_name.SwitchName.{SwitchName}
use Rattle.machine_tables.specs.declared.switch_name.SwitchName.TheVariants.{A, B, C, D, E, F, G}
use Rattle.devices_1401.specs.declared.card.Card.{Card}
use Rattle.machine_notation.specs.Cells.{cell_text, cells_text}
use Rattle.machine_notation.specs.Digits.{digits_in}
use Rattle.machine_commands.specs.declared.command.Command.{Command}
use Rattle.machine_commands.specs.declared.command.Command.TheVariants.{Deposit, Examine, Registers, SetI, Switch, Feed}
use Rattle.machine_commands.specs.declared.command.Command.TheVariants.{LoadKey, Run, TakeLine, TakeCard, Fit}
use Rattle.console_text.specs.declared.line.Line.TheVariants as line
use Rattle.console_text.specs.Words.{blank, letter_of, most_digits}
use Rattle.machine_notation.specs.Characters.{graphics_of, trimmed}
use Rattle.console_text.specs.ConsoleLine.{most_line_bytes}
use Rattle.console_text.specs.LineText.{CanBeSaid, IsLineOf, IsTyped, IsTypedAs, setting_text, text_of}
use Rattle.console_text.specs.LineText.Part.{Numeral}
use Rattle.console_text.specs.LineText.Text.{Blanks}
use Rattle.console_text.specs.CommandText.{command_text}
use Rattle.console_text.proofs.CardTextLemmas.{card_with-trimmed, trimmed_few}

-- digits are no more than a number's own, or the width
digits_few : (k width number : ℕ) → 0 < k → width ≤ k → k ≤ most_digits → number < 10 ^ k → number < 2 ^ 64
    → length (digits_in width number) ≤ k
digits_few k width number some wide few small fits =
    let own : length (decimal number) ≤ k = length-decimal-le k number some small fits in
    omega (
      arith,
      own,
      length-append (replicate {A = ℕ} (width - length (decimal number)) 48) (decimal number),
      length-replicate {A = ℕ} (width - length (decimal number)) 48,
    )

numeral : (k width number : ℕ) → 0 < k → width ≤ k → k ≤ most_digits → number < 10 ^ k → number < 2 ^ 64
    → IsTypedAs (Numeral number) (digits_in width number)
numeral k width number some wide few small fits =
    let short : length (digits_in width number) ≤ k = digits_few k width number some wide few small fits in
    (width - length (decimal number), refl, omega arith)

address_few : (address : ℕ) → address < addresses → length (digits_in 4 address) ≤ 5
address_few address below =
    digits_few 5 4 address (omega arith) (omega arith) (omega arith) (omega arith) (omega arith)

address_typed : (address : ℕ) → address < addresses → IsTypedAs (Numeral address) (digits_in 4 address)
address_typed address below =
    numeral 5 4 address (omega arith) (omega arith) (omega arith) (omega arith) (omega arith)

number_few : (number : ℕ) → number < 10 ^ most_digits → length (digits_in 1 number) ≤ 7
number_few number below =
    digits_few 7 1 number (omega arith) (omega arith) (omega arith) below (omega arith)

number_typed : (number : ℕ) → number < 10 ^ most_digits → IsTypedAs (Numeral number) (digits_in 1 number)
number_typed number below =
    numeral 7 1 number (omega arith) (omega arith) (omega arith) below (omega arith)

-- a number after one blank, with nothing after it
last_number : (number width : ℕ) → IsTypedAs (Numeral number) (digits_in width number)
    → IsTyped (Numeral number ∷ []) Blanks (blank ∷ digits_in width number)
last_number number width typed =
    let whole = ap (λ text. blank ∷ text) (sym (append-nil (digits_in width number))) in
    (1, digits_in width number, [], whole, typed, tt, (0, refl))

-- a cell takes two bytes at most
cell_few : (cell : Cell) → length (cell_text cell) ≤ 2
cell_few cell = elim (cell.mark) as (λ mark. length (cell_text (record cell { mark = mark })) ≤ 2) [
  | true ↦ omega arith
  | false ↦ omega arith
]

cells_few : (cells : List Cell) → length (cells_text cells) ≤ 2 * length cells
unfolding cells_text
cells_few [] = omega arith
cells_few (cell ∷ cells) =
    let one = cell_few cell in
    let more : length (flat_map cell_text cells) ≤ 2 * length cells = cells_few cells in
    omega (arith, length-append (cell_text cell) (flat_map cell_text cells))

columns_few : (card : Card) → length card.0 ≡ 80 → length (graphics_of (trimmed card.0)) ≤ 80
unfolding graphics_of
columns_few card eighty =
    let same = length-map (trimmed card.0) (λ char. slice_index graphics char) in
    omega (arith, trimmed_few card.0, eighty, same)

-- a switch's letter and its setting are words
switch_few : (n : SwitchName) (on : Bool) → length (letter_of n) + length (setting_text on) ≤ 4
switch_few A true = omega arith
switch_few A false = omega arith
switch_few B true = omega arith
switch_few B false = omega arith
switch_few C true = omega arith
switch_few C false = omega arith
switch_few D true = omega arith
switch_few D false = omega arith
switch_few E true = omega arith
switch_few E false = omega arith
switch_few F true = omega arith
switch_few F false = omega arith
switch_few G true = omega arith
switch_few G false = omega arith

-- what is typed for a command's text
deposit_parts : (address : ℕ) (cells : List Cell)
    → codes "DEPOSIT " ++ digits_in 4 address ++ codes " " ++ cells_text cells
    ≡ codes "DEPOSIT" ++ (blank ∷ (digits_in 4 address ++ (blank ∷ cells_text cells)))
deposit_parts address cells = simp append_assoc

examine_parts : (address count : ℕ)
    → codes "EXAMINE " ++ digits_in 4 address ++ codes " " ++ digits_in 1 count
    ≡ codes "EXAMINE" ++ (blank ∷ (digits_in 4 address ++ (blank ∷ digits_in 1 count)))
examine_parts address count = simp append_assoc

switch_parts : (n : SwitchName) (on : Bool)
    → codes "SWITCH " ++ letter_of n ++ codes " " ++ setting_text on
    ≡ codes "SWITCH" ++ (blank ∷ (letter_of n ++ (blank ∷ (setting_text on ++ []))))
switch_parts n on = simp (append_assoc, append-nil)

typed_of : (command : Command) → CanBeSaid (line.Command command)
    → IsTyped (text_of (line.Command command)).parts (text_of (line.Command command)).beyond (command_text command)
unfolding command_text
typed_of (Deposit address cells) can =
    let beyond = blank ∷ cells_text cells in (
      0,
      codes "DEPOSIT",
      blank ∷ (digits_in 4 address ++ beyond),
      deposit_parts address cells,
      refl,
      refl,
      (1, digits_in 4 address, beyond, refl, address_typed address can.0, refl, refl),
    )
typed_of (Examine address count) can =
    let beyond = blank ∷ digits_in 1 count in (
      0,
      codes "EXAMINE",
      blank ∷ (digits_in 4 address ++ beyond),
      examine_parts address count,
      refl,
      refl,
      (
        1,
        digits_in 4 address,
        beyond,
        refl,
        address_typed address can.0,
        refl,
        last_number count 1 (number_typed count can.1),
      ),
    )
typed_of Registers can = (0, codes "REGS", [], refl, refl, tt, (0, refl))
typed_of (SetI address) can = (
  0,
  codes "START",
  blank ∷ digits_in 4 address,
  refl,
  refl,
  refl,
  last_number address 4 (address_typed address can),
)
typed_of (Switch n on) can =
    let beyond = blank ∷ (setting_text on ++ []) in (
      0,
      codes "SWITCH",
      blank ∷ (letter_of n ++ beyond),
      switch_parts n on,
      refl,
      refl,
      (1, letter_of n, beyond, refl, refl, refl, (1, setting_text on, [], refl, refl, tt, (0, refl))),
    )
typed_of (Feed card) can = (
  0,
  codes "FEED",
  blank ∷ graphics_of (trimmed card.0),
  refl,
  refl,
  refl,
  (trimmed card.0, refl, sym (card_with-trimmed card can.0)),
)
typed_of LoadKey can = (0, codes "LOAD", [], refl, refl, tt, (0, refl))
typed_of (Run limit) can =
    (0, codes "RUN", blank ∷ digits_in 1 limit, refl, refl, refl, last_number limit 1 (number_typed limit can))
typed_of TakeLine can = (0, codes "LINE", [], refl, refl, tt, (0, refl))
typed_of TakeCard can = (0, codes "CARD", [], refl, refl, tt, (0, refl))
typed_of (Fit features) can = absurd can

short_of : (command : Command) → CanBeSaid (line.Command command) → length (command_text command) ≤ most_line_bytes
unfolding command_text
short_of (Deposit address cells) can =
    let digits = address_few address can.0 in
    let own = cells_few cells in
    subst (λ (text : List ℕ). length text ≤ most_line_bytes) (sym (deposit_parts address cells))
    (omega (arith, can.2, length-append (digits_in 4 address) (blank ∷ cells_text cells)))
short_of (Examine address count) can =
    let digits = address_few address can.0 in
    let own = number_few count can.1 in
    subst (λ (text : List ℕ). length text ≤ most_line_bytes) (sym (examine_parts address count))
    (omega (arith, length-append (digits_in 4 address) (blank ∷ digits_in 1 count)))
short_of Registers can = omega arith
short_of (SetI address) can = let digits = address_few address can in omega arith
short_of (Switch n on) can =
    let few = switch_few n on in
    subst (λ (text : List ℕ). length text ≤ most_line_bytes) (sym (switch_parts n on))
    (omega (
      arith,
      length-append (letter_of n) (blank ∷ (setting_text on ++ [])),
      length-append (setting_text on) [],
    ))
short_of (Feed card) can = let few = columns_few card can.0 in omega arith
short_of LoadKey can = omega arith
short_of (Run limit) can = let digits = number_few limit can in omega arith
short_of TakeLine can = omega arith
short_of TakeCard can = omega arith
short_of (Fit features) can = absurd can

-- a command's text is a line of it
pub line_of_command : (command : Command) → CanBeSaid (line.Command command)
    → IsLineOf (line.Command command) (command_text command)
line_of_command command can = record { can_be = can; short = short_of command can; typed = typed_of command can }

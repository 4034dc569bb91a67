-- Lines as they may be typed, computed.
use Rattle.std.proofs.Common.{◌≡◌, ℕ, ◌<◌, true, false, List, [], ◌∷◌, drop, refl, arith}
use Rattle.std.proofs.lemmas.List.Elements.{All-nil, All-cons}
use Rattle.std.specs.Fmt.{digits}
use Rattle.std.specs.Prelude.{codes}
use Rattle.bcd_1401.specs.declared.cell.Cell.{Cell}
use Rattle.bcd_1401.specs.Graphic.{graphics}
use Rattle.machine_tables.specs.declared.switch_name.SwitchName.TheVariants.{C}
use Rattle.machine_commands.specs.declared.command.Command.TheVariants.{Deposit, Examine, Switch}
use Rattle.console_text.specs.declared.line.Line.TheVariants.{Empty, Command}
use Rattle.machine_notation.specs.Characters.{graphics_of}
use Rattle.console_text.specs.CardText.{card_with}
use Rattle.console_text.specs.LineText.{IsLineOf, IsExamineOf, IsTypedBeyond}
use Rattle.console_text.specs.LineText.Text.{Columns}
use Rattle.machine_notation.specs.Cells.{cells_text}

-- blanks in front, between and after, and zeros in front of numbers
examine_with_blanks_and_zeros : IsLineOf (Command (Examine 500 2)) (codes " EXAMINE   0500 02  ")
unfolding digits
examine_with_blanks_and_zeros = record {
  can_be = (omega arith, omega arith);
  short = omega arith;
  typed = (
    1,
    codes "EXAMINE",
    codes "   0500 02  ",
    refl,
    refl,
    refl,
    (
      3,
      codes "0500",
      codes " 02  ",
      refl,
      (1, refl, omega arith),
      refl,
      (1, codes "02", codes "  ", refl, (1, refl, omega arith), refl, (2, refl)),
    ),
  );
}

switch_with_blanks : IsLineOf (Command (Switch C false)) (codes "SWITCH C  OFF")
switch_with_blanks = record {
  can_be = tt;
  short = omega arith;
  typed = (
    0,
    codes "SWITCH",
    codes " C  OFF",
    refl,
    refl,
    refl,
    (1, codes "C", codes "  OFF", refl, refl, refl, (2, codes "OFF", [], refl, refl, tt, (0, refl))),
  );
}

abbrev blank_cell : Cell
blank_cell = record { char = 0; mark = false }

abbrev marked_zero : Cell
marked_zero = record { char = 10; mark = true }

abbrev IsCharacter : Cell → Type 0
IsCharacter cell = cell.char < 64

-- after the address and one blank all is text: a blank, and 0 with a word mark
a_text_begins_beyond_one_blank :
    IsLineOf (Command (Deposit 7 (blank_cell ∷ marked_zero ∷ []))) (codes "DEPOSIT 7  ~0")
unfolding digits cells_text graphics
a_text_begins_beyond_one_blank = record {
  can_be = (
    omega arith,
    omega arith,
    omega arith,
    All-cons IsCharacter blank_cell (marked_zero ∷ []) (omega arith)
        (All-cons IsCharacter marked_zero [] (omega arith) (All-nil IsCharacter)),
  );
  short = omega arith;
  typed = (
    0,
    codes "DEPOSIT",
    codes " 7  ~0",
    refl,
    refl,
    refl,
    (1, codes "7", codes "  ~0", refl, (0, refl, omega arith), refl, refl),
  );
}

abbrev a_and_b : List ℕ
a_and_b = 0 ∷ 49 ∷ 0 ∷ 50 ∷ []

-- after FEED and one blank all is the card, and blanks after it may be typed or not
a_card_is_typed_as_it_is :
    (line : List ℕ) → (drop 1 line ≡ codes " A B" → IsTypedBeyond (Columns (card_with a_and_b)) line)
unfolding graphics_of graphics
a_card_is_typed_as_it_is line is = (a_and_b, is, refl)

no_column_needs_no_blank : IsTypedBeyond (Columns (card_with [])) []
unfolding graphics_of
no_column_needs_no_blank = ([], refl, refl)

nothing_but_blanks : IsLineOf Empty (codes "   ")
nothing_but_blanks = record { can_be = tt; short = omega arith; typed = (3, refl) }

examine_of_one_cell : IsExamineOf 15999 (codes "EXAMINE 15999 ")
unfolding digits
examine_of_one_cell = record {
  in_range = omega arith;
  short = omega arith;
  typed = (
    0,
    codes "EXAMINE",
    codes " 15999 ",
    refl,
    refl,
    refl,
    (1, codes "15999", codes " ", refl, (0, refl, omega arith), refl, (1, refl)),
  );
}

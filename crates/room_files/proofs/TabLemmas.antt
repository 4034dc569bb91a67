-- The fields of a journal's lines have no tab.
use Rattle.std.proofs.Common.{◌≡◌, ℕ, zero, suc, ◌+◌, ◌-◌, ◌^◌, ◌<◌, ◌≤◌, ◌==◌, Bool, true, false, not}
use Rattle.std.proofs.Common.{if◌then◌else◌, List, [], ◌∷◌, ◌++◌, length, map, replicate, get_or}
use Rattle.std.proofs.Common.{refl, ap, ◌∙◌, arith, inl, inr}
use Rattle.std.specs.Prelude.{codes, slice_index}
use Rattle.std.specs.Fmt.{decimal}
use Rattle.std.specs.Int.Digits.{digits_of}
use Rattle.std.specs.List.{list_all, flat_map, prefix_len}
use Rattle.std.proofs.lemmas.Bool.{and_parts, cases_lt}
use Rattle.std.proofs.lemmas.Bool.Decides.{nat_tests}
use Rattle.std.proofs.lemmas.Fmt.{decimal_digit, decimal-digits_of}
use Rattle.std.proofs.lemmas.List.{take_at}
use Rattle.std.proofs.lemmas.List.Folds.{list_all-append}
use Rattle.bcd_1401.specs.declared.cell.Cell.{Cell}
use Rattle.bcd_1401.specs.Graphic.{graphics}
use Rattle.machine_tables.specs.declared.switch_name.SwitchName.{SwitchName}
use Rattle.machine_tables.specs.declared.switch_name.SwitchName.TheVariants as switch
use Rattle.machine_notation.specs.Cells.{cell_text, cells_text}
use Rattle.machine_notation.specs.Digits.{digits_in}
use Rattle.machine_commands.specs.declared.command.Command.{Command}
use Rattle.machine_commands.specs.declared.command.Command.TheVariants as command
use Rattle.console_text.specs.declared.line.Line.TheVariants as line
use Rattle.machine_notation.specs.Characters.{graphics_of, trimmed}
use Rattle.console_text.specs.CommandText.{command_text}
use Rattle.console_text.specs.LineText.{CanBeSaid, setting_text}
use Rattle.console_text.specs.Words.{letter_of}
use Rattle.room_files.specs.JournalText.{CanBeRead, tab}
use Rattle.room_files.specs.Reading.{field}
use Rattle.machine_tables.specs.Features.{are_some, feature_list, has_feature}
use Rattle.machine_tables.specs.declared.features.Feature.{Feature}
use Rattle.machine_tables.specs.declared.features.Feature.TheVariants as feature
use Rattle.machine_tables.specs.declared.features.Features.{Features}
use Rattle.console_text.specs.FitText.{feature_word, fit_text, word_if, words_of}

-- no tab
abbrev pub no_tab : ℕ → Bool
no_tab byte = not (byte == tab)

front_len : (q : ℕ → Bool) (front back : List ℕ) (byte : ℕ) → list_all q front ≡ true → q byte ≡ false
    → prefix_len q (front ++ byte ∷ back) ≡ length front
front_len q [] back byte all stop = rw stop refl
front_len q (x ∷ front) back byte all stop =
    let here : q x ≡ true = (and_parts (q x) (list_all q front) all).0 in
    let more : prefix_len q (front ++ byte ∷ back) ≡ length front =
    front_len q front back byte (and_parts (q x) (list_all q front) all).1 stop in
    rw here (omega (arith, more))

pub field_is : (word back : List ℕ) → list_all no_tab word ≡ true → field (word ++ tab ∷ back) ≡ word
field_is word back all =
    rw (front_len no_tab word back tab all refl) (take_at word (tab ∷ back) (length word) refl)

both_all : (xs ys : List ℕ) → list_all no_tab xs ≡ true → list_all no_tab ys ≡ true
    → list_all no_tab (xs ++ ys) ≡ true
both_all xs ys h k = list_all-append no_tab xs ys ∙ rw (h, k) refl

zeros_all : (n : ℕ) → list_all no_tab (replicate n 48) ≡ true
zeros_all zero = refl
zeros_all (suc n) = zeros_all n

not_tab : (byte : ℕ) → 48 ≤ byte → not (byte == 9) ≡ true
not_tab byte large = grind (arith, nat_tests)

shifted_all : (values : List ℕ) → list_all no_tab (map (λ digit. 48 + digit) values) ≡ true
shifted_all [] = refl
shifted_all (digit ∷ values) =
    let here : not ((48 + digit) == 9) ≡ true = not_tab (48 + digit) (omega arith) in rw here (shifted_all values)

decimal_all : (number : ℕ) → number < 2 ^ 64 → list_all no_tab (decimal number) ≡ true
decimal_all number fits = elim (cases_lt number 10) [
  | inl small ↦
      let here : not ((48 + number) == 9) ≡ true = not_tab (48 + number) (omega arith) in
      ap (list_all no_tab) (decimal_digit number small) ∙ rw here refl
  | inr large ↦
      ap (list_all no_tab) (decimal-digits_of number (omega arith) fits) ∙ shifted_all (digits_of 10 number)
]

pub digits_all : (width number : ℕ) → number < 2 ^ 64 → list_all no_tab (digits_in width number) ≡ true
digits_all width number fits =
    both_all (replicate (width - length (decimal number)) 48) (decimal number)
    (zeros_all (width - length (decimal number))) (decimal_all number fits)

all_at : (xs : List ℕ) (i : ℕ) → list_all no_tab xs ≡ true → no_tab (get_or xs i 0) ≡ true
all_at [] i all = refl
all_at (x ∷ xs) zero all = (and_parts (no_tab x) (list_all no_tab xs) all).0
all_at (x ∷ xs) (suc i) all = all_at xs i (and_parts (no_tab x) (list_all no_tab xs) all).1

graphics_all : list_all no_tab graphics ≡ true
unfolding graphics
graphics_all = refl

graphic_all : (char : ℕ) → no_tab (slice_index graphics char) ≡ true
graphic_all char = all_at graphics char graphics_all

one_cell_all : (mark : Bool) (graphic : ℕ) → no_tab graphic ≡ true
    → list_all no_tab (if mark then 126 ∷ graphic ∷ [] else graphic ∷ []) ≡ true
one_cell_all true graphic h = rw h refl
one_cell_all false graphic h = rw h refl

cells_all : (cells : List Cell) → list_all no_tab (cells_text cells) ≡ true
unfolding cells_text
cells_all [] = refl
cells_all (cell ∷ cells) =
    both_all (cell_text cell) (flat_map cell_text cells)
    (one_cell_all cell.mark (slice_index graphics cell.char) (graphic_all cell.char)) (cells_all cells)

chars_all : (chars : List ℕ) → list_all no_tab (graphics_of chars) ≡ true
unfolding graphics_of
chars_all [] = refl
chars_all (char ∷ chars) =
    let here : no_tab (slice_index graphics char) ≡ true = graphic_all char in
    let more : list_all no_tab (map (λ each. slice_index graphics each) chars) ≡ true = chars_all chars in
    both_all (slice_index graphics char ∷ []) (map (λ each. slice_index graphics each) chars) (rw here refl) more

letter_all : (n : SwitchName) → list_all no_tab (letter_of n) ≡ true
letter_all switch.A = refl
letter_all switch.B = refl
letter_all switch.C = refl
letter_all switch.D = refl
letter_all switch.E = refl
letter_all switch.F = refl
letter_all switch.G = refl

setting_all : (on : Bool) → list_all no_tab (setting_text on) ≡ true
setting_all true = refl
setting_all false = refl

said_all : (command : Command) → CanBeSaid (line.Command command) → list_all no_tab (command_text command) ≡ true
unfolding command_text
said_all (command.Deposit address cells) can =
    let digits : List ℕ = digits_in 4 address in
    both_all (codes "DEPOSIT " ++ digits ++ codes " ") (cells_text cells)
    (both_all (codes "DEPOSIT " ++ digits) (codes " ")
    (both_all (codes "DEPOSIT ") digits refl (digits_all 4 address (omega (arith, can.0)))) refl) (cells_all cells)
said_all (command.Examine address count) can =
    let digits : List ℕ = digits_in 4 address in
    both_all (codes "EXAMINE " ++ digits ++ codes " ") (digits_in 1 count)
    (both_all (codes "EXAMINE " ++ digits) (codes " ")
    (both_all (codes "EXAMINE ") digits refl (digits_all 4 address (omega (arith, can.0)))) refl)
    (digits_all 1 count (omega (arith, can.1)))
said_all command.Registers can = refl
said_all (command.SetI address) can =
    both_all (codes "START ") (digits_in 4 address) refl (digits_all 4 address (omega (arith, can)))
said_all (command.Switch n on) can =
    both_all (codes "SWITCH " ++ letter_of n ++ codes " ") (setting_text on)
    (both_all (codes "SWITCH " ++ letter_of n) (codes " ")
    (both_all (codes "SWITCH ") (letter_of n) refl (letter_all n)) refl) (setting_all on)
said_all (command.Feed card) can =
    both_all (codes "FEED ") (graphics_of (trimmed card.0)) refl (chars_all (trimmed card.0))
said_all command.LoadKey can = refl
said_all (command.Run limit) can =
    both_all (codes "RUN ") (digits_in 1 limit) refl (digits_all 1 limit (omega (arith, can)))
said_all command.TakeLine can = refl
said_all command.TakeCard can = refl
said_all (command.Fit features) can = absurd can

word_all : (feature : Feature) → list_all no_tab (feature_word feature) ≡ true
word_all feature.Multiply = refl
word_all feature.MoveRecord = refl
word_all feature.ModifyAddress = refl
word_all feature.BitTest = refl
word_all feature.Lengths = refl
word_all feature.ReadPunchRelease = refl
word_all feature.Tapes = refl

if_all : (test : Bool) (text other : List ℕ) → list_all no_tab text ≡ true → list_all no_tab other ≡ true
    → list_all no_tab (if test then text else other) ≡ true
if_all true text other h k = h
if_all false text other h k = k

words_all : (features : Features) (list : List Feature) → list_all no_tab (flat_map (word_if features) list) ≡ true
words_all features [] = refl
words_all features (feature ∷ list) =
    both_all (word_if features feature) (flat_map (word_if features) list)
    (if_all (has_feature features feature) (feature_word feature) [] (word_all feature) refl) (words_all features list)

fit_all : (features : Features) → list_all no_tab (fit_text features) ≡ true
unfolding fit_text
fit_all features =
    both_all (codes "FIT") (words_of features) refl
    (if_all (are_some features) (flat_map (word_if features) feature_list) (codes " NONE")
    (words_all features feature_list) refl)

-- none is in what a journal has of a command
pub command_all : (command : Command) → CanBeRead command → list_all no_tab (command_text command) ≡ true
unfolding command_text
command_all command (inl said) = said_all command said
command_all command (inr fit) = ap (λ (c : Command). list_all no_tab (command_text c)) fit.1 ∙ fit_all fit.0

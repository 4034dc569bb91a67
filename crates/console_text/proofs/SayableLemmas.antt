-- What a line says can be said.
use Rattle.std.proofs.Common.{◌≡◌, ℕ, suc, ◌+◌, ◌-◌, ◌*◌, ◌^◌, ◌<◌, ◌≤◌, ◌==◌, ◌&&◌, Bool, true, false, nat_le, nat_lt}
use Rattle.std.proofs.Common.{if◌then◌else◌, List, [], ◌∷◌, ◌++◌, length, take, drop, replicate, Option, None}
use Rattle.std.proofs.Common.{Some}
use Rattle.std.proofs.Common.{is_some, Result, Ok, Err, refl, sym, ap, ◌∙◌, subst, arith, length-append}
use Rattle.std.specs.Prelude.{All, IfOk, IfSome, filter_map, fold}
use Rattle.std.specs.List.{list_all}
use Rattle.std.specs.Option.{option_map}
use Rattle.std.proofs.lemmas.Bool.{and_parts, leb-true, ltb-true}
use Rattle.std.proofs.lemmas.Bool.Decides.{nat_tests}
use Rattle.std.proofs.lemmas.List.{length-replicate, take_all}
use Rattle.std.proofs.lemmas.List.Elements.{All-nil, All-cons, All-head, All-tail, All-append, All-replicate}
use Rattle.std.proofs.lemmas.List.Quantifiers.{position-Some}
use Rattle.std.proofs.Math.Nat.{mul_assoc, mul-le-mul_right, pow-le-pow_right, pow-succ'}
use Rattle.bcd_1401.specs.declared.cell.Cell.{Cell}
use Rattle.bcd_1401.specs.Graphic.{graphics}
use Rattle.core_1401.specs.Address.{addresses}
use Rattle.core_1401.specs.Cells.{most_cells}
use Rattle.devices_1401.specs.declared.card.Card.{Card}
use Rattle.machine_notation.specs.Cells.{cell_of, cells_of, spelled, tilde}
use Rattle.bcd_1401.specs.Digits.{is_digit, value_of}
use Rattle.machine_notation.specs.declared.fault.CellsFault.{CellsFault}
use Rattle.machine_notation.specs.declared.fault.CellsFault.TheVariants as cells_fault
use Rattle.machine_commands.specs.declared.command.Command.TheVariants as command
use Rattle.console_text.specs.declared.line.Line.{Line}
use Rattle.console_text.specs.declared.line.Line.TheVariants.{Empty, Command, Quit}
use Rattle.console_text.specs.declared.line.LineFault.{LineFault}
use Rattle.console_text.specs.declared.line.LineFault.TheVariants.{Number, Graphic, Length, Extra}
use Rattle.console_text.specs.declared.words.Keyword.{Keyword}
use Rattle.console_text.specs.declared.words.Keyword.TheVariants as keyword
use Rattle.machine_notation.specs.Characters.{char_of, chars_of}
use Rattle.console_text.specs.CardText.{card_of}
use Rattle.console_text.specs.ConsoleLine.{Said, said_in_words, said_with, ended, if_cells, deposit_of}
use Rattle.console_text.specs.ConsoleLine.{examine_of}
use Rattle.console_text.specs.ConsoleLine.{start_of, switch_said, feed_of, run_of, glance_of}
use Rattle.console_text.specs.LineText.{CanBeSaid}
use Rattle.console_text.specs.Words.{◌>>=◌, word_in, beyond_word, keyword_of, number_of, address_of, count_of}
use Rattle.console_text.specs.Words.{most_digits}
use Rattle.console_text.specs.Words.{switch_of, setting_of}

-- what is read, and what then is made of it
then_said : {A : Type 0} (read : Result A LineFault) (more : A → Said)
    → ((value : A) → read ≡ Ok value → IfOk (more value) CanBeSaid)
    → IfOk (read >>= more) CanBeSaid
then_said (Ok value) more h = h value refl
then_said (Err fault) more h = tt

-- one of two, by a test
either : (test : Bool) (passing failing : Said) → IfOk passing CanBeSaid → IfOk failing CanBeSaid
    → IfOk (if test then passing else failing) CanBeSaid
either true passing failing h k = h
either false passing failing h k = k

ended_said : (rest : List ℕ) (said : Line) → CanBeSaid said → IfOk (ended rest said) CanBeSaid
unfolding ended
ended_said rest said can = either (length (word_in rest) == 0) (Ok said) (Err Extra) can tt

-- what a test lets through
passed : {A : Type 0} (test : Bool) (value found : A) (fault : LineFault)
    → (if test then Ok value else Err fault) ≡ Ok found → (test ≡ true) × (value ≡ found)
passed true value found fault h = (refl, cc)
passed false value found fault h = absurd cc

-- what was read before
read_before : {A B : Type 0} (read : Result A LineFault) (more : A → Result B LineFault) (found : B)
    → (read >>= more) ≡ Ok found → (value : A) × (read ≡ Ok value) × (more value ≡ Ok found)
read_before (Ok value) more found h = (value, refl, h)
read_before (Err fault) more found h = absurd cc

one_digit_more : (value front digit power next : ℕ) → 48 ≤ digit → digit ≤ 57
    → value < (10 * front + (digit - 48) + 1) * power → next ≡ 10 * power → value < (front + 1) * next
one_digit_more value front digit power next low high below is =
    let more : (10 * front + (digit - 48) + 1) * power ≤ ((front + 1) * 10) * power =
    mul-le-mul_right power (omega arith) in
    let same : ((front + 1) * 10) * power ≡ (front + 1) * next =
    mul_assoc (front + 1) 10 power ∙ ap (λ n. (front + 1) * n) (sym is) in
    omega (arith, below, more, same)

digit_low : (digit : ℕ) → is_digit digit ≡ true → 48 ≤ digit
digit_low digit is = grind (arith, nat_tests)

digit_high : (digit : ℕ) → is_digit digit ≡ true → digit ≤ 57
digit_high digit is = grind (arith, nat_tests)

-- digits stand for a number below a power of ten
value_below : (digits : List ℕ) (front : ℕ) → list_all is_digit digits ≡ true
    → fold (λ number digit. 10 * number + (digit - 48)) front digits < (front + 1) * 10 ^ length digits
value_below [] front all = omega arith
value_below (digit ∷ digits) front all =
    let is = (and_parts (is_digit digit) (list_all is_digit digits) all).0 in
    one_digit_more (fold (λ number digit. 10 * number + (digit - 48)) front (digit ∷ digits)) front digit
    (10 ^ length digits) (10 ^ length (digit ∷ digits)) (digit_low digit is) (digit_high digit is)
    (value_below digits (10 * front + (digit - 48)) ((and_parts (is_digit digit) _ all).1)) (pow-succ' 10 (length digits))

number_below : (word : List ℕ) (number : ℕ) → number_of word ≡ Ok number → number < 10 ^ most_digits
unfolding number_of
number_below word number is =
    let p = passed (nat_le 1 (length word) && nat_le (length word) most_digits && list_all is_digit word) (value_of word)
    number Number is in
    let counted = nat_le 1 (length word) && nat_le (length word) most_digits in
    let digits : list_all is_digit word ≡ true = (and_parts counted (list_all is_digit word) p.0).1 in
    let tests : counted ≡ true = (and_parts counted (list_all is_digit word) p.0).0 in
    let few : length word ≤ most_digits =
    leb-true (length word) most_digits ((and_parts (nat_le 1 (length word)) (nat_le (length word) most_digits) tests).1) in
    let below : value_of word < (0 + 1) * 10 ^ length word = value_below word 0 digits in
    let power : 10 ^ length word ≤ 10 ^ most_digits = pow-le-pow_right (omega arith) few in
    omega (arith, p.1, below, power)

address_below : (word : List ℕ) (address : ℕ) → address_of word ≡ Ok address → address < addresses
unfolding address_of
address_below word address is =
    let r = read_before (number_of word) _ address is in
    let p = passed (nat_lt r.0 addresses) r.0 address Number r.2 in
    let below : r.0 < addresses = ltb-true _ _ p.0 in
    omega (arith, p.1, below)

by_word : (none : Bool) (word : List ℕ) (count : ℕ) → (if none then Ok 1 else number_of word) ≡ Ok count
    → count < 10 ^ most_digits
by_word true word count is = let one : 1 ≡ count = cc in omega (arith, one)
by_word false word count is = number_below word count is

count_below : (word : List ℕ) (count : ℕ) → count_of word ≡ Ok count → count < 10 ^ most_digits
unfolding count_of
count_below word count is = by_word (length word == 0) word count is

-- all that is there is as much as there is
as_many : {A : Type 0} (all : List (Option A)) → list_all is_some all ≡ true
    → length (filter_map (λ each. each) all) ≡ length all
as_many [] h = refl
as_many (None ∷ all) h = absurd cc
as_many (Some value ∷ all) h = ap (λ n. suc n) (as_many all h)

-- what holds of each that is there
all_of : {A : Type 0} (P : A → Type 0) (all : List (Option A)) → All (λ each. IfSome each P) all
    → All P (filter_map (λ each. each) all)
all_of P [] h = All-nil P
all_of {A} P (None ∷ all) h = all_of P all (All-tail (λ (each : Option A). IfSome each P) None all h)
all_of {A} P (Some value ∷ all) h =
    let Q : Option A → Type 0 = λ each. IfSome each P in
    All-cons P value (filter_map (λ each. each) all) (All-head Q (Some value) all h)
    (all_of P all (All-tail Q (Some value) all h))

-- a list of at most this length is whole if its places up to there are
whole_if : {A : Type 0} (most : ℕ) (all : List (Option A)) → length all ≤ most
    → list_all is_some (take most all) ≡ true → list_all is_some all ≡ true
whole_if most all few h = ap (list_all is_some) (sym (take_all most all few)) ∙ h

sixty_four : length graphics ≡ 64
unfolding graphics
sixty_four = refl

char_below : (byte char : ℕ) → char_of byte ≡ Some char → char < 64
char_below byte char is =
    let found = position-Some (λ each. each == byte) graphics char 0 is in omega (arith, found.0, sixty_four)

char_there : (char : Option ℕ) → ((code : ℕ) → char ≡ Some code → code < 64) → IfSome char (λ code. code < 64)
char_there None h = tt
char_there (Some code) h = h code refl

-- one of the 64 characters
abbrev pub IsCharacter : Cell → Type 0
IsCharacter cell = cell.char < 64

cell_there : (mark : Bool) (char : Option ℕ) → ((code : ℕ) → char ≡ Some code → code < 64)
    → IfSome (option_map (λ code. let cell : Cell = record { char = code; mark = mark } in cell) char) IsCharacter
cell_there mark None h = tt
cell_there mark (Some code) h = h code refl

cell_is : (mark : Bool) (byte : ℕ) → IfSome (cell_of mark byte) IsCharacter
cell_is mark byte = cell_there mark (char_of byte) (char_below byte)

all_by : (test : Bool) (passing failing : List (Option Cell)) → All (λ each. IfSome each IsCharacter) passing
    → All (λ each. IfSome each IsCharacter) failing → All (λ each. IfSome each IsCharacter) (if test then passing else failing)
all_by true passing failing h k = h
all_by false passing failing h k = k

spelled_are : (text : List ℕ) → All (λ each. IfSome each IsCharacter) (spelled text)
unfolding spelled
spelled_are [] = All-nil (λ (each : Option Cell). IfSome each IsCharacter)
spelled_are (byte ∷ []) =
    let P : Option Cell → Type 0 = λ each. IfSome each IsCharacter in
    All-cons P (cell_of false byte) [] (cell_is false byte) (All-nil P)
spelled_are (byte ∷ next ∷ more) =
    let P : Option Cell → Type 0 = λ each. IfSome each IsCharacter in
    all_by (byte == tilde) (cell_of true next ∷ spelled more) (cell_of false byte ∷ spelled (next ∷ more))
    (All-cons P (cell_of true next) (spelled more) (cell_is true next) (spelled_are more))
    (All-cons P (cell_of false byte) (spelled (next ∷ more)) (cell_is false byte) (spelled_are (next ∷ more)))

chars_are : (text : List ℕ) → All (λ each. IfSome each (λ char. char < 64)) (chars_of text)
unfolding chars_of
chars_are [] = All-nil (λ (each : Option ℕ). IfSome each (λ char. char < 64))
chars_are (byte ∷ text) =
    let P : Option ℕ → Type 0 = λ each. IfSome each (λ char. char < 64) in
    All-cons P (char_of byte) (chars_of text) (char_there (char_of byte) (char_below byte)) (chars_are text)

-- Cells are 1 to 40 characters.
pub record AreFew (cells : List Cell) : Type 0 where
  pub some : 1 ≤ length cells
  pub few : length cells ≤ most_cells
  pub all : All (λ cell. cell.char < 64) cells

cells_passed : (whole counted : Bool) (cells found : List Cell)
    → (if whole then (if counted then Ok cells else Err cells_fault.Length) else Err cells_fault.Graphic) ≡ Ok found
    → (whole ≡ true) × (counted ≡ true) × (cells ≡ found)
cells_passed true true cells found h = (refl, refl, cc)
cells_passed true false cells found h = absurd cc
cells_passed false counted cells found h = absurd cc

few_cells : (text : List ℕ) (cells : List Cell) → cells_of (spelled text) ≡ Ok cells → AreFew cells
unfolding cells_of
few_cells text cells is =
    let all = spelled text in
    let p =
    cells_passed (list_all is_some (take most_cells all))
    (nat_le 1 (length all) && nat_le (length all) most_cells) (filter_map (λ each. each) all) cells is in
    let enough = nat_le 1 (length all) in
    let counted = nat_le (length all) most_cells in
    let some : 1 ≤ length all = leb-true 1 (length all) ((and_parts enough counted p.1).0) in
    let few : length all ≤ most_cells = leb-true (length all) most_cells ((and_parts enough counted p.1).1) in
    let many = as_many all (whole_if most_cells all few p.0) in
    let same : length cells ≡ length all = sym (ap length p.2) ∙ many in
    let each : All (λ (cell : Cell). cell.char < 64) cells =
    subst (All (λ (cell : Cell). cell.char < 64)) p.2 (all_of IsCharacter all (spelled_are text)) in
    record { some = omega (arith, same, some); few = omega (arith, same, few); all = each }

cells_read : (read : Result (List Cell) CellsFault) (cells : List Cell) → if_cells read ≡ Ok cells → read ≡ Ok cells
cells_read (Ok value) cells is = cc
cells_read (Err fault) cells is = absurd cc

card_passed : (whole counted : Bool) (card found : Card)
    → (if whole then (if counted then Ok card else Err Length) else Err Graphic) ≡ Ok found
    → (whole ≡ true) × (counted ≡ true) × (card ≡ found)
card_passed true true card found h = (refl, refl, cc)
card_passed true false card found h = absurd cc
card_passed false counted card found h = absurd cc

card_can : (text : List ℕ) (card : Card) → card_of (chars_of text) ≡ Ok card
    → CanBeSaid (Command (command.Feed card))
unfolding card_of
card_can text card is =
    let all = chars_of text in
    let p = card_passed _ _ _ card is in
    let few : length all ≤ 80 = leb-true _ _ p.1 in
    let chars : List ℕ = filter_map (λ each. each) all in
    let many : length chars ≡ length all = as_many all (whole_if 80 all few p.0) in
    let blanks : List ℕ = replicate (80 - length chars) 0 in
    let P : ℕ → Type 0 = λ char. char < 64 in
    let each : All P (chars ++ blanks) =
    All-append P chars blanks (all_of P all (chars_are text)) (All-replicate P (80 - length chars) 0 (omega arith)) in
    let eighty : length (chars ++ blanks) ≡ 80 =
    omega (arith, few, many, length-append chars blanks, length-replicate {A = ℕ} (80 - length chars) 0) in
    subst (λ (card : Card). CanBeSaid (Command (command.Feed card))) p.2 (eighty, each)

deposit_can : (operands : List ℕ) → IfOk (deposit_of operands) CanBeSaid
unfolding deposit_of
deposit_can operands =
    then_said (address_of (word_in operands)) _ (λ address at.
    then_said (if_cells (cells_of (spelled (drop 1 (beyond_word operands))))) _ (λ cells are.
    let few = few_cells (drop 1 (beyond_word operands)) cells (cells_read _ cells are) in
    (address_below (word_in operands) address at, few.some, few.few, few.all)))

examine_can : (operands : List ℕ) → IfOk (examine_of operands) CanBeSaid
unfolding examine_of
examine_can operands =
    then_said (address_of (word_in operands)) _ (λ address at.
    then_said (count_of (word_in (beyond_word operands))) _ (λ count is.
    ended_said _ _ (address_below (word_in operands) address at, count_below (word_in (beyond_word operands)) count is)))

start_can : (operands : List ℕ) → IfOk (start_of operands) CanBeSaid
unfolding start_of
start_can operands =
    then_said (address_of (word_in operands)) _ (λ address at.
    ended_said _ _ (address_below (word_in operands) address at))

switch_can : (operands : List ℕ) → IfOk (switch_said operands) CanBeSaid
unfolding switch_said
switch_can operands =
    then_said (switch_of (word_in operands)) _ (λ switch named.
    then_said (setting_of (word_in (beyond_word operands))) _ (λ on is.
    ended_said (beyond_word (beyond_word operands)) (Command (command.Switch switch on)) tt))

feed_can : (operands : List ℕ) → IfOk (feed_of operands) CanBeSaid
unfolding feed_of
feed_can operands = then_said (card_of (chars_of (drop 1 operands))) _ (λ card is. card_can (drop 1 operands) card is)

run_can : (operands : List ℕ) → IfOk (run_of operands) CanBeSaid
unfolding run_of
run_can operands =
    then_said (number_of (word_in operands)) _ (λ limit is.
    ended_said _ _ (number_below (word_in operands) limit is))

glance_can : (operands : List ℕ) → IfOk (glance_of operands) CanBeSaid
unfolding glance_of
glance_can operands =
    then_said (address_of (word_in operands)) _ (λ address at.
    ended_said _ _ (address_below (word_in operands) address at))

with_can : (keyword : Option Keyword) (operands : List ℕ) → IfOk (said_with keyword operands) CanBeSaid
unfolding said_with
with_can None operands = tt
with_can (Some keyword.Deposit) operands = deposit_can operands
with_can (Some keyword.Examine) operands = examine_can operands
with_can (Some keyword.Regs) operands = ended_said operands (Command command.Registers) tt
with_can (Some keyword.Start) operands = start_can operands
with_can (Some keyword.Switch) operands = switch_can operands
with_can (Some keyword.Feed) operands = feed_can operands
with_can (Some keyword.Load) operands = ended_said operands (Command command.LoadKey) tt
with_can (Some keyword.Run) operands = run_can operands
with_can (Some keyword.Line) operands = ended_said operands (Command command.TakeLine) tt
with_can (Some keyword.Card) operands = ended_said operands (Command command.TakeCard) tt
with_can (Some keyword.Glance) operands = glance_can operands
with_can (Some keyword.Quit) operands = ended_said operands Quit tt

-- what the words of a line say can be said
pub words_can : (line : List ℕ) → IfOk (said_in_words line) CanBeSaid
unfolding said_in_words
words_can line =
    either (length (word_in line) == 0) (Ok Empty) (said_with (keyword_of (word_in line)) (beyond_word line)) tt
    (with_can (keyword_of (word_in line)) (beyond_word line))

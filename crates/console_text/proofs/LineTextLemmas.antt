-- What is typed for a line says it.
use Rattle.std.proofs.Common.{◌≡◌, ℕ, zero, suc, ◌^◌, ◌-◌, ◌<◌, ◌≤◌, ◌==◌, ◌&&◌, Bool, true, false, List, [], ◌∷◌, ◌++◌}
use Rattle.std.proofs.Common.{length, drop, map, replicate, Option, None, Some, refl, sym, ◌∙◌, ap, subst, arith, inl}
use Rattle.std.proofs.Common.{inr, length-append}
use Rattle.std.proofs.lemmas.Bool.{and_parts, cases_lt, eqb-true}
use Rattle.std.proofs.lemmas.Bool.Decides.{nat_tests}
use Rattle.std.proofs.lemmas.List.Elements.{All-nil, All-cons, All-head, All-tail}
use Rattle.std.specs.List.{list_all, flat_map}
use Rattle.std.specs.Prelude.{codes, All, Ok, is_some, position, slice_index}
use Rattle.bcd_1401.specs.declared.cell.Cell.{Cell}
use Rattle.bcd_1401.specs.Graphic.{graphics}
use Rattle.core_1401.specs.Address.{addresses}
use Rattle.core_1401.specs.Cells.{most_cells}
use Rattle.machine_tables.specs.declared.switch_name.SwitchName.{SwitchName}
use Rattle.machine_tables.specs.declared.switch_name.SwitchName.TheVariants.{A, B, C, D, E, F, G}
use Rattle.devices_1401.specs.Card.{card_columns}
use Rattle.devices_1401.specs.declared.card.Card.{Card}
use Rattle.machine_commands.specs.declared.command.Command.TheVariants as command
use Rattle.console_text.specs.declared.line.Line.{Line}
use Rattle.console_text.specs.declared.line.Line.TheVariants.{Empty, Command, Glance, Quit}
use Rattle.console_text.specs.declared.words.Keyword.{Keyword}
use Rattle.console_text.specs.declared.words.Keyword.TheVariants as keyword
use Rattle.console_text.specs.Words.{blank}
use Rattle.console_text.specs.ConsoleLine.{said_in_words, said_with, ended, deposit_of, examine_of}
use Rattle.machine_notation.specs.Cells.{spelled, cells_of}
use Rattle.console_text.specs.ConsoleLine.{start_of, switch_said, feed_of, run_of, glance_of}
use Rattle.console_text.specs.Words.{most_digits}
use Rattle.console_text.specs.LineText.{Part, Text, IsTyped, IsTypedBeyond, IsParted, CanBeSaid, text_of}
use Rattle.console_text.specs.LineText.{setting_text, one_cell}
use Rattle.console_text.specs.LineText.Part.{Name, Numeral}
use Rattle.console_text.specs.LineText.Text.{Blanks, Cells, Columns}
use Rattle.machine_notation.specs.Cells.{cell_text, cells_text}
use Rattle.console_text.specs.Words.{word_in, beyond_word, name_of, keyword_of, number_of, address_of, count_of}
use Rattle.console_text.specs.Words.{letter_of, switch_named, switch_of, setting_of}
use Rattle.console_text.proofs.CardTextLemmas.{card_of-all, graphics_again}
use Rattle.machine_notation.proofs.SpelledLemmas.{cell_again, spelled-append, cells_of-some}
use Rattle.console_text.proofs.WordLemmas.{Stands, IsNumeral, in_word, numeral, word_in-typed, beyond_word-typed}
use Rattle.console_text.proofs.WordLemmas.{word_in-blanks, beyond_word-blanks}

-- A word is one of a line's.
pub record IsWord (word : List ℕ) : Type 0 where
  pub some : 0 < length word
  pub whole : list_all in_word word ≡ true

keyword_is_word : (k : Keyword) → IsWord (name_of k)
keyword_is_word keyword.Deposit = record { some = omega arith; whole = refl }
keyword_is_word keyword.Examine = record { some = omega arith; whole = refl }
keyword_is_word keyword.Regs = record { some = omega arith; whole = refl }
keyword_is_word keyword.Start = record { some = omega arith; whole = refl }
keyword_is_word keyword.Switch = record { some = omega arith; whole = refl }
keyword_is_word keyword.Feed = record { some = omega arith; whole = refl }
keyword_is_word keyword.Load = record { some = omega arith; whole = refl }
keyword_is_word keyword.Run = record { some = omega arith; whole = refl }
keyword_is_word keyword.Line = record { some = omega arith; whole = refl }
keyword_is_word keyword.Card = record { some = omega arith; whole = refl }
keyword_is_word keyword.Glance = record { some = omega arith; whole = refl }
keyword_is_word keyword.Quit = record { some = omega arith; whole = refl }

keyword_is_known : (k : Keyword) → keyword_of (name_of k) ≡ Some k
unfolding keyword_of
keyword_is_known keyword.Deposit = refl
keyword_is_known keyword.Examine = refl
keyword_is_known keyword.Regs = refl
keyword_is_known keyword.Start = refl
keyword_is_known keyword.Switch = refl
keyword_is_known keyword.Feed = refl
keyword_is_known keyword.Load = refl
keyword_is_known keyword.Run = refl
keyword_is_known keyword.Line = refl
keyword_is_known keyword.Card = refl
keyword_is_known keyword.Glance = refl
keyword_is_known keyword.Quit = refl

letter_is_word : (switch : SwitchName) → IsWord (letter_of switch)
letter_is_word A = record { some = omega arith; whole = refl }
letter_is_word B = record { some = omega arith; whole = refl }
letter_is_word C = record { some = omega arith; whole = refl }
letter_is_word D = record { some = omega arith; whole = refl }
letter_is_word E = record { some = omega arith; whole = refl }
letter_is_word F = record { some = omega arith; whole = refl }
letter_is_word G = record { some = omega arith; whole = refl }

letter_is_known : (switch : SwitchName) → switch_of (letter_of switch) ≡ Ok switch
unfolding switch_named
letter_is_known A = refl
letter_is_known B = refl
letter_is_known C = refl
letter_is_known D = refl
letter_is_known E = refl
letter_is_known F = refl
letter_is_known G = refl

setting_is_word : (on : Bool) → IsWord (setting_text on)
setting_is_word true = record { some = omega arith; whole = refl }
setting_is_word false = record { some = omega arith; whole = refl }

setting_is_known : (on : Bool) → setting_of (setting_text on) ≡ Ok on
unfolding setting_of
setting_is_known true = refl
setting_is_known false = refl

-- One word of a line, and what follows it.
pub record Split (word rest line : List ℕ) : Type 0 where
  pub word_is : word_in line ≡ word
  pub rest_is : beyond_word line ≡ rest

split_by : (blanks : ℕ) (word rest line : List ℕ) → line ≡ replicate blanks blank ++ (word ++ rest) → IsWord word
    → IsParted rest → Split word rest line
split_by blanks word rest line is w parted =
    let stands : Stands blanks word rest line =
    record { some = w.some; whole = w.whole; line_is = is; rest_parted = parted } in
    record {
      word_is = word_in-typed blanks word rest line stands;
      rest_is = beyond_word-typed blanks word rest line stands;
    }

-- a name that comes first
split_name : (name : List ℕ) (blanks : ℕ) (word rest line : List ℕ) → IsWord name
    → line ≡ replicate blanks blank ++ (word ++ rest) → word ≡ name → IsParted rest → Split name rest line
split_name name blanks word rest line w is same parted =
    split_by blanks name rest line (is ∙ ap (λ word. replicate blanks blank ++ (word ++ rest)) same) w parted

-- not the number of no byte
some_bytes : (word : List ℕ) → 0 < length word → (length word == 0) ≡ false
some_bytes word some = grind (arith, nat_tests)

-- a line that begins with a known word says what that word and the rest say
said_by_keyword : (k : Keyword) (rest line : List ℕ) → Split (name_of k) rest line
    → said_in_words line ≡ said_with (Some k) rest
unfolding said_in_words
said_by_keyword k rest line s =
    rw (s.word_is, s.rest_is, some_bytes (name_of k) (keyword_is_word k).some, keyword_is_known k) refl

-- after blanks alone a line is ended
ended_by_blanks : (said : Line) (blanks : ℕ) (rest : List ℕ) → rest ≡ replicate blanks blank
    → ended rest said ≡ Ok said
unfolding ended
ended_by_blanks said blanks rest is = rw (word_in-blanks blanks rest is) refl

address_is : (address : ℕ) (word : List ℕ) → address < addresses → number_of word ≡ Ok address
    → address_of word ≡ Ok address
unfolding address_of
address_is address word in_range says = rw says (grind (arith, nat_tests))

count_is : (count : ℕ) (word : List ℕ) → IsNumeral count word → count_of word ≡ Ok count
unfolding count_of
count_is count word n = rw (some_bytes word n.some) n.says

-- a number that comes first, and what follows it
split_number : (number blanks : ℕ) (word rest line : List ℕ) → IsNumeral number word
    → line ≡ replicate blanks blank ++ (word ++ rest) → IsParted rest → Split word rest line
split_number number blanks word rest line n is parted =
    split_by blanks word rest line is (record { some = n.some; whole = n.whole }) parted

start_says : (address : ℕ) (line : List ℕ) → address < addresses → IsTyped (Numeral address ∷ []) Blanks line
    → start_of line ≡ Ok (Command (command.SetI address))
unfolding start_of
start_says address line in_range t =
    let n = numeral address t.1 (omega arith) t.4 in
    let s = split_number address t.0 t.1 t.2 line n t.3 t.5 in
    rw (s.word_is, s.rest_is, address_is address t.1 in_range n.says) (ended_by_blanks _ t.6.0 t.2 t.6.1)

glance_says : (address : ℕ) (line : List ℕ) → address < addresses → IsTyped (Numeral address ∷ []) Blanks line
    → glance_of line ≡ Ok (Glance address)
unfolding glance_of
glance_says address line in_range t =
    let n = numeral address t.1 (omega arith) t.4 in
    let s = split_number address t.0 t.1 t.2 line n t.3 t.5 in
    rw (s.word_is, s.rest_is, address_is address t.1 in_range n.says) (ended_by_blanks _ t.6.0 t.2 t.6.1)

run_says : (limit : ℕ) (line : List ℕ) → limit < 10 ^ most_digits → IsTyped (Numeral limit ∷ []) Blanks line
    → run_of line ≡ Ok (Command (command.Run limit))
unfolding run_of
run_says limit line in_range t =
    let n = numeral limit t.1 in_range t.4 in
    let s = split_number limit t.0 t.1 t.2 line n t.3 t.5 in
    rw (s.word_is, s.rest_is, n.says) (ended_by_blanks _ t.6.0 t.2 t.6.1)

examine_says : (address count : ℕ) (line : List ℕ) → address < addresses → count < 10 ^ most_digits
    → IsTyped (Numeral address ∷ Numeral count ∷ []) Blanks line
    → examine_of line ≡ Ok (Command (command.Examine address count))
unfolding examine_of
examine_says address count line in_range small t =
    let n = numeral address t.1 (omega arith) t.4 in
    let s = split_number address t.0 t.1 t.2 line n t.3 t.5 in
    let u = t.6 in
    let m = numeral count u.1 small u.4 in
    let r = split_number count u.0 u.1 u.2 t.2 m u.3 u.5 in
    rw (s.word_is, s.rest_is, address_is address t.1 in_range n.says, r.word_is, r.rest_is, count_is count u.1 m)
    (ended_by_blanks _ u.6.0 u.2 u.6.1)

switch_says : (switch : SwitchName) (on : Bool) (line : List ℕ)
    → IsTyped (Name (letter_of switch) ∷ Name (setting_text on) ∷ []) Blanks line
    → switch_said line ≡ Ok (Command (command.Switch switch on))
unfolding switch_said
switch_says switch on line t =
    let s = split_name (letter_of switch) t.0 t.1 t.2 line (letter_is_word switch) t.3 t.4 t.5 in
    let u = t.6 in
    let r = split_name (setting_text on) u.0 u.1 u.2 t.2 (setting_is_word on) u.3 u.4 u.5 in
    rw (s.word_is, s.rest_is, letter_is_known switch, r.word_is, r.rest_is, setting_is_known on)
    (ended_by_blanks _ u.6.0 u.2 u.6.1)

-- whether a character is found again by its graphic
found : Option ℕ → ℕ → Bool
found None char = false
found (Some n) char = n == char

has_own_graphic : ℕ → Bool
has_own_graphic char = found (position (λ each. each == slice_index graphics char) graphics) char

all_have : ℕ → Bool
all_have zero = true
all_have (suc n) = has_own_graphic n && all_have n

sixty_four_have : all_have 64 ≡ true
unfolding all_have has_own_graphic found graphics
sixty_four_have = refl

one_of_them : (n char : ℕ) → char < n → all_have n ≡ true → has_own_graphic char ≡ true
unfolding all_have
one_of_them zero char below all = absurd (omega arith)
one_of_them (suc n) char below all = elim (cases_lt char n) [
  | inl less ↦ one_of_them n char less (and_parts _ _ all).1
  | inr not_less ↦ let same : n ≡ char = omega arith in subst (λ c. has_own_graphic c ≡ true) same (and_parts _ _ all).0
]

found_is : (o : Option ℕ) (char : ℕ) → found o char ≡ true → o ≡ Some char
unfolding found
found_is None char h = cc
found_is (Some n) char h = ap Some (eqb-true n char h)

own_graphic : (char : ℕ) → char < 64 → position (λ each. each == slice_index graphics char) graphics ≡ Some char
unfolding has_own_graphic
own_graphic char below = found_is _ char (one_of_them 64 char below sixty_four_have)

-- what cells are typed as spells them
all_again : (cells : List Cell) → All (λ cell. cell.char < 64) cells → spelled (cells_text cells) ≡ map Some cells
unfolding cells_text spelled
all_again [] all = refl
all_again (cell ∷ cells) all =
    let P : Cell → Type 0 = λ cell. cell.char < 64 in
    let one : spelled (cell_text cell) ≡ Some cell ∷ [] =
    cell_again cell (own_graphic cell.char (All-head P cell cells all)) in
    let more : spelled (flat_map cell_text cells) ≡ map Some cells = all_again cells (All-tail P cell cells all) in
    let there : list_all is_some (spelled (cell_text cell)) ≡ true = ap (list_all is_some) one in
    spelled-append (cell_text cell) (flat_map cell_text cells) there ∙ rw (one, more) refl

text_says : (cells : List Cell) (rest : List ℕ) → 1 ≤ length cells → length cells ≤ most_cells
    → All (λ cell. cell.char < 64) cells → IsTypedBeyond (Cells cells) rest
    → cells_of (spelled (drop 1 rest)) ≡ Ok cells
text_says cells rest some few all t = rw (t, all_again cells all) (cells_of-some cells some few)

deposit_says : (address : ℕ) (cells : List Cell) (line : List ℕ) → CanBeSaid (Command (command.Deposit address cells))
    → IsTyped (Numeral address ∷ []) (Cells cells) line
    → deposit_of line ≡ Ok (Command (command.Deposit address cells))
unfolding deposit_of
deposit_says address cells line can t =
    let n = numeral address t.1 (omega (arith, can.0)) t.4 in
    let s = split_number address t.0 t.1 t.2 line n t.3 t.5 in
    rw (s.word_is, s.rest_is, address_is address t.1 can.0 n.says, text_says cells t.2 can.1 can.2 can.3 t.6) refl

-- a card's characters have graphics of their own
all_own : (chars : List ℕ) → All (λ char. char < 64) chars
    → All (λ char. position (λ each. each == slice_index graphics char) graphics ≡ Some char) chars
all_own [] all = All-nil (λ char. position (λ each. each == slice_index graphics char) graphics ≡ Some char)
all_own (char ∷ chars) all =
    let P : ℕ → Type 0 = λ char. char < 64 in
    let Own : ℕ → Type 0 = λ char. position (λ each. each == slice_index graphics char) graphics ≡ Some char in
    All-cons Own char chars (own_graphic char (All-head P char chars all)) (all_own chars (All-tail P char chars all))

All-front : (P : ℕ → Type 0) (xs ys : List ℕ) → All P (xs ++ ys) → All P xs
All-front P [] ys all = All-nil P
All-front P (x ∷ xs) ys all =
    All-cons P x xs (All-head P x (xs ++ ys) all) (All-front P xs ys (All-tail P x (xs ++ ys) all))

feed_says : (card : Card) (rest : List ℕ) → CanBeSaid (Command (command.Feed card))
    → IsTypedBeyond (Columns card) rest
    → feed_of rest ≡ Ok (Command (command.Feed card))
unfolding feed_of
feed_says card rest can t =
    let columns : List ℕ = t.0 in
    let P : ℕ → Type 0 = λ char. char < 64 in
    let blanks : List ℕ = replicate (card_columns - length columns) 0 in
    let is : card.0 ≡ columns ++ blanks = ap (λ (card : Card). card.0) t.2 in
    let few : length columns ≤ 80 = omega (arith, can.0, ap length is, length-append columns blanks) in
    let all : All P columns = All-front P columns blanks (subst (All P) is can.1) in
    rw (t.1, graphics_again columns (all_own columns all), card_of-all columns few)
    (ap (λ (card : Card). Ok (Command (command.Feed card))) (sym t.2))

-- by its first word
by_keyword : (k : Keyword) (beyond : Text) (parts : List Part) (line : List ℕ) (said : Line)
    → (t : IsTyped (Name (name_of k) ∷ parts) beyond line)
    → said_with (Some k) t.2 ≡ Ok said → said_in_words line ≡ Ok said
by_keyword k beyond parts line said t says =
    said_by_keyword k t.2 line (split_name (name_of k) t.0 t.1 t.2 line (keyword_is_word k) t.3 t.4 t.5) ∙ says

-- what is typed for a line is what its words say
pub in_words : (said : Line) (line : List ℕ) → CanBeSaid said → IsTyped (text_of said).parts (text_of said).beyond line
    → said_in_words line ≡ Ok said
unfolding said_in_words said_with
in_words Empty line can t = rw (word_in-blanks t.0 line t.1) refl
in_words (Command (command.Deposit address cells)) line can t =
    by_keyword keyword.Deposit (Cells cells) (Numeral address ∷ []) line _ t (deposit_says address cells t.2 can t.6)
in_words (Command (command.Examine address count)) line can t =
    let parts = Numeral address ∷ Numeral count ∷ [] in
    by_keyword keyword.Examine Blanks parts line _ t (examine_says address count t.2 can.0 can.1 t.6)
in_words (Command command.Registers) line can t =
    by_keyword keyword.Regs Blanks [] line _ t (ended_by_blanks _ t.6.0 t.2 t.6.1)
in_words (Command (command.SetI address)) line can t =
    by_keyword keyword.Start Blanks (Numeral address ∷ []) line _ t (start_says address t.2 can t.6)
in_words (Command (command.Switch switch on)) line can t =
    let parts = Name (letter_of switch) ∷ Name (setting_text on) ∷ [] in
    by_keyword keyword.Switch Blanks parts line _ t (switch_says switch on t.2 t.6)
in_words (Command (command.Feed card)) line can t =
    by_keyword keyword.Feed (Columns card) [] line _ t (feed_says card t.2 can t.6)
in_words (Command command.LoadKey) line can t =
    by_keyword keyword.Load Blanks [] line _ t (ended_by_blanks _ t.6.0 t.2 t.6.1)
in_words (Command (command.Run limit)) line can t =
    by_keyword keyword.Run Blanks (Numeral limit ∷ []) line _ t (run_says limit t.2 can t.6)
in_words (Command command.TakeLine) line can t =
    by_keyword keyword.Line Blanks [] line _ t (ended_by_blanks _ t.6.0 t.2 t.6.1)
in_words (Command command.TakeCard) line can t =
    by_keyword keyword.Card Blanks [] line _ t (ended_by_blanks _ t.6.0 t.2 t.6.1)
in_words (Command (command.Fit features)) line can t = absurd can
in_words (Glance address) line can t =
    by_keyword keyword.Glance Blanks (Numeral address ∷ []) line _ t (glance_says address t.2 can t.6)
in_words Quit line can t = by_keyword keyword.Quit Blanks [] line _ t (ended_by_blanks _ t.6.0 t.2 t.6.1)

-- an address alone
one_says : (address : ℕ) (line : List ℕ) → address < addresses → IsTyped (Numeral address ∷ []) Blanks line
    → examine_of line ≡ Ok (one_cell address)
unfolding examine_of count_of
one_says address line in_range t =
    let n = numeral address t.1 (omega arith) t.4 in
    let s = split_number address t.0 t.1 t.2 line n t.3 t.5 in
    let word = word_in-blanks t.6.0 t.2 t.6.1 in
    let beyond = beyond_word-blanks t.6.0 t.2 t.6.1 in
    rw (s.word_is, s.rest_is, address_is address t.1 in_range n.says, word, beyond) (ended_by_blanks _ 0 [] refl)

-- EXAMINE and an address are what its words say
pub in_words-one : (address : ℕ) (line : List ℕ) → address < addresses
    → IsTyped (Name (codes "EXAMINE") ∷ Numeral address ∷ []) Blanks line → said_in_words line ≡ Ok (one_cell address)
unfolding said_with
in_words-one address line in_range t =
    by_keyword keyword.Examine Blanks (Numeral address ∷ []) line _ t (one_says address t.2 in_range t.6)

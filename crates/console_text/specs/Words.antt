-- The words of a line, and the numbers among them (own).
use Rattle.std.specs.Prelude.{ℕ, ◌==◌, nat_le, nat_lt, Bool, true, false, ◌&&◌, if◌then◌else◌, List}
use Rattle.std.specs.Prelude.{[], ◌∷◌, length, drop, find, Option, Result, Ok, Err, codes}
use Rattle.std.specs.List.{prefix_len, position_or_len, before_first, list_all}
use Rattle.std.specs.Option.{ok_or}
use Rattle.std.specs.Str.{bytes_eq}
use Rattle.bcd_1401.specs.Digits.{is_digit, value_of}
use Rattle.core_1401.specs.Address.{addresses}
use Rattle.machine_tables.specs.declared.switch_name.SwitchName.{SwitchName}
use Rattle.machine_tables.specs.declared.switch_name.SwitchName.TheVariants.{A, B, C, D, E, F, G}
use Rattle.console_text.specs.declared.line.LineFault.{LineFault}
use Rattle.console_text.specs.declared.line.LineFault.TheVariants.{Word, Number}
use Rattle.console_text.specs.declared.words.Keyword.{Keyword}
use Rattle.console_text.specs.declared.words.Keyword.TheVariants.{Deposit, Examine, Regs, Start, Switch, Feed, Load}
use Rattle.console_text.specs.declared.words.Keyword.TheVariants.{Run, Line, Card, Glance, Quit}

infixl 10 ◌>>=◌
-- what is on the left, and if it has no fault, what follows it
abbrev pub ◌>>=◌ : {A B : Type 0} → Result A LineFault → (A → Result B LineFault) → Result B LineFault
Ok value >>= beyond = beyond value
Err fault >>= beyond = Err fault

-- it parts words
abbrev pub blank : ℕ
blank = 32

-- no other byte parts words
abbrev pub is_blank : ℕ → Bool
is_blank byte = byte == blank

-- a text from its first byte on that is no blank
abbrev pub without_blanks : List ℕ → List ℕ
without_blanks text = drop (prefix_len is_blank text) text

-- the first word of a text, up to the next blank or the end; of blanks alone the word without a byte
unfoldable pub word_in : List ℕ → List ℕ
word_in text = before_first is_blank (without_blanks text)

-- what follows the first word: nothing, or a blank and what follows it
unfoldable pub beyond_word : List ℕ → List ℕ
beyond_word text = drop (position_or_len is_blank (without_blanks text)) (without_blanks text)

-- the words that a line may begin with
abbrev pub name_of : Keyword → List ℕ
name_of Deposit = codes "DEPOSIT"
name_of Examine = codes "EXAMINE"
name_of Regs = codes "REGS"
name_of Start = codes "START"
name_of Switch = codes "SWITCH"
name_of Feed = codes "FEED"
name_of Load = codes "LOAD"
name_of Run = codes "RUN"
name_of Line = codes "LINE"
name_of Card = codes "CARD"
name_of Glance = codes "GLANCE"
name_of Quit = codes "QUIT"

abbrev pub keywords : List Keyword
keywords =
    Deposit ∷ Examine ∷ Regs ∷ Start ∷ Switch ∷ Feed ∷ Load ∷ Run ∷ Line ∷ Card ∷ Glance ∷ Quit ∷ []

-- the one of them that a word is
unfoldable pub keyword_of : List ℕ → Option Keyword
keyword_of word = find (λ keyword. bytes_eq (name_of keyword) word) keywords

-- the most digits that a number has
abbrev pub most_digits : ℕ
most_digits = 7

-- a number is a word of one to seven digits
unfoldable pub number_of : List ℕ → Result ℕ LineFault
number_of word =
    if nat_le 1 (length word) && nat_le (length word) most_digits && list_all is_digit word then Ok (value_of word)
    else Err Number

-- an address is a number below 16,000
unfoldable pub address_of : List ℕ → Result ℕ LineFault
address_of word = do
  number ← number_of word
  if nat_lt number addresses then Ok number else Err Number

-- a count is a number, and 1 if there is no word
unfoldable pub count_of : List ℕ → Result ℕ LineFault
count_of word = if length word == 0 then Ok 1 else number_of word

-- a sense switch by its letter
abbrev pub letter_of : SwitchName → List ℕ
letter_of A = codes "A"
letter_of B = codes "B"
letter_of C = codes "C"
letter_of D = codes "D"
letter_of E = codes "E"
letter_of F = codes "F"
letter_of G = codes "G"

abbrev pub switches : List SwitchName
switches = A ∷ B ∷ C ∷ D ∷ E ∷ F ∷ G ∷ []

-- the switch that a word names by its letter
unfoldable pub switch_named : List ℕ → Option SwitchName
switch_named word = find (λ switch. bytes_eq (letter_of switch) word) switches

abbrev pub switch_of : List ℕ → Result SwitchName LineFault
switch_of word = ok_or (switch_named word) Word

-- on or off
unfoldable pub setting_of : List ℕ → Result Bool LineFault
setting_of word =
    if bytes_eq word (codes "ON") then Ok true
    else (if bytes_eq word (codes "OFF") then Ok false else Err Word)

-- An entry read from its line, and what is read as one.
use Rattle.std.proofs.Common.{◌≡◌, ℕ, zero, suc, ◌+◌, ◌<◌, ◌≤◌, ◌==◌, ◌&&◌, Bool, true, false}
use Rattle.std.proofs.Common.{nat_le, nat_lt}
use Rattle.std.proofs.Common.{if◌then◌else◌, List, [], ◌∷◌, ◌++◌, length}
use Rattle.std.proofs.Common.{Option, None}
use Rattle.std.proofs.Common.{Some, Result, Ok, Err, refl, sym, ap, ◌∙◌, subst, arith, inl, inr}
use Rattle.std.specs.Prelude.{IfOk, IfErr}
use Rattle.std.specs.Fmt.{digits}
use Rattle.std.specs.List.{list_all}
use Rattle.std.specs.Option.{ok_or, option_map_or}
use Rattle.std.proofs.lemmas.Bool.{and_parts, cases_lt, eqb-true, ltb-true}
use Rattle.std.proofs.lemmas.Bool.Decides.{nat_tests}
use Rattle.std.proofs.lemmas.List.{append_assoc}
use Rattle.machine_notation.specs.Digits.{digits_in, number_in}
use Rattle.machine_notation.specs.Prefix.{after_prefix}
use Rattle.machine_notation.proofs.PrefixLemmas.{after_prefix_again, after_prefix_takes}
use Rattle.machine_commands.specs.declared.answer.Answer.{Answer}
use Rattle.machine_commands.specs.declared.command.Command.{Command}
use Rattle.machine_commands.specs.declared.command.Command.TheVariants.{Fit}
use Rattle.console_text.specs.declared.line.Line.{Line}
use Rattle.console_text.specs.declared.line.Line.TheVariants as line
use Rattle.console_text.specs.declared.line.LineFault.{LineFault}
use Rattle.console_text.specs.declared.line.LineFault.TheVariants as fault
use Rattle.console_text.specs.AnswerText.{answer_text}
use Rattle.console_text.specs.CommandText.{command_text}
use Rattle.console_text.specs.ConsoleLine.{said_by, said_in_words, most_line_bytes}
use Rattle.console_text.specs.LineText.{CanBeSaid}
use Rattle.console_text.specs.FitText.{fit_of, fit_text}
use Rattle.machine_tables.specs.declared.features.Features.{Features}
use Rattle.console_text.proofs.FitTextLemmas.{fit_again, fit_exact, fit_short, fit_unknown}
use Rattle.console_text.proofs.CommandTextLemmas.{line_of_command}
use Rattle.console_text.proofs.LineTextLemmas.{in_words}
use Rattle.console_text.proofs.SayableLemmas.{words_can}
use Rattle.room_alone.specs.declared.entry.Entry.{Entry}
use Rattle.room_alone.specs.Journal.{answer_to, entry, is_full}
use Rattle.room_files.specs.declared.journal_fault.Wrong.{Wrong}
use Rattle.room_files.specs.declared.journal_fault.Wrong.TheVariants as wrong
use Rattle.room_files.specs.JournalText.{CanBeKept, CanBeRead, entry_text, tab, with_feed, with_tab}
use Rattle.room_files.specs.Reading.{◌>>=◌, answer_at, command_at, command_in, entry_at, field, if_command}
use Rattle.room_files.specs.Reading.{if_seat, number_at, seat_at, seat_in}
use Rattle.room_files.proofs.TabLemmas.{command_all, digits_all, field_is, no_tab}

-- what was read first, and what then
pub first_read : {A B : Type 0} (read : Result A Wrong) (more : A → Result B Wrong) (found : B)
    → (read >>= more) ≡ Ok found → (value : A) × (read ≡ Ok value) × (more value ≡ Ok found)
first_read (Ok value) more found h = (value, refl, h)
first_read (Err why) more found h = absurd cc

pub then_read : {A B : Type 0} (read : Result A Wrong) (value : A) (more : A → Result B Wrong) (found : Result B Wrong)
    → read ≡ Ok value → more value ≡ found → (read >>= more) ≡ found
then_read {A} {B} read value more found h k = ap (λ (r : Result A Wrong). r >>= more) h ∙ k

pub there_is : {A : Type 0} (found : Option A) (why : Wrong) (value : A) → ok_or found why ≡ Ok value
    → found ≡ Some value
there_is None why value h = absurd cc
there_is (Some found) why value h = cc

pub there_is_ok : {A : Type 0} (found : Option A) (why : Wrong) (value : A) → found ≡ Some value
    → ok_or found why ≡ Ok value
there_is_ok found why value h = ap (λ o. ok_or o why) h

-- what passes a test
passed : {A : Type 0} (test : Bool) (found : Option A) (value : A) → (if test then found else None) ≡ Some value
    → (test ≡ true) × (found ≡ Some value)
passed true found value h = (refl, h)
passed false found value h = absurd cc

seat_small : (number : Option ℕ) (seat : ℕ) → if_seat number ≡ Some seat → seat < 256
seat_small None seat h = absurd cc
seat_small (Some number) seat h =
    let p = passed (nat_lt number 256) (Some number) seat h in
    let small : number < 256 = ltb-true number 256 p.0 in
    let same : number ≡ seat = cc p.1 in
    omega (arith, small, same)

seat_below : (text : List ℕ) (seat : ℕ) → seat_in text ≡ Some seat → seat < 256
unfolding seat_in
seat_below text seat h =
    let p = passed (nat_le (length text) 3) (if_seat (number_in text)) seat h in seat_small (number_in text) seat p.1

-- A field was read, and is at the front.
pub record Found {A : Type 0} (spell : A → List ℕ) (IsGood : A → Type 0) (text : List ℕ) (found : A × List ℕ)
    : Type 0 where
  pub text_is : text ≡ spell found.0 ++ found.1
  pub good : IsGood found.0

-- a seat as it is written
abbrev pub seat_text : ℕ → List ℕ
seat_text seat = with_tab (digits_in 1 seat)

-- a command as it is written
abbrev pub command_part : Command → List ℕ
command_part command = with_tab (command_text command)

found_by : {A : Type 0} (spell : A → List ℕ) (IsGood : A → Type 0) (text : List ℕ) (read : Option A) (why : Wrong)
    (found : A × List ℕ)
    → (ok_or read why >>= λ value. (ok_or (after_prefix (spell value) text) why >>= λ rest. Ok (value, rest))) ≡ Ok found
    → ((value : A) → read ≡ Some value → IsGood value) → Found spell IsGood text found
found_by {A} spell IsGood text read why found h good =
    let first =
    first_read (ok_or read why)
    (λ value. (ok_or (after_prefix (spell value) text) why >>= λ rest. Ok (value, rest))) found h in
    let value : A = first.0 in
    let second = first_read (ok_or (after_prefix (spell value) text) why) (λ rest. Ok (value, rest)) found first.2 in
    let rest : List ℕ = second.0 in
    let pair : A × List ℕ = (value, rest) in
    let same : pair ≡ found = cc second.2 in
    let here : Found spell IsGood text pair = record {
      text_is = after_prefix_takes (spell value) text rest (there_is (after_prefix (spell value) text) why rest second.1);
      good = good value (there_is read why value first.1);
    } in
    subst (Found spell IsGood text) same here

pub seat_takes : (text : List ℕ) (found : ℕ × List ℕ) → seat_at text ≡ Ok found
    → Found seat_text (λ seat. seat < 256) text found
unfolding seat_at
seat_takes text found h =
    found_by seat_text (λ seat. seat < 256) text (seat_in (field text)) wrong.Seat found h (seat_below (field text))

command_can : (said : Result Line LineFault) (command : Command) → IfOk said CanBeSaid → if_command said ≡ Some command
    → CanBeSaid (line.Command command)
command_can (Ok line.Empty) command can h = absurd cc
command_can (Ok (line.Command said)) command can h =
    subst (λ (c : Command). CanBeSaid (line.Command c)) (cc h) can
command_can (Ok (line.Glance address)) command can h = absurd cc
command_can (Ok line.Quit) command can h = absurd cc
command_can (Err fault) command can h = absurd cc

-- what is read from a field can be read
read_can : (fit : Option Features) (said : Result Line LineFault) (command : Command) → IfOk said CanBeSaid
    → option_map_or (λ features. Some (Fit features)) fit (if_command said) ≡ Some command
    → CanBeRead command
read_can None said command can h = inl (command_can said command can h)
read_can (Some features) said command can h = inr (features, cc h)

-- what a line says can be said
said_can : (long : Bool) (said : Result Line LineFault) (fault : LineFault) → IfOk said CanBeSaid
    → IfOk (if long then Err fault else said) CanBeSaid
said_can true said fault can = tt
said_can false said fault can = can

line_can : (text : List ℕ) → IfOk (said_by text) CanBeSaid
unfolding said_by
line_can text = said_can (nat_lt most_line_bytes (length text)) (said_in_words text) fault.Length (words_can text)

pub command_takes : (text : List ℕ) (found : Command × List ℕ) → command_at text ≡ Ok found
    → Found command_part CanBeRead text found
unfolding command_at
command_takes text found h =
    found_by command_part CanBeRead text (command_in (field text)) wrong.Command found h
    (λ command is. read_can (fit_of (field text)) (said_by (field text)) command (line_can (field text)) is)

-- The journal has room, and the answer is at the front.
pub record Answered (journal : List Entry) (answer : Answer) (text rest : List ℕ) : Type 0 where
  pub not_full : is_full journal ≡ false
  pub text_is : text ≡ with_feed (answer_text answer) ++ rest

answered : (full : Bool) (answer : Answer) (text rest : List ℕ)
    → (if full then Err wrong.Full else ok_or (after_prefix (with_feed (answer_text answer)) text) wrong.Answer) ≡ Ok rest
    → (full ≡ false) × (text ≡ with_feed (answer_text answer) ++ rest)
answered true answer text rest h = absurd cc
answered false answer text rest h =
    let front = with_feed (answer_text answer) in
    (refl, after_prefix_takes front text rest (there_is (after_prefix front text) wrong.Answer rest h))

regroup : (number seat command answer rest : List ℕ)
    → (((number ++ seat) ++ command) ++ answer) ++ rest ≡ number ++ (seat ++ (command ++ (answer ++ rest)))
regroup number seat command answer rest = simp append_assoc

-- What is read as an entry is its line, and what follows it.
pub record IsEntryOf (size : ℕ) (journal : List Entry) (text : List ℕ) (found : Entry × List ℕ) : Type 0 where
  pub text_is : text ≡ entry_text (length journal + 1) found.0 ++ found.1
  pub kept : CanBeKept found.0
  pub not_full : is_full journal ≡ false
  pub answer_is : found.0.answer ≡ answer_to size journal found.0.command

pub entry_takes : (size : ℕ) (journal : List Entry) (text : List ℕ) (found : Entry × List ℕ)
    → entry_at size journal text ≡ Ok found → IsEntryOf size journal text found
unfolding entry_at number_at answer_at entry_text
entry_takes size journal text found h =
    let due = with_tab (digits_in 1 (length journal + 1)) in
    let a = first_read (number_at (length journal + 1) text) _ found h in
    let b = first_read (seat_at a.0) _ found a.2 in
    let c = first_read (command_at b.0.1) _ found b.2 in
    let answer : Answer = answer_to size journal c.0.0 in
    let d = first_read (answer_at journal answer c.0.1) _ found c.2 in
    let pair : Entry × List ℕ = (entry b.0.0 c.0.0 answer, d.0) in
    let same : pair ≡ found = cc d.2 in
    let number : text ≡ due ++ a.0 = after_prefix_takes due text a.0 (there_is (after_prefix due text) wrong.Number a.0 a.1) in
    let seat = seat_takes a.0 b.0 b.1 in
    let command = command_takes b.0.1 c.0 c.1 in
    let last = answered (is_full journal) answer c.0.1 d.0 d.1 in
    let parts : text ≡ due ++ (seat_text b.0.0 ++ (command_part c.0.0 ++ (with_feed (answer_text answer) ++ d.0))) =
    number ∙ ap (λ (t : List ℕ). due ++ t) (seat.text_is ∙ ap (λ (t : List ℕ). seat_text b.0.0 ++ t)
    (command.text_is ∙ ap (λ (t : List ℕ). command_part c.0.0 ++ t) last.1)) in
    let here : IsEntryOf size journal text pair = record {
      text_is =
          parts ∙ sym (regroup due (seat_text b.0.0) (command_part c.0.0) (with_feed (answer_text answer)) d.0);
      kept = (command.good, seat.good);
      not_full = last.0;
      answer_is = refl;
    } in
    subst (IsEntryOf size journal text) same here

-- whether a seat is found in its digits
is_found : Option ℕ → ℕ → Bool
is_found None seat = false
is_found (Some found) seat = found == seat

are_found : ℕ → Bool
are_found zero = true
are_found (suc n) = is_found (seat_in (digits_in 1 n)) n && are_found n

all_found : are_found 256 ≡ true
unfolding are_found is_found seat_in number_in digits
all_found = refl

one_found : (n seat : ℕ) → seat < n → are_found n ≡ true → is_found (seat_in (digits_in 1 seat)) seat ≡ true
unfolding are_found
one_found zero seat below all = absurd (omega arith)
one_found (suc n) seat below all = elim (cases_lt seat n) [
  | inl less ↦ one_found n seat less (and_parts (is_found (seat_in (digits_in 1 n)) n) (are_found n) all).1
  | inr not_less ↦
      let same : n ≡ seat = omega arith in
      subst (λ s. is_found (seat_in (digits_in 1 s)) s ≡ true) same
      (and_parts (is_found (seat_in (digits_in 1 n)) n) (are_found n) all).0
]

found_is : (found : Option ℕ) (seat : ℕ) → is_found found seat ≡ true → found ≡ Some seat
unfolding is_found
found_is None seat h = cc
found_is (Some found) seat h = ap Some (eqb-true found seat h)

seat_is : (seat : ℕ) → seat < 256 → seat_in (digits_in 1 seat) ≡ Some seat
seat_is seat below = found_is (seat_in (digits_in 1 seat)) seat (one_found 256 seat below all_found)

-- a field that is read, written again, and found at the front
abbrev read_field : {A : Type 0} → (A → List ℕ) → (List ℕ → Option A) → Wrong → List ℕ → Result (A × List ℕ) Wrong
read_field spell read why text =
    ok_or (read (field text)) why >>= λ value. (ok_or (after_prefix (spell value) text) why >>= λ rest. Ok (value, rest))

read_again : {A : Type 0} (spell : A → List ℕ) (read : List ℕ → Option A) (why : Wrong) (value : A)
    (word text rest : List ℕ)
    → spell value ≡ with_tab word → list_all no_tab word ≡ true → read word ≡ Some value → text ≡ spell value ++ rest
    → read_field spell read why text ≡ Ok (value, rest)
read_again {A} spell read why value word text rest spelled all reads is =
    let named : text ≡ word ++ tab ∷ rest =
    is ∙ ap (λ (t : List ℕ). t ++ rest) spelled ∙ append_assoc word (tab ∷ []) rest in
    let first_field : field text ≡ word = ap field named ∙ field_is word rest all in
    let found : ok_or (read (field text)) why ≡ Ok value =
    ap (λ (w : List ℕ). ok_or (read w) why) first_field ∙ there_is_ok (read word) why value reads in
    let left : ok_or (after_prefix (spell value) text) why ≡ Ok rest =
    there_is_ok (after_prefix (spell value) text) why rest (ap (after_prefix (spell value)) is ∙ after_prefix_again (spell value) rest) in
    let pair : A × List ℕ = (value, rest) in
    let done : Result (A × List ℕ) Wrong = Ok pair in
    let last : List ℕ → Result (A × List ℕ) Wrong = λ rest. Ok (value, rest) in
    let more : A → Result (A × List ℕ) Wrong =
    λ value. (ok_or (after_prefix (spell value) text) why >>= λ rest. Ok (value, rest)) in
    then_read (ok_or (read (field text)) why) value more done found
    (then_read (ok_or (after_prefix (spell value) text) why) rest last done left refl)

seat_again : (seat : ℕ) (rest : List ℕ) → seat < 256 → seat_at (seat_text seat ++ rest) ≡ Ok (seat, rest)
unfolding seat_at
seat_again seat rest below =
    read_again seat_text seat_in wrong.Seat seat (digits_in 1 seat) (seat_text seat ++ rest) rest refl
    (digits_all 1 seat (omega arith)) (seat_is seat below) refl

said_again : (command : Command) → CanBeSaid (line.Command command)
    → said_by (command_text command) ≡ Ok (line.Command command)
unfolding said_by
said_again command can =
    let is = line_of_command command can in
    let few : length (command_text command) ≤ most_line_bytes = is.short in
    let short : nat_lt most_line_bytes (length (command_text command)) ≡ false = grind (arith, nat_tests) in
    rw short (in_words (line.Command command) (command_text command) can is.typed)

-- what fits a machine is said by no line
fit_unsaid : (features : Features) → said_by (fit_text features) ≡ Err fault.Word
unfolding said_by
fit_unsaid features =
    let few : length (fit_text features) ≤ most_line_bytes = fit_short features in
    let short : nat_lt most_line_bytes (length (fit_text features)) ≡ false = grind (arith, nat_tests) in
    rw short (fit_unknown features)

no_fit : (fit : Option Features) (text : List ℕ) (said : Line) → fit_of text ≡ fit → said_by text ≡ Ok said
    → fit ≡ None
no_fit None text said is h = refl
no_fit (Some features) text said is h =
    let unsaid : said_by text ≡ Err fault.Word = ap said_by (fit_exact text features is) ∙ fit_unsaid features in
    let both : Ok said ≡ Err fault.Word = sym h ∙ unsaid in
    absurd cc

-- a command is read from its text
in_field : (command : Command) → CanBeRead command → command_in (command_text command) ≡ Some command
unfolding command_text
in_field command (inl can) =
    let text : List ℕ = command_text command in
    let said : said_by text ≡ Ok (line.Command command) = said_again command can in
    let none : fit_of text ≡ None = no_fit (fit_of text) text (line.Command command) refl said in
    ap (λ (fit : Option Features). option_map_or (λ features. Some (Fit features)) fit (if_command (said_by text)))
    none
    ∙ ap if_command said
in_field command (inr fit) =
    let text : List ℕ = fit_text fit.0 in
    ap (λ (c : Command). command_in (command_text c)) fit.1
    ∙ ap (λ (found : Option Features).
    option_map_or (λ features. Some (Fit features)) found (if_command (said_by text))) (fit_again fit.0)
    ∙ ap Some (sym fit.1)

command_again : (command : Command) (rest : List ℕ) → CanBeRead command
    → command_at (command_part command ++ rest) ≡ Ok (command, rest)
unfolding command_at
command_again command rest can =
    read_again command_part command_in wrong.Command command (command_text command) (command_part command ++ rest) rest
    refl (command_all command can) (in_field command can) refl

answer_again : (full : Bool) (due answer : Answer) (rest : List ℕ) → full ≡ false → answer ≡ due
    → (if full then Err wrong.Full
    else ok_or (after_prefix (with_feed (answer_text due)) (with_feed (answer_text answer) ++ rest)) wrong.Answer) ≡ Ok rest
answer_again true due answer rest h same = absurd cc
answer_again false due answer rest h same =
    let front : List ℕ = with_feed (answer_text due) in
    ap (λ (each : Answer). ok_or (after_prefix front (with_feed (answer_text each) ++ rest)) wrong.Answer) same
    ∙ there_is_ok (after_prefix front (front ++ rest)) wrong.Answer rest (after_prefix_again front rest)

-- the line of an entry is read as the entry, if the machine answers as it says
pub entry_again : (size : ℕ) (journal : List Entry) (e : Entry) (rest : List ℕ) → CanBeKept e
    → is_full journal ≡ false → e.answer ≡ answer_to size journal e.command
    → entry_at size journal (entry_text (length journal + 1) e ++ rest) ≡ Ok (e, rest)
unfolding entry_at number_at answer_at entry_text
entry_again size journal e rest can not_full answered_so =
    let due : List ℕ = with_tab (digits_in 1 (length journal + 1)) in
    let answer : Answer = answer_to size journal e.command in
    let last : List ℕ = with_feed (answer_text e.answer) ++ rest in
    let from_command : List ℕ = command_part e.command ++ last in
    let from_seat : List ℕ = seat_text e.seat ++ from_command in
    let parts : entry_text (length journal + 1) e ++ rest ≡ due ++ from_seat =
    regroup due (seat_text e.seat) (command_part e.command) (with_feed (answer_text e.answer)) rest in
    let number : number_at (length journal + 1) (due ++ from_seat) ≡ Ok from_seat =
    there_is_ok (after_prefix due (due ++ from_seat)) wrong.Number from_seat (after_prefix_again due from_seat) in
    let seat : seat_at from_seat ≡ Ok (e.seat, from_command) = seat_again e.seat from_command can.1 in
    let said : command_at from_command ≡ Ok (e.command, last) = command_again e.command last can.0 in
    let compared : answer_at journal answer last ≡ Ok rest =
    answer_again (is_full journal) answer e.answer rest not_full answered_so in
    let pair : Entry × List ℕ = (e, rest) in
    let done : Result (Entry × List ℕ) Wrong = Ok pair in
    let recorded : Answer → Result (Entry × List ℕ) Wrong = λ each. Ok (entry e.seat e.command each, rest) in
    let whole : recorded answer ≡ done = ap recorded (sym answered_so) in
    ap (entry_at size journal) parts
    ∙ then_read (number_at (length journal + 1) (due ++ from_seat)) from_seat _ done number
    (then_read (seat_at from_seat) (e.seat, from_command) _ done seat
    (then_read (command_at from_command) (e.command, last) _ done said
    (then_read (answer_at journal answer last) rest _ done compared whole)))

-- what can be wrong with the line of an entry
abbrev pub IsOfEntry : Wrong → Type 0
IsOfEntry wrong.Memory = ⊥
IsOfEntry wrong.Header = ⊥
IsOfEntry wrong.Number = Unit {0}
IsOfEntry wrong.Seat = Unit {0}
IsOfEntry wrong.Command = Unit {0}
IsOfEntry wrong.Answer = Unit {0}
IsOfEntry wrong.Full = Unit {0}
IsOfEntry wrong.Unfinished = ⊥

of_both : {A B : Type 0} (read : Result A Wrong) (more : A → Result B Wrong) → IfErr read IsOfEntry
    → ((value : A) → IfErr (more value) IsOfEntry) → IfErr (read >>= more) IsOfEntry
of_both (Ok value) more h k = k value
of_both (Err why) more h k = h

of_option : {A : Type 0} (found : Option A) (why : Wrong) → IsOfEntry why → IfErr (ok_or found why) IsOfEntry
of_option None why h = h
of_option (Some value) why h = tt

of_answer : (full : Bool) (found : Option (List ℕ))
    → IfErr (if full then Err wrong.Full else ok_or found wrong.Answer) IsOfEntry
of_answer true found = tt
of_answer false found = of_option found wrong.Answer tt

of_seat : (text : List ℕ) → IfErr (seat_at text) IsOfEntry
unfolding seat_at
of_seat text =
    of_both (ok_or (seat_in (field text)) wrong.Seat) _ (of_option (seat_in (field text)) wrong.Seat tt) (λ seat.
    of_both (ok_or (after_prefix (seat_text seat) text) wrong.Seat) (λ rest. Ok (seat, rest))
    (of_option (after_prefix (seat_text seat) text) wrong.Seat tt) (λ rest. tt))

of_command : (text : List ℕ) → IfErr (command_at text) IsOfEntry
unfolding command_at
of_command text =
    let found : Option Command = command_in (field text) in
    of_both (ok_or found wrong.Command) _ (of_option found wrong.Command tt) (λ said.
    of_both (ok_or (after_prefix (command_part said) text) wrong.Command) (λ rest. Ok (said, rest))
    (of_option (after_prefix (command_part said) text) wrong.Command tt) (λ rest. tt))

pub of_entry : (size : ℕ) (journal : List Entry) (text : List ℕ) → IfErr (entry_at size journal text) IsOfEntry
unfolding entry_at number_at answer_at
of_entry size journal text =
    let due : List ℕ = with_tab (digits_in 1 (length journal + 1)) in
    of_both (number_at (length journal + 1) text) _ (of_option (after_prefix due text) wrong.Number tt) (λ from_seat.
    of_both (seat_at from_seat) _ (of_seat from_seat) (λ seat.
    of_both (command_at seat.1) _ (of_command seat.1) (λ said.
    of_both (answer_at journal (answer_to size journal said.0) said.1) _
    (of_answer (is_full journal) (after_prefix (with_feed (answer_text (answer_to size journal said.0))) said.1))
    (λ rest. tt))))

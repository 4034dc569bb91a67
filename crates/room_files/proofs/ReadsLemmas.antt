-- A journal's text read line by line.
use Rattle.std.proofs.Common.{◌≡◌, ℕ, ◌+◌, ◌<◌, ◌≤◌, ◌==◌, ◌||◌, Bool, true, false, List, [], ◌∷◌, ◌++◌}
use Rattle.std.proofs.Common.{length, map}
use Rattle.std.proofs.Common.{Some, Result, Ok, Err, refl, sym, ap, ◌∙◌, subst, arith, length-append}
use Rattle.std.specs.Prelude.{All, IfErr, codes}
use Rattle.std.specs.Fmt.{digits}
use Rattle.std.specs.List.{list_any}
use Rattle.std.proofs.lemmas.Bool.{eqb-true}
use Rattle.std.proofs.lemmas.Bool.Decides.{nat_tests}
use Rattle.std.proofs.lemmas.List.{append_assoc, append-nil}
use Rattle.std.proofs.lemmas.List.Elements.{All-nil, All-cons, All-head, All-tail, All-append}
use Rattle.std.proofs.lemmas.List.Folds.{list_any-append}
use Rattle.core_1401.specs.Storage.{core_sizes, is_core_size}
use Rattle.cpu_1401.specs.State.{State, power_on}
use Rattle.machine_notation.specs.Bytes.{line_feed}
use Rattle.machine_notation.specs.Digits.{digits_in}
use Rattle.machine_notation.specs.Prefix.{after_prefix}
use Rattle.machine_notation.proofs.PrefixLemmas.{after_prefix_again, after_prefix_takes}
use Rattle.cpu_1401.specs.CarryOut.{carry_out}
use Rattle.console_text.specs.AnswerText.{answer_text}
use Rattle.console_text.specs.CommandText.{command_text}
use Rattle.room_alone.specs.declared.entry.Entry.{Entry}
use Rattle.room_alone.specs.Journal.{IsLegal, answer_in, answer_to, is_full, most_entries, pair_of}
use Rattle.room_alone.specs.Replay.{answers_after, state_after}
use Rattle.room_files.specs.declared.journal_fault.Wrong.{Wrong}
use Rattle.room_files.specs.declared.journal_fault.Wrong.TheVariants as wrong
use Rattle.room_files.specs.JournalText.{CanBeKept, IsJournal, entries_text, entry_text, header_text, journal_text}
use Rattle.room_files.specs.JournalText.{with_feed, with_tab}
use Rattle.room_files.specs.Reading.{HasHeader, IsNoHeader, IsRefusedIn, IsTextOf, IsThat, IsWhy}
use Rattle.room_files.specs.Reading.{IsCut, IsReached, IsWrongAt, Takes}
use Rattle.room_files.specs.Reading.{entry_at, has_line, size_at}
use Rattle.room_files.specs.Reading.IsCut.{in_entry, in_header}
use Rattle.room_files.specs.Reading.IsReached.{at_entry, at_header}
use Rattle.room_files.proofs.EntryLemmas.{IsOfEntry, entry_again, entry_takes, of_entry}
use Rattle.room_files.proofs.TextLemmas.{journal_text-push}

-- A journal's text goes on after these entries: with more of its own, and what follows them.
pub record Continues (size : ℕ) (journal : List Entry) (rest : List ℕ) (size' : ℕ) (whole : List Entry)
    (last : List ℕ) : Type 0 where
  pub same : size ≡ size'
  pub more : List Entry
  pub journal_is : whole ≡ journal ++ more
  pub rest_is : rest ≡ entries_text (length journal + 1) more ++ last

-- So far a text is that of these entries, and if it is a journal's it goes on from them.
pub record Reads (text : List ℕ) (size : ℕ) (journal : List Entry) (rest : List ℕ) : Type 0 where
  pub of : IsJournal size journal
  pub text_is : text ≡ journal_text size journal ++ rest
  pub again : (size' : ℕ) (whole : List Entry) (last : List ℕ) → IsTextOf text size' whole last
      → Continues size journal rest size' whole last

-- one of these sizes has what each of them has
or_not : (P : ℕ → Type 0) (first size : ℕ) (test other : Bool) → (size == first) ≡ test → (test || other) ≡ true
    → P first → (other ≡ true → P size) → P size
or_not P first size true other is h here more = subst P (sym (eqb-true size first is)) here
or_not P first size false other is h here more = more h

one_of : (P : ℕ → Type 0) (sizes : List ℕ) (size : ℕ) → list_any (λ each. size == each) sizes ≡ true → All P sizes
    → P size
one_of P [] size h all = absurd cc
one_of P (first ∷ sizes) size h all =
    or_not P first size (size == first) (list_any (λ each. size == each) sizes) refl h (All-head P first sizes all)
    (λ more. one_of P sizes size more (All-tail P first sizes all))

size_again : (size : ℕ) (rest : List ℕ) → is_core_size size ≡ true → size_at (header_text size ++ rest) ≡ Some size
unfolding size_at digits
size_again size rest core =
    let P : ℕ → Type 0 = λ each. size_at (header_text each ++ rest) ≡ Some each in
    one_of P core_sizes size core
    (All-cons P 1400 (2000 ∷ 4000 ∷ 8000 ∷ 12000 ∷ 16000 ∷ []) refl
    (All-cons P 2000 (4000 ∷ 8000 ∷ 12000 ∷ 16000 ∷ []) refl
    (All-cons P 4000 (8000 ∷ 12000 ∷ 16000 ∷ []) refl
    (All-cons P 8000 (12000 ∷ 16000 ∷ []) refl
    (All-cons P 12000 (16000 ∷ []) refl
    (All-cons P 16000 [] refl (All-nil P)))))))

-- the first line is read
pub start : (text : List ℕ) (size : ℕ) (rest : List ℕ) → is_core_size size ≡ true → HasHeader text size rest
    → Reads text size [] rest
start text size rest core header = record {
  of = record { core = core; legal = refl; bound = omega arith; kept = All-nil CanBeKept };
  text_is =
      after_prefix_takes (header_text size) text rest header.rest_is
      ∙ ap (λ (t : List ℕ). t ++ rest) (sym (append-nil (header_text size)));
  again =
      λ size' whole last is.
      let beyond_it : List ℕ = entries_text 1 whole ++ last in
      let parts : text ≡ header_text size' ++ beyond_it =
      is.text_is ∙ append_assoc (header_text size') (entries_text 1 whole) last in
      let named : size_at text ≡ Some size' = ap size_at parts ∙ size_again size' beyond_it is.of.core in
      let some : Some size ≡ Some size' = sym header.size_is ∙ named in
      let same : size ≡ size' = cc some in
      let left : after_prefix (header_text size) text ≡ Some beyond_it =
      ap (λ n. after_prefix (header_text n) text) same ∙ ap (after_prefix (header_text size')) parts
      ∙ after_prefix_again (header_text size') beyond_it in
      let rests : Some rest ≡ Some beyond_it = sym header.rest_is ∙ left in
      record { same = same; more = whole; journal_is = refl; rest_is = cc rests };
}

-- an answer of a legal journal is the machine's
answered_so : (s : State) (front : List Entry) (e : Entry) (more : List Entry)
    → map answer_in (front ++ e ∷ more) ≡ answers_after s (map pair_of (front ++ e ∷ more))
    → e.answer ≡ (carry_out (state_after s (map pair_of front)) e.command).answer
answered_so s [] e more legal = cc legal
answered_so s (first ∷ front) e more legal =
    let tails : map answer_in (front ++ e ∷ more)
    ≡ answers_after (carry_out s first.command).state (map pair_of (front ++ e ∷ more)) = cc legal in
    answered_so (carry_out s first.command).state front e more tails

All-beyond : (P : Entry → Type 0) (front back : List Entry) → All P (front ++ back) → All P back
All-beyond P [] back all = all
All-beyond P (e ∷ front) back all = All-beyond P front back (All-tail P e (front ++ back) all)

or_last : (test : Bool) → (test || true) ≡ true
or_last true = refl
or_last false = refl

-- a line feed among what follows, or in front
has_beyond : (front back : List ℕ) → has_line back ≡ true → has_line (front ++ back) ≡ true
has_beyond front back h =
    list_any-append (λ byte. byte == line_feed) front back
    ∙ ap (λ test. has_line front || test) h ∙ or_last (has_line front)

has_in_front : (front back : List ℕ) → has_line front ≡ true → has_line (front ++ back) ≡ true
has_in_front front back h =
    list_any-append (λ byte. byte == line_feed) front back ∙ ap (λ test. test || has_line back) h

entry_has_line : (number : ℕ) (e : Entry) → has_line (entry_text number e) ≡ true
unfolding entry_text
entry_has_line number e =
    has_beyond (with_tab (digits_in 1 number) ++ with_tab (digits_in 1 e.seat) ++ with_tab (command_text e.command))
    (with_feed (answer_text e.answer)) (has_beyond (answer_text e.answer) (line_feed ∷ []) refl)

-- What comes next in a journal's text is an entry, which is read.
pub record GoesOn (size : ℕ) (journal : List Entry) (rest : List ℕ) (size' : ℕ) (whole : List Entry) (last : List ℕ)
    : Type 0 where
  pub same : size ≡ size'
  pub next : Entry
  pub more : List Entry
  pub journal_is : whole ≡ journal ++ next ∷ more
  pub read : entry_at size journal rest ≡ Ok (next, entries_text (length journal + 1 + 1) more ++ last)

not_full : (journal : List Entry) (e : Entry) (more : List Entry) → length (journal ++ e ∷ more) ≤ most_entries
    → is_full journal ≡ false
not_full journal e more bound =
    let few : length journal < most_entries = omega (arith, length-append journal (e ∷ more)) in
    grind (arith, nat_tests)

next_of : (size : ℕ) (journal : List Entry) (rest : List ℕ) (size' : ℕ) (whole : List Entry) (last : List ℕ)
    (more : List Entry) → IsJournal size' whole → has_line rest ≡ true → has_line last ≡ false → size ≡ size'
    → whole ≡ journal ++ more → rest ≡ entries_text (length journal + 1) more ++ last
    → GoesOn size journal rest size' whole last
next_of size journal rest size' whole last [] of some none same journal_is rest_is =
    let both : true ≡ false = sym some ∙ ap has_line rest_is ∙ none in absurd cc
next_of size journal rest size' whole last (e ∷ more) of some none same journal_is rest_is =
    let legal : IsLegal size (journal ++ e ∷ more) =
    subst (λ (j : List Entry). IsLegal size j) journal_is (subst (λ n. IsLegal n whole) (sym same) of.legal) in
    let bound : length (journal ++ e ∷ more) ≤ most_entries =
    subst (λ (j : List Entry). length j ≤ most_entries) journal_is of.bound in
    let kept : All CanBeKept (journal ++ e ∷ more) = subst (All CanBeKept) journal_is of.kept in
    let can : CanBeKept e = All-head CanBeKept e more (All-beyond CanBeKept journal (e ∷ more) kept) in
    let answer_is : e.answer ≡ answer_to size journal e.command =
    answered_so (power_on size) journal e more legal in
    let left : List ℕ = entries_text (length journal + 1 + 1) more ++ last in
    let parts : rest ≡ entry_text (length journal + 1) e ++ left =
    rest_is ∙ append_assoc (entry_text (length journal + 1) e) (entries_text (length journal + 1 + 1) more) last in
    record {
      same = same;
      next = e;
      more = more;
      journal_is = journal_is;
      read =
          ap (entry_at size journal) parts
          ∙ entry_again size journal e left can (not_full journal e more bound) answer_is;
    }

goes_on : (text : List ℕ) (size : ℕ) (journal : List Entry) (rest : List ℕ) (size' : ℕ) (whole : List Entry)
    (last : List ℕ) → Reads text size journal rest → has_line rest ≡ true → IsTextOf text size' whole last
    → GoesOn size journal rest size' whole last
goes_on text size journal rest size' whole last reads some is =
    let on = reads.again size' whole last is in
    next_of size journal rest size' whole last on.more is.of some is.no_line on.same on.journal_is on.rest_is

-- one entry more
continued : (size : ℕ) (journal : List Entry) (rest beyond_it : List ℕ) (e : Entry) (size' : ℕ) (whole : List Entry)
    (last : List ℕ) → GoesOn size journal rest size' whole last → entry_at size journal rest ≡ Ok (e, beyond_it)
    → Continues size (journal ++ e ∷ []) beyond_it size' whole last
continued size journal rest beyond_it e size' whole last on read =
    let left : List ℕ = entries_text (length journal + 1 + 1) on.more ++ last in
    let found : Entry × List ℕ = (e, beyond_it) in
    let next : Entry × List ℕ = (on.next, left) in
    let one : Result (Entry × List ℕ) Wrong = Ok found in
    let other : Result (Entry × List ℕ) Wrong = Ok next in
    let results : one ≡ other = sym read ∙ on.read in
    let pair : found ≡ next = cc results in
    let entry_is : e ≡ on.next = ap (λ (p : Entry × List ℕ). p.0) pair in
    let left_is : beyond_it ≡ left = ap (λ (p : Entry × List ℕ). p.1) pair in
    let count : length journal + 1 + 1 ≡ length (journal ++ e ∷ []) + 1 =
    omega (arith, length-append journal (e ∷ [])) in
    record {
      same = on.same;
      more = on.more;
      journal_is =
          on.journal_is ∙ ap (λ (each : Entry). journal ++ each ∷ on.more) (sym entry_is)
          ∙ sym (append_assoc journal (e ∷ []) on.more);
      rest_is = left_is ∙ ap (λ n. entries_text n on.more ++ last) count;
    }

taken : (text : List ℕ) (size : ℕ) (journal : List Entry) (rest : List ℕ) (e : Entry) (beyond_it : List ℕ)
    → Reads text size journal rest → has_line rest ≡ true → entry_at size journal rest ≡ Ok (e, beyond_it)
    → IsLegal size (journal ++ e ∷ []) → length (journal ++ e ∷ []) ≤ most_entries
    → Reads text size (journal ++ e ∷ []) beyond_it
taken text size journal rest e beyond_it reads some read legal bound =
    let is = entry_takes size journal rest (e, beyond_it) read in
    record {
      of = record {
        core = reads.of.core;
        legal = legal;
        bound = bound;
        kept =
            All-append CanBeKept journal (e ∷ []) reads.of.kept
            (All-cons CanBeKept e [] is.kept (All-nil CanBeKept));
      };
      text_is = journal_text-push size journal e text rest beyond_it reads.text_is is.text_is;
      again =
          λ size' whole last of.
          continued size journal rest beyond_it e size' whole last
          (goes_on text size journal rest size' whole last reads some of) read;
    }

pub next_line : (text : List ℕ) (size : ℕ) (journal : List Entry) (rest : List ℕ) (journal' : List Entry)
    (beyond_it : List ℕ)
    → Reads text size journal rest → has_line rest ≡ true → Takes size journal rest journal' beyond_it
    → IsLegal size journal' → length journal' ≤ most_entries → Reads text size journal' beyond_it
next_line text size journal rest journal' beyond_it reads some takes legal bound =
    let is = takes.journal_is in
    subst (λ (j : List Entry). Reads text size j beyond_it) (sym is)
    (taken text size journal rest takes.entry beyond_it reads some takes.read
    (subst (λ (j : List Entry). IsLegal size j) is legal)
    (subst (λ (j : List Entry). length j ≤ most_entries) is bound))

some_bytes : (text : List ℕ) → has_line text ≡ true → 0 < length text
some_bytes [] h = absurd cc
some_bytes (byte ∷ text) h = omega arith

-- a line is taken away
pub shorter : (size : ℕ) (journal : List Entry) (rest : List ℕ) (journal' : List Entry) (beyond_it : List ℕ)
    → Takes size journal rest journal' beyond_it → length beyond_it < length rest
shorter size journal rest journal' beyond_it takes =
    let is = entry_takes size journal rest (takes.entry, beyond_it) takes.read in
    let line : List ℕ = entry_text (length journal + 1) takes.entry in
    let some : 0 < length line = some_bytes line (entry_has_line (length journal + 1) takes.entry) in
    omega (arith, some, length-append line beyond_it, ap length is.text_is)

no_more : (size : ℕ) (journal : List Entry) (rest : List ℕ) (size' : ℕ) (whole : List Entry) (last : List ℕ)
    (more : List Entry) → has_line rest ≡ false → size ≡ size' → whole ≡ journal ++ more
    → rest ≡ entries_text (length journal + 1) more ++ last → IsThat size journal rest size' whole last
no_more size journal rest size' whole last [] none same journal_is rest_is =
    record { size_is = same; journal_is = sym (journal_is ∙ append-nil journal); rest_is = rest_is }
no_more size journal rest size' whole last (e ∷ more) none same journal_is rest_is =
    let line : List ℕ = entry_text (length journal + 1) e in
    let lines : List ℕ = entries_text (length journal + 1 + 1) more in
    let some : has_line ((line ++ lines) ++ last) ≡ true =
    has_in_front (line ++ lines) last (has_in_front line lines (entry_has_line (length journal + 1) e)) in
    let both : true ≡ false = sym some ∙ ap has_line (sym rest_is) ∙ none in
    absurd cc

pub that_journal : (text : List ℕ) (size : ℕ) (journal : List Entry) (rest : List ℕ) (size' : ℕ) (whole : List Entry)
    (last : List ℕ) → Reads text size journal rest → has_line rest ≡ false → IsTextOf text size' whole last
    → IsThat size journal rest size' whole last
that_journal text size journal rest size' whole last reads none is =
    let on = reads.again size' whole last is in
    no_more size journal rest size' whole last on.more none on.same on.journal_is on.rest_is

-- if an entry is read, only memory can be refused
only_memory : {A : Type 0} (read : Result A Wrong) (value : A) (why : Wrong) → read ≡ Ok value → IsWhy read why
    → why ≡ wrong.Memory
only_memory read value wrong.Memory h is = refl
only_memory read value wrong.Header h is = absurd cc
only_memory read value wrong.Number h is = absurd cc
only_memory read value wrong.Seat h is = absurd cc
only_memory read value wrong.Command h is = absurd cc
only_memory read value wrong.Answer h is = absurd cc
only_memory read value wrong.Full h is = absurd cc
only_memory read value wrong.Unfinished h is = absurd cc

pub memory_alone : (text : List ℕ) (size : ℕ) (journal : List Entry) (rest : List ℕ) (size' : ℕ) (whole : List Entry)
    (last : List ℕ) (why : Wrong) → Reads text size journal rest → has_line rest ≡ true
    → IsTextOf text size' whole last → IsWhy (entry_at size journal rest) why → why ≡ wrong.Memory
memory_alone text size journal rest size' whole last why reads some is refusal =
    let on = goes_on text size journal rest size' whole last reads some is in
    let left : List ℕ = entries_text (length journal + 1 + 1) on.more ++ last in
    only_memory (entry_at size journal rest) (on.next, left) why on.read refusal

-- a fault of an entry is one that a line of it can have
off : {A : Type 0} (read : Result A Wrong) (why : Wrong) → IfErr read IsOfEntry → read ≡ Err why → IsOfEntry why
off (Ok value) why h is = absurd cc
off (Err found) why h is = let same : found ≡ why = cc is in subst IsOfEntry same h

-- what is wrong with the line after those of a journal
wrong_at : (text : List ℕ) (size : ℕ) (journal : List Entry) (rest : List ℕ) (number : ℕ) (why : Wrong)
    → Reads text size journal rest → has_line rest ≡ true → number ≡ length journal + 2
    → entry_at size journal rest ≡ Err why → IsWrongAt text number why
wrong_at text size journal rest number why reads some number_is is = record {
  size = size;
  journal = journal;
  rest = rest;
  of = reads.of;
  text_is = reads.text_is;
  some_line = some;
  number_is = number_is;
  why_is = is;
}

refused_by : (text : List ℕ) (size : ℕ) (journal : List Entry) (rest : List ℕ) (number : ℕ) (why : Wrong)
    → Reads text size journal rest → has_line rest ≡ true → number ≡ length journal + 2
    → IsWhy (entry_at size journal rest) why → IfErr (entry_at size journal rest) IsOfEntry
    → IsRefusedIn text number why
refused_by text size journal rest number wrong.Memory reads some number_is is of =
    subst (λ (n : ℕ). IsReached text n) (sym number_is) (at_entry text size journal rest reads.of reads.text_is some)
refused_by text size journal rest number wrong.Header reads some number_is is of =
    absurd (off (entry_at size journal rest) wrong.Header of is)
refused_by text size journal rest number wrong.Number reads some number_is is of =
    wrong_at text size journal rest number wrong.Number reads some number_is is
refused_by text size journal rest number wrong.Seat reads some number_is is of =
    wrong_at text size journal rest number wrong.Seat reads some number_is is
refused_by text size journal rest number wrong.Command reads some number_is is of =
    wrong_at text size journal rest number wrong.Command reads some number_is is
refused_by text size journal rest number wrong.Answer reads some number_is is of =
    wrong_at text size journal rest number wrong.Answer reads some number_is is
refused_by text size journal rest number wrong.Full reads some number_is is of =
    wrong_at text size journal rest number wrong.Full reads some number_is is
refused_by text size journal rest number wrong.Unfinished reads some number_is is of =
    absurd (off (entry_at size journal rest) wrong.Unfinished of is)

pub refused_line : (text : List ℕ) (size : ℕ) (journal : List Entry) (rest : List ℕ) (number : ℕ) (why : Wrong)
    → Reads text size journal rest → has_line rest ≡ true → number ≡ length journal + 2
    → IsWhy (entry_at size journal rest) why → IsRefusedIn text number why
refused_line text size journal rest number why reads some number_is is =
    refused_by text size journal rest number why reads some number_is is (of_entry size journal rest)

-- a text that names a size has its first line
named_line : (size : ℕ) → has_line (header_text size) ≡ true
named_line size = has_beyond (codes "JOURNAL1 " ++ digits_in 1 size) (line_feed ∷ []) refl

pub first_line : (text : List ℕ) (size : ℕ) (rest : List ℕ) → HasHeader text size rest → has_line text ≡ true
first_line text size rest named =
    ap has_line (after_prefix_takes (header_text size) text rest named.rest_is)
    ∙ has_in_front (header_text size) rest (named_line size)

-- a first line that names no size, or whose memory was refused
pub no_header : (text : List ℕ) (why : Wrong) → has_line text ≡ true → IsNoHeader core_sizes text why
    → IsRefusedIn text 1 why
unfolding size_at
no_header text wrong.Memory some is = at_header text some
no_header text wrong.Header some is = (refl, some, is)
no_header text wrong.Number some is = absurd is
no_header text wrong.Seat some is = absurd is
no_header text wrong.Command some is = absurd is
no_header text wrong.Answer some is = absurd is
no_header text wrong.Full some is = absurd is
no_header text wrong.Unfinished some is = absurd is

-- a journal's text has its first line
header_there : (text : List ℕ) (size : ℕ) (journal : List Entry) (rest : List ℕ) → IsTextOf text size journal rest
    → size_at text ≡ Some size
header_there text size journal rest is =
    let parts : text ≡ header_text size ++ (entries_text 1 journal ++ rest) =
    is.text_is ∙ append_assoc (header_text size) (entries_text 1 journal) rest in
    ap size_at parts ∙ size_again size (entries_text 1 journal ++ rest) is.of.core

line_there : (text : List ℕ) (size : ℕ) (journal : List Entry) (rest : List ℕ) → IsTextOf text size journal rest
    → has_line text ≡ true
line_there text size journal rest is =
    ap has_line is.text_is
    ∙ has_in_front (journal_text size journal) rest
    (has_in_front (header_text size) (entries_text 1 journal) (named_line size))

cut_not : (text : List ℕ) (number : ℕ) → IsCut text number → number ≡ 1 → has_line text ≡ true → ⊥
cut_not text number (in_header _ none) one some = let both : true ≡ false = sym some ∙ none in absurd cc
cut_not text number (in_entry _ size journal rest is left) one some = absurd (omega arith)

-- with the first line of a journal's text, only memory can be refused
pub memory_first : (text : List ℕ) (why : Wrong) (size : ℕ) (journal : List Entry) (rest : List ℕ)
    → IsRefusedIn text 1 why → IsTextOf text size journal rest → why ≡ wrong.Memory
memory_first text wrong.Memory size journal rest is of = refl
memory_first text wrong.Header size journal rest is of =
    let there = header_there text size journal rest of in absurd (cc (there, is.2))
memory_first text wrong.Number size journal rest is of = absurd (omega (arith, is.number_is))
memory_first text wrong.Seat size journal rest is of = absurd (omega (arith, is.number_is))
memory_first text wrong.Command size journal rest is of = absurd (omega (arith, is.number_is))
memory_first text wrong.Answer size journal rest is of = absurd (omega (arith, is.number_is))
memory_first text wrong.Full size journal rest is of = absurd (omega (arith, is.number_is))
memory_first text wrong.Unfinished size journal rest is of =
    absurd (cut_not text 1 is refl (line_there text size journal rest of))

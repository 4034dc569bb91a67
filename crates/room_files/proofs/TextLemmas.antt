-- The text of a journal, by its parts.
use Rattle.std.proofs.Common.{◌≡◌, ℕ, ◌+◌, ◌<◌, ◌≤◌, List, [], ◌∷◌, ◌++◌, length, get_or, take, drop, ap, sym, ◌∙◌}
use Rattle.std.proofs.Common.{arith, length-append}
use Rattle.std.proofs.lemmas.List.{append_assoc, append-nil, length-take, take-append-drop, take_more}
use Rattle.room_alone.specs.declared.entry.Entry.{Entry}
use Rattle.room_files.specs.JournalText.{entries_text, entry_text, header_text, journal_text}
use Rattle.room_alone.specs.Kept.{lines_by}

-- entries, and more after them
lines_by-append : {A : Type 0} (line : ℕ → Entry → List A) (number : ℕ) (front back : List Entry)
    → lines_by line number (front ++ back) ≡ lines_by line number front ++ lines_by line (number + length front) back
lines_by-append line number [] back = ap (λ n. lines_by line n back) (omega arith)
lines_by-append {A} line number (entry ∷ front) back =
    let count : number + 1 + length front ≡ number + length (entry ∷ front) = omega arith in
    ap (λ (text : List A). line number entry ++ text) (lines_by-append line (number + 1) front back)
    ∙ ap (λ n. line number entry ++ (lines_by line (number + 1) front ++ lines_by line n back)) count
    ∙ sym (append_assoc (line number entry) (lines_by line (number + 1) front)
    (lines_by line (number + length (entry ∷ front)) back))

-- one entry more
lines_by-push : {A : Type 0} (line : ℕ → Entry → List A) (number : ℕ) (front : List Entry) (entry : Entry)
    → lines_by line number (front ++ entry ∷ []) ≡ lines_by line number front ++ line (number + length front) entry
lines_by-push {A} line number front entry =
    lines_by-append line number front (entry ∷ [])
    ∙ ap (λ (text : List A). lines_by line number front ++ text) (append-nil (line (number + length front) entry))

-- the entries up to one of them
pub lines_by-take : {A : Type 0} (line : ℕ → Entry → List A) (journal : List Entry) (i : ℕ) (entry : Entry)
    → i < length journal
    → entry ≡ get_or journal i entry
    → lines_by line 1 (take (i + 1) journal) ≡ lines_by line 1 (take i journal) ++ line (i + 1) entry
lines_by-take line journal i entry within is =
    let front : List Entry = take i journal in
    let count : 1 + length front ≡ i + 1 = omega (arith, length-take i journal) in
    let more : take (i + 1) journal ≡ front ++ entry ∷ [] =
    take_more journal i entry within ∙ ap (λ (last : Entry). front ++ last ∷ []) (sym is) in
    ap (lines_by line 1) more ∙ lines_by-push line 1 front entry
    ∙ ap (λ n. lines_by line 1 front ++ line n entry) count

-- a journal's text, and one line more
pub journal_text-push : (size : ℕ) (journal : List Entry) (entry : Entry) (text rest beyond : List ℕ)
    → text ≡ journal_text size journal ++ rest → rest ≡ entry_text (length journal + 1) entry ++ beyond
    → text ≡ journal_text size (journal ++ entry ∷ []) ++ beyond
journal_text-push size journal entry text rest beyond so_far next =
    let line : List ℕ = entry_text (length journal + 1) entry in
    let count : 1 + length journal ≡ length journal + 1 = omega arith in
    let more : journal_text size (journal ++ entry ∷ []) ≡ journal_text size journal ++ line =
    ap (λ (text : List ℕ). header_text size ++ text) (lines_by-push entry_text 1 journal entry)
    ∙ ap (λ n. header_text size ++ (entries_text 1 journal ++ entry_text n entry)) count
    ∙ sym (append_assoc (header_text size) (entries_text 1 journal) line) in
    so_far ∙ ap (λ (text : List ℕ). journal_text size journal ++ text) next
    ∙ sym (append_assoc (journal_text size journal) line beyond)
    ∙ ap (λ (text : List ℕ). text ++ beyond) (sym more)

-- the entries before one of them and that one give no more than all do
pub lines_by-part : {A : Type 0} (line : ℕ → Entry → List A) (journal : List Entry) (i : ℕ) (entry : Entry)
    → i < length journal
    → entry ≡ get_or journal i entry
    → length (lines_by line 1 (take i journal)) + length (line (i + 1) entry) ≤ length (lines_by line 1 journal)
lines_by-part {A} line journal i entry within is =
    let front : List Entry = take (i + 1) journal in
    let back : List Entry = drop (i + 1) journal in
    let lines : List A = lines_by line 1 (take i journal) in
    let more : lines_by line 1 front ≡ lines ++ line (i + 1) entry = lines_by-take line journal i entry within is in
    let all : lines_by line 1 journal ≡ lines_by line 1 front ++ lines_by line (1 + length front) back =
    ap (lines_by line 1) (sym (take-append-drop (i + 1) journal)) ∙ lines_by-append line 1 front back in
    omega (
      arith,
      ap length all,
      ap length more,
      length-append (lines_by line 1 front) (lines_by line (1 + length front) back),
      length-append lines (line (i + 1) entry),
    )

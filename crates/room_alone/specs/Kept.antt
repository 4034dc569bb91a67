-- What is kept of a journal outside of its room (own): a head that names the size, and a line for each entry.
use Rattle.std.specs.Prelude.{◌≡◌, ℕ, ◌+◌, ◌≤◌, Bool, true, false, List, [], ◌∷◌, ◌++◌, length, Option}
use Rattle.std.specs.Io.KnownBytes.{Appends}
use Rattle.room_alone.specs.Account.{Account}
use Rattle.room_alone.specs.declared.entry.Entry.{Entry}

-- what is written of a journal: a head by the size, and a line by an entry and its number, from 1
pub record Form : Type 0 where
  pub head : ℕ → List ℕ
  pub line : ℕ → Entry → List ℕ

-- what this gives for each of these entries, the first of which has this number, joined
abbrev pub lines_by : {A : Type 0} → (ℕ → Entry → List A) → ℕ → List Entry → List A
lines_by line number [] = []
lines_by line number (entry ∷ entries) = line number entry ++ lines_by line (number + 1) entries

-- the text of a journal
abbrev pub kept_text : Form → ℕ → List Entry → List ℕ
kept_text form size journal = form.head size ++ lines_by form.line 1 journal

-- the text begins with the part
abbrev pub BeginsWith : List ℕ → List ℕ → Type 0
BeginsWith text part = (rest : List ℕ) × (text ≡ part ++ rest)

-- what is kept grew by a beginning of the text
abbrev pub AppendsPart : Option (List ℕ) → Option (List ℕ) → List ℕ → Type 0
AppendsPart old new text = (part : List ℕ) × BeginsWith text part × Appends old new part

-- What was kept since the first is the text of the journal without its last entry, and a part of that one's line.
pub record BreaksOff (form : Form) (size : ℕ) (journal : List Entry) (first kept : Option (List ℕ)) : Type 0 where
  pub front : List Entry
  pub last : List Entry
  pub journal_is : journal ≡ front ++ last
  pub few : length last ≤ 1
  pub part : List ℕ
  pub begins : BeginsWith (lines_by form.line (length front + 1) last) part
  pub kept_is : Appends first kept (kept_text form size front ++ part)

-- what was kept since the first is the text of the journal; if a write has failed (true), it breaks off in the last
-- line
abbrev pub IsKeptAs : Form → ℕ → List Entry → Bool → Option (List ℕ) → Option (List ℕ) → Type 0
IsKeptAs form size journal false first kept = Appends first kept (kept_text form size journal)
IsKeptAs form size journal true first kept = BreaksOff form size journal first kept

-- What was kept since the first is the text of the journal without this entry, its last.
pub record LacksLast (form : Form) (size : ℕ) (journal : List Entry) (last : Entry) (first kept : Option (List ℕ))
    : Type 0 where
  pub front : List Entry
  pub journal_is : journal ≡ front ++ last ∷ []
  pub kept_is : Appends first kept (kept_text form size front)

-- what contracts see of a room that is kept: the room, whether a write has failed, and the bytes that are kept
pub record KeptAccount : Type 0 where
  pub room : Account
  pub failed : Bool
  pub kept : Option (List ℕ)

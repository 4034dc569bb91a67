-- Notes on a journal (own): where the lines of a person began in it, and which cards of decks it has.
use Rattle.std.specs.Prelude.{ℕ, ◌-◌, ◌||◌, nat_le, nat_lt, min, if◌then◌else◌, Bool, List, [], ◌∷◌, ◌++◌, length}
use Rattle.std.specs.Prelude.{take, drop, take_while, get_or, Option, None, Some}
use Rattle.devices_1401.specs.declared.card.Card.{Card}
use Rattle.operate_sitting.specs.declared.earlier.Origin.{Origin}
use Rattle.operate_sitting.specs.declared.earlier.Origin.TheVariants as origin
use Rattle.operate_sitting.specs.declared.notes.Mark.{Mark}

-- where lines began, by how many entries the program was loaded, all cards that came into the hand, and at which places
-- of the journal the first of them were fed
pub record Noted : Type 0 where
  pub marks : List Mark
  pub loaded : ℕ
  pub deck : List Card
  pub given : List ℕ

-- nothing but the entries that loaded the program
abbrev pub no_notes : ℕ → Noted
no_notes loaded = record { marks = []; loaded = loaded; deck = []; given = [] }

-- the cards that are still in hand
abbrev pub hand_of : Noted → List Card
hand_of it = drop (length it.given) it.deck

-- where a line begins if the journal has this many entries, and this many cards have come into the hand
abbrev pub mark : ℕ → ℕ → Mark
mark entries cards = record { entries = entries; cards = cards }

-- the end of a journal with this many entries
abbrev pub end_at : ℕ → Noted → Mark
end_at entries it = mark entries (length it.deck)

-- whether a line that began there had done something by then: it recorded an entry, or took a card into the hand
abbrev pub is_before : Mark → Mark → Bool
is_before line now = nat_lt line.entries now.entries || nat_lt line.cards now.cards

-- the lines that had done something by then
abbrev pub lines_in : Mark → List Mark → List Mark
lines_in now marks = take_while (λ line. is_before line now) marks

-- a line begins; another that began at the same place has done nothing, and counts for nothing
abbrev pub begun : ℕ → Noted → Noted
begun entries it = record it { marks = lines_in (end_at entries it) it.marks ++ end_at entries it ∷ [] }

-- more cards come into the hand
abbrev pub held : List Card → Noted → Noted
held cards it = record it { deck = it.deck ++ cards }

-- the cards at these places of the journal were fed
abbrev pub given : List ℕ → Noted → Noted
given places it = record it { given = it.given ++ places }

-- the last of these lines, this many, that had done something by then: where the first of them began; the end for none
abbrev pub undo_place : ℕ → Mark → List Mark → Option Mark
undo_place count now marks =
    let lines = lines_in now marks in
    if nat_le count (length lines) then Some (get_or lines (length lines - count) now) else None

-- how many cards had come into the hand before the entry that comes after this many: the first line that began later
-- has noted it
abbrev pub cards_by : ℕ → List Mark → ℕ → ℕ
cards_by whole [] cards = cards
cards_by whole (line ∷ lines) cards = if nat_le line.entries whole then cards_by whole lines cards else line.cards

-- how many cards came with the program: those before the first line
abbrev pub cards_before : List Mark → ℕ → ℕ
cards_before [] cards = cards
cards_before (line ∷ lines) cards = line.cards

-- what is noted up to a place: lines that had done nothing by then are gone, with the cards that later ones brought,
-- and cards that were fed later are in hand again
abbrev pub cut : Mark → Noted → Noted
cut at it = record {
  marks = lines_in at it.marks;
  loaded = min it.loaded at.entries;
  deck = take at.cards it.deck;
  given = take_while (λ place. nat_lt place at.entries) it.given;
}

-- the notes that go with an earlier journal, which has this many entries
abbrev pub notes_after : Origin → ℕ → Noted → Noted
notes_after (origin.Own cards) entries it = cut (mark entries cards) it
notes_after origin.Other entries it = no_notes entries

-- The listing of a reel, step by step.
use Rattle.std.proofs.Common.{◌≡◌, ℕ, ◌+◌, ◌<◌, ◌≤◌, true, false, List, [], ◌∷◌, ◌++◌, length, drop, drop-cons, refl}
use Rattle.std.proofs.Common.{sym, ap}
use Rattle.std.proofs.Common.{◌∙◌, suc, get_or, arith}
use Rattle.std.proofs.lemmas.List.{drop_all}
use Rattle.std.specs.Prelude.{slice_index}
use Rattle.bcd_1401.specs.Graphic.{graphics}
use Rattle.machine_tapes.specs.Reel.{is_tape_mark}
use Rattle.program_arguments.specs.declared.call.Parity.{Parity}
use Rattle.program_convert.specs.Parity.{read_as}
use Rattle.program_convert.specs.ReelListing.{before_char, char_text, chars_text, data_lines, lines_from, mark_line}
use Rattle.program_convert.specs.ReelListing.{record_lines}

-- the text of the characters from one on
pub chars_text-first : (parity : Parity) (at char : ℕ) (chars : List ℕ)
    → chars_text parity at (char ∷ chars) ≡ char_text parity at char ++ chars_text parity (at + 1) chars
unfolding chars_text
chars_text-first parity at char chars = refl

pub chars_text-none : (parity : Parity) (at : ℕ) → chars_text parity at [] ≡ []
unfolding chars_text
chars_text-none parity at = refl

pub chars_text-at : (parity : Parity) (i char : ℕ) (chars : List ℕ) → i < length chars → char ≡ slice_index chars i
    → chars_text parity i (drop i chars)
    ≡ char_text parity i char ++ chars_text parity (i + 1) (drop (i + 1) chars)
chars_text-at parity i char chars less is =
    let next : suc i ≡ i + 1 = omega arith in
    ap (λ (rest : List ℕ). chars_text parity i rest) (drop-cons chars i 0 less)
    ∙ ap (λ (k : ℕ). chars_text parity i (get_or chars i 0 ∷ drop k chars)) next
    ∙ chars_text-first parity i (get_or chars i 0) (drop (i + 1) chars)
    ∙ ap (λ (n : ℕ). char_text parity i n ++ chars_text parity (i + 1) (drop (i + 1) chars)) (sym is)

pub chars_text-end : (parity : Parity) (i : ℕ) (chars : List ℕ) → length chars ≤ i
    → chars_text parity i (drop i chars) ≡ []
chars_text-end parity i chars all =
    ap (λ (rest : List ℕ). chars_text parity i rest) (drop_all i chars all) ∙ chars_text-none parity i

-- a character with what precedes it
pub char_parts : (parity : Parity) (at char : ℕ) (before graphic : List ℕ) → before ≡ before_char at
    → graphic ≡ slice_index graphics (read_as parity char) ∷ [] → before ++ graphic ≡ char_text parity at char
char_parts parity at char before graphic first then = rw (first, then) refl

-- the lines of a record, if it is a tape mark or not
pub record_lines-mark : (parity : Parity) (number : ℕ) (chars : List ℕ) → is_tape_mark chars ≡ true
    → mark_line number ≡ record_lines parity number chars
unfolding record_lines
record_lines-mark parity number chars is = rw is refl

pub record_lines-data : (parity : Parity) (number : ℕ) (chars : List ℕ) → is_tape_mark chars ≡ false
    → data_lines parity number chars ≡ record_lines parity number chars
unfolding record_lines
record_lines-data parity number chars is = rw is refl

-- the lines of the records from one on
pub lines_from-first : (parity : Parity) (number : ℕ) (chars : List ℕ) (records : List (List ℕ))
    → lines_from parity number (chars ∷ records)
    ≡ record_lines parity number chars ++ lines_from parity (number + 1) records
unfolding lines_from
lines_from-first parity number chars records = refl

pub lines_from-none : (parity : Parity) (number : ℕ) → lines_from parity number [] ≡ []
unfolding lines_from
lines_from-none parity number = refl

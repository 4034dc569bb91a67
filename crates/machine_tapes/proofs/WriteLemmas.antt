-- Records written from core, cell after cell.
use Rattle.std.proofs.Common.{◌≡◌, ℕ, ◌+◌, ◌-◌, ◌<◌, ◌≤◌, ◌++◌, Bool, true, false, List, [], ◌∷◌, None, Some, length}
use Rattle.std.proofs.Common.{take, drop, get_or, sym, ap, ◌∙◌, arith, length-drop}
use Rattle.std.proofs.Common.{◌==◌, ◌&&◌, inl, inr, map, refl}
use Rattle.std.specs.Prelude.{if◌then◌else◌, nat_lt, slice_range}
use Rattle.std.specs.List.{flat_map, position_or_len}
use Rattle.std.proofs.lemmas.Bool.{cases_Bool, eqb-true, le-ltb, lt-ltb, ne_eqb}
use Rattle.std.proofs.lemmas.List.{flat_map_more, get_or-drop, get_or-take, length-take-le, take-take, take_more}
use Rattle.std.proofs.lemmas.List.{drop-map, get_or-map, length-map, take-map}
use Rattle.std.proofs.lemmas.List.Folds.{length-flat_map-take}
use Rattle.std.proofs.lemmas.List.Sums.{position_or_len_is, sum_by-cons}
use Rattle.bcd_1401.specs.declared.cell.Cell.{Cell}
use Rattle.core_1401.specs.Places.{chars_of}
use Rattle.core_1401.specs.Storage.{Storage, blank, cell_at}
use Rattle.machine_tapes.specs.Reel.{Reel, after_write, characters_in, room_in}
use Rattle.fields_1401.specs.Records.{group_mark}
use Rattle.machine_tapes.specs.TapeText.{has_marks, separator, text_of, text_of_cell, written_char}
use Rattle.machine_tapes.specs.Transfer.{ends_record, record_len_at}
use Rattle.machine_tapes.specs.declared.work.TapeMode.{TapeMode}

-- none of the first cells from a place up ends a record
abbrev pub NoneEnds : Storage → ℕ → ℕ → Type 0
NoneEnds s at n = (k : ℕ) → k < n → ends_record (cell_at s (at + k)) ≡ false

-- where the first is that does
first_end : (s : Storage) (at n : ℕ) → n ≤ length (drop at s) → NoneEnds s at n
    → (n < length (drop at s) → ends_record (cell_at s (at + n)) ≡ true)
    → position_or_len ends_record (drop at s) ≡ n
first_end s at n within before there =
    position_or_len_is ends_record (drop at s) n blank within
    (λ k lt. ap ends_record (get_or-drop at s k blank) ∙ before k lt)
    (λ lt. ap ends_record (get_or-drop at s n blank) ∙ there lt)

-- a record's length is known at its end
pub record_ends : (s : Storage) (at n : ℕ) → at + n < length s → NoneEnds s at n
    → ends_record (cell_at s (at + n)) ≡ true → Some n ≡ record_len_at s at
record_ends s at n inside before there =
    let lt : n < length (drop at s) = omega (arith, length-drop at s, inside) in
    let first = first_end s at n (omega (arith, lt)) before (λ _. there) in
    sym (ap (λ (k : ℕ). if nat_lt k (length (drop at s)) then Some k else None) first
    ∙ ap (λ (t : Bool). if t then Some n else None) (lt-ltb n (length (drop at s)) lt))

-- without one there is no length
pub record_goes_on : (s : Storage) (at n : ℕ) → n ≡ length s - at → NoneEnds s at n → None ≡ record_len_at s at
record_goes_on s at n all before =
    let len : n ≡ length (drop at s) = omega (arith, length-drop at s, all) in
    let first = first_end s at n (omega (arith, len)) before (λ lt. absurd (omega (arith, len, lt))) in
    sym (ap (λ (k : ℕ). if nat_lt k (length (drop at s)) then Some k else None) first
    ∙ ap (λ (t : Bool). if t then Some n else None) (le-ltb n (length (drop at s)) (omega (arith, len))))

-- only a group mark ends one
pub not_group_mark : (s : Storage) (lent : List ℕ) (at code : ℕ) → lent ≡ chars_of s → at < length s
    → code ≡ get_or lent at code → (code ≡ group_mark → ⊥) → ends_record (cell_at s at) ≡ false
not_group_mark s lent at code same inside here other =
    let size = ap length same in
    let char : code ≡ (cell_at s at).char =
    here ∙ ap (λ (cs : List ℕ). get_or cs at code) same
    ∙ get_or-map (λ (cell : Cell). cell.char) s at blank code inside in
    ap (λ (b : Bool). b && (cell_at s at).mark)
    (sym (ap (λ c. c == group_mark) char) ∙ ne_eqb code group_mark other)

-- the text of a move: a character for each cell, with one for the blank
abbrev with_blank : ℕ → ℕ → ℕ
with_blank blank char = if char == 0 then blank else char

one_moved : (is_odd : Bool) (char : ℕ) → written_char is_odd char ≡ with_blank (written_char is_odd 0) char
one_moved true char =
    elim (cases_Bool (char == 0)) [
      | inl zero ↦ eqb-true char 0 zero ∙ sym (ap (λ (b : Bool). if b then 0 else char) zero)
      | inr other ↦ sym (ap (λ (b : Bool). if b then 0 else char) other)
    ]
one_moved false char = refl

cell_moved : (how : TapeMode) (is_odd : Bool) (cell : Cell) → has_marks how ≡ false
    → text_of_cell how is_odd cell ≡ written_char is_odd cell.char ∷ []
cell_moved how is_odd cell unmarked =
    ap (λ (b : Bool). if b && cell.mark then separator ∷ written_char is_odd cell.char ∷ []
    else written_char is_odd cell.char ∷ []) unmarked

cells_moved : (how : TapeMode) (is_odd : Bool) (cells : List Cell) → has_marks how ≡ false
    → text_of how is_odd cells ≡ map (with_blank (written_char is_odd 0)) (chars_of cells)
cells_moved how is_odd [] unmarked = refl
cells_moved how is_odd (cell ∷ cells) unmarked =
    ap (λ (text : List ℕ). text ++ text_of how is_odd cells) (cell_moved how is_odd cell unmarked)
    ∙ ap (λ (rest : List ℕ). written_char is_odd cell.char ∷ rest) (cells_moved how is_odd cells unmarked)
    ∙ ap (λ (char : ℕ). char ∷ map (with_blank (written_char is_odd 0)) (chars_of cells)) (one_moved is_odd cell.char)

text_moved : (how : TapeMode) (is_odd : Bool) (s : Storage) (lent : List ℕ) (at n blank : ℕ) → has_marks how ≡ false
    → lent ≡ chars_of s → blank ≡ written_char is_odd 0
    → map (λ char. if char == 0 then blank else char) (slice_range lent at (at + n))
    ≡ text_of how is_odd (take n (drop at s))
text_moved how is_odd s lent at n blank unmarked same e =
    let over : at + n - at ≡ n = omega arith in
    ap (λ (b : ℕ). map (with_blank b) (slice_range lent at (at + n))) e
    ∙ ap (λ (k : ℕ). map (with_blank (written_char is_odd 0)) (take k (drop at lent))) over
    ∙ ap (λ (cs : List ℕ). map (with_blank (written_char is_odd 0)) (take n (drop at cs))) same
    ∙ ap (λ (cs : List ℕ). map (with_blank (written_char is_odd 0)) (take n cs))
    (drop-map (λ (cell : Cell). cell.char) at s)
    ∙ ap (λ (cs : List ℕ). map (with_blank (written_char is_odd 0)) cs)
    (take-map (λ (cell : Cell). cell.char) n (drop at s))
    ∙ sym (cells_moved how is_odd (take n (drop at s)) unmarked)

pub text_lent : (how : TapeMode) (is_odd : Bool) (s : Storage) (lent : List ℕ) (at n blank from count : ℕ)
    → has_marks how ≡ false → lent ≡ chars_of s → blank ≡ written_char is_odd 0 → from ≡ at → count ≡ n
    → map (λ char. if char == 0 then blank else char) (slice_range lent from (from + count))
    ≡ text_of how is_odd (take n (drop at s))
text_lent how is_odd s lent at n blank from count unmarked same e low all =
    ap (λ (k : ℕ). map (with_blank blank) (slice_range lent k (k + count))) low
    ∙ ap (λ (k : ℕ). map (with_blank blank) (slice_range lent at (at + k))) all
    ∙ text_moved how is_odd s lent at n blank unmarked same e

pub moved_len : (how : TapeMode) (is_odd : Bool) (s : Storage) (at n : ℕ) → has_marks how ≡ false → at + n < length s
    → n ≡ length (text_of how is_odd (take n (drop at s)))
moved_len how is_odd s at n unmarked inside =
    let cells : List Cell = take n (drop at s) in
    let size : length cells ≡ n = length-take-le n (drop at s) (omega (arith, length-drop at s, inside)) in
    let text = ap length (cells_moved how is_odd cells unmarked) in
    omega (
      arith,
      size,
      text,
      length-map (chars_of cells) (with_blank (written_char is_odd 0)),
      length-map cells (λ (cell : Cell). cell.char),
    )

-- the text of one cell more
pub text_more : (how : TapeMode) (is_odd : Bool) (s : Storage) (at i : ℕ) → at + i < length s
    → text_of how is_odd (take (i + 1) (drop at s))
    ≡ text_of how is_odd (take i (drop at s)) ++ text_of_cell how is_odd (cell_at s (at + i))
text_more how is_odd s at i inside =
    let text : Cell → List ℕ = text_of_cell how is_odd in
    let lt : i < length (drop at s) = omega (arith, length-drop at s, inside) in
    ap (flat_map text) (take_more (drop at s) i blank lt)
    ∙ sym (flat_map_more text [] (take i (drop at s)) (get_or (drop at s) i blank))
    ∙ ap (λ (cell : Cell). flat_map text (take i (drop at s)) ++ text cell) (get_or-drop at s i blank)

pub text_first : (how : TapeMode) (is_odd : Bool) (s : Storage) (at : ℕ) → at < length s
    → text_of how is_odd (take 1 (drop at s)) ≡ text_of_cell how is_odd (cell_at s at)
text_first how is_odd s at inside =
    let here : at + 0 ≡ at = omega arith in
    text_more how is_odd s at 0 (omega (arith, inside))
    ∙ ap (λ (q : ℕ). text_of_cell how is_odd (cell_at s q)) here

-- a part of a text and the next cell's are no longer than the whole
pub text_within : (how : TapeMode) (is_odd : Bool) (s : Storage) (at i n : ℕ) → i < n → at + n < length s
    → length (text_of how is_odd (take i (drop at s))) + length (text_of_cell how is_odd (cell_at s (at + i)))
    ≤ length (text_of how is_odd (take n (drop at s)))
text_within how is_odd s at i n lt inside =
    let text : Cell → List ℕ = text_of_cell how is_odd in
    let cells : List Cell = take n (drop at s) in
    let few : length cells ≡ n = length-take-le n (drop at s) (omega (arith, length-drop at s, inside)) in
    let part : take i cells ≡ take i (drop at s) = take-take i n (drop at s) (omega (arith, lt)) in
    let next : get_or cells i blank ≡ cell_at s (at + i) =
    get_or-take n (drop at s) i blank lt ∙ get_or-drop at s i blank in
    let left : length (flat_map text (take i cells)) ≡ length (flat_map text (take i (drop at s))) =
    ap (λ (xs : List Cell). length (flat_map text xs)) part in
    let right : length (text (get_or cells i blank)) ≡ length (text (cell_at s (at + i))) =
    ap (λ (x : Cell). length (text x)) next in
    omega (arith, left, right, length-flat_map-take text cells i blank (omega (arith, few, lt)))

-- the room that is left after a part of a record
pub room_after : (reel : Reel) (text : List ℕ) (n : ℕ) → length text + n ≤ room_in reel
    → n ≤ room_in (after_write reel text)
room_after reel text n within =
    let more : characters_in (text ∷ reel.passed) ≡ length text + characters_in reel.passed =
    sum_by-cons length text reel.passed in
    omega (arith, more, within)

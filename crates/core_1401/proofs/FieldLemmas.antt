-- Lengths of fields by the first word mark among the bits.
use Rattle.std.proofs.Common.{◌≡◌, ℕ, ◌+◌, ◌-◌, ◌<◌, ◌≤◌, ◌==◌, ◌||◌, Bool, true, false, List, [], get_or, Some, None}
use Rattle.std.proofs.Common.{length, drop, take, reverse, position, inl, inr, refl, Option, max, min, nat_lt}
use Rattle.std.proofs.Common.{if◌then◌else◌, ap, sym, ◌∙◌, arith}
use Rattle.std.specs.Option.{option_map}
use Rattle.std.specs.List.{zip, position_or_len}
use Rattle.std.proofs.lemmas.Bool.{cases_lt, true≢false}
use Rattle.std.proofs.lemmas.Bool.Decides.{nat_tests}
use Rattle.std.proofs.lemmas.List.Quantifiers.{position-Some}
use Rattle.std.proofs.lemmas.List.{get_or-drop, length-drop, get_or-reverse, get_or-take, length-reverse, length-take}
use Rattle.std.proofs.lemmas.List.{get_or_default}
use Rattle.std.proofs.lemmas.List.Sums.{position_or_len_is, passes_at_first}
use Rattle.std.proofs.lemmas.Slice.Zip.{get_or-zip, length-zip}
use Rattle.bcd_1401.specs.declared.cell.Cell.{Cell}
use Rattle.core_1401.specs.Storage.{Storage, blank, cell_at, is_in_core}
use Rattle.core_1401.specs.Field.{cells_down, field_len_of, pair_len_of, next_mark_from}
use Rattle.core_1401.specs.MarkWords.{mark_bit, held, IsFirstMark, IsFirstPair, IsNextMark}
use Rattle.core_1401.proofs.HeldLemmas.{length_held, cell_at-held}

in_core_true : (storage : Storage) (at : ℕ) → at < length storage → is_in_core storage at ≡ true
in_core_true storage at lt = grind (arith, nat_tests)

below_true : (i n : ℕ) → i < n → nat_lt i n ≡ true
below_true i n lt = grind (arith, nat_tests)

same_false : (n : ℕ) → nat_lt n n ≡ false
same_false n = grind (arith, nat_tests)

-- the cells from a place down, by how far below it they are
down_is : (storage : Storage) (at : ℕ) → at < length storage → cells_down storage at ≡ reverse (take (at + 1) storage)
down_is storage at lt = ap (λ (b : Bool). if b then reverse (take (at + 1) storage) else [])
    (in_core_true storage at lt)

taken_len : (storage : Storage) (at : ℕ) → at < length storage → length (take (at + 1) storage) ≡ at + 1
taken_len storage at lt = omega (arith, length-take (at + 1) storage, lt)

pub length-down : (storage : Storage) (at : ℕ) → at < length storage → length (cells_down storage at) ≡ at + 1
length-down storage at lt = ap length (down_is storage at lt) ∙ length-reverse (take (at + 1) storage)
    ∙ taken_len storage at lt

pub get_down : (storage : Storage) (at k : ℕ) (d : Cell) → at < length storage → k ≤ at
    → get_or (cells_down storage at) k d ≡ cell_at storage (at - k)
get_down storage at k d lt le =
    let taken : List Cell = take (at + 1) storage in
    let len : length taken ≡ at + 1 = taken_len storage at lt in
    let place : length taken - 1 - k ≡ at - k = omega (arith, len) in
    ap (λ (cells : List Cell). get_or cells k d) (down_is storage at lt)
    ∙ get_or-reverse taken k d (omega (arith, len, le))
    ∙ ap (λ (i : ℕ). get_or taken i d) place
    ∙ get_or-take (at + 1) storage (at - k) d (omega arith)
    ∙ get_or_default storage (at - k) d blank (omega (arith, lt))

-- the mark there, as a bit
mark_down : (chars words : List ℕ) (at k : ℕ) (d : Cell) → at < length chars → k ≤ at
    → (get_or (cells_down (held chars words) at) k d).mark ≡ (mark_bit words (at - k) == 1)
mark_down chars words at k d lt le =
    ap (λ (cell : Cell). cell.mark) (get_down (held chars words) at k d (omega (arith, length_held chars words, lt)) le)
    ∙ ap (λ (cell : Cell). cell.mark) (cell_at-held chars words (at - k) (omega (arith, lt)))

-- the first place that passes
position_at : {X : Type 0} (p : X → Bool) → (xs : List X) (n : ℕ) → n < length xs → position_or_len p xs ≡ n
    → position p xs ≡ Some n
position_at p xs n lt e =
    ap (λ (i : ℕ). if nat_lt i (length xs) then Some i else None) e
    ∙ ap (λ (b : Bool). if b then Some n else None) (below_true n (length xs) lt)

position_none : {X : Type 0} (p : X → Bool) → (xs : List X) → position_or_len p xs ≡ length xs → position p xs ≡ None
position_none p xs e =
    ap (λ (i : ℕ). if nat_lt i (length xs) then Some i else None) e
    ∙ ap (λ (b : Bool). if b then Some (length xs) else None) (same_false (length xs))

-- a field with a mark
field_len_found : (chars words : List ℕ) (at n : ℕ) → at < length chars → IsFirstMark words at n → n ≤ at
    → Some (n + 1) ≡ field_len_of (held chars words) at
field_len_found chars words at n lt first le =
    let down : List Cell = cells_down (held chars words) at in
    let marked : Cell → Bool = λ cell. cell.mark in
    let len : length down ≡ at + 1 = length-down (held chars words) at (omega (arith, length_held chars words, lt)) in
    let found : position_or_len marked down ≡ n =
    position_or_len_is marked down n blank (omega (arith, len, le))
    (λ k h. mark_down chars words at k blank lt (omega (arith, h, le))
    ∙ ap (λ (b : ℕ). b == 1) (first.none_before k h (omega (arith, h, le))))
    (λ h. mark_down chars words at n blank lt le ∙ ap (λ (b : ℕ). b == 1) (first.mark_there le)) in
    sym (ap (option_map (λ (i : ℕ). i + 1)) (position_at marked down n (omega (arith, len, le)) found))

-- a field without one
field_len_none : (chars words : List ℕ) (at n : ℕ) → at < length chars → IsFirstMark words at n → at < n
    → None ≡ field_len_of (held chars words) at
field_len_none chars words at n lt first over =
    let down : List Cell = cells_down (held chars words) at in
    let marked : Cell → Bool = λ cell. cell.mark in
    let len : length down ≡ at + 1 = length-down (held chars words) at (omega (arith, length_held chars words, lt)) in
    let found : position_or_len marked down ≡ length down =
    position_or_len_is marked down (length down) blank (omega arith)
    (λ k h. mark_down chars words at k blank lt (omega (arith, len, h))
    ∙ ap (λ (b : ℕ). b == 1) (first.none_before k (omega (arith, len, h, over)) (omega (arith, len, h))))
    (λ h. absurd (omega (arith, h))) in
    sym (ap (option_map (λ (i : ℕ). i + 1)) (position_none marked down found))

-- two bits, of which one is set or none
either_bit : (x y : ℕ) → x < 2 → y < 2 → ((x == 1) || (y == 1)) ≡ (max x y == 1)
either_bit x y hx hy = grind (arith, nat_tests)

-- the marks of a pair, as the higher of two bits
mark_pair : (chars words : List ℕ) (a b k : ℕ) → a < length chars → b < length chars → k ≤ a → k ≤ b
    → let pair : Cell × Cell = get_or (zip (cells_down (held chars words) a) (cells_down (held chars words) b)) k
    (blank, blank) in
    (pair.0.mark || pair.1.mark) ≡ (max (mark_bit words (a - k)) (mark_bit words (b - k)) == 1)
mark_pair chars words a b k lt_a lt_b le_a le_b =
    let s : Storage = held chars words in
    let len_a : length (cells_down s a) ≡ a + 1 = length-down s a (omega (arith, length_held chars words, lt_a)) in
    let len_b : length (cells_down s b) ≡ b + 1 = length-down s b (omega (arith, length_held chars words, lt_b)) in
    ap (λ (pair : Cell × Cell). pair.0.mark || pair.1.mark) (get_or-zip (cells_down s a) (cells_down s b) k
    (blank, blank) (omega (arith, len_a, le_a)) (omega (arith, len_b, le_b)))
    ∙ ap (λ (m : Bool). m || (get_or (cells_down s b) k blank).mark) (mark_down chars words a k blank lt_a le_a)
    ∙ ap (λ (m : Bool). (mark_bit words (a - k) == 1) || m) (mark_down chars words b k blank lt_b le_b)
    ∙ either_bit (mark_bit words (a - k)) (mark_bit words (b - k)) (omega arith) (omega arith)

pair_count : (chars words : List ℕ) (a b : ℕ) → a < length chars → b < length chars
    → length (zip (cells_down (held chars words) a) (cells_down (held chars words) b)) ≡ min a b + 1
pair_count chars words a b lt_a lt_b =
    let s : Storage = held chars words in
    let len_a : length (cells_down s a) ≡ a + 1 = length-down s a (omega (arith, length_held chars words, lt_a)) in
    let len_b : length (cells_down s b) ≡ b + 1 = length-down s b (omega (arith, length_held chars words, lt_b)) in
    omega (arith, length-zip (cells_down s a) (cells_down s b), len_a, len_b)

pair_len_found : (chars words : List ℕ) (a b n : ℕ) → a < length chars → b < length chars → IsFirstPair words a b n
    → n ≤ a → n ≤ b
    → Some (n + 1) ≡ pair_len_of (held chars words) a b
pair_len_found chars words a b n lt_a lt_b first le_a le_b =
    let down : List (Cell × Cell) = zip (cells_down (held chars words) a) (cells_down (held chars words) b) in
    let marked : Cell × Cell → Bool = λ pair. pair.0.mark || pair.1.mark in
    let len : length down ≡ min a b + 1 = pair_count chars words a b lt_a lt_b in
    let found : position_or_len marked down ≡ n =
    position_or_len_is marked down n (blank, blank) (omega (arith, len, le_a, le_b))
    (λ k h. mark_pair chars words a b k lt_a lt_b (omega (arith, h, le_a)) (omega (arith, h, le_b))
    ∙ ap (λ (m : ℕ). m == 1) (first.none_before k h (omega (arith, h, le_a)) (omega (arith, h, le_b))))
    (λ h. mark_pair chars words a b n lt_a lt_b le_a le_b ∙ ap (λ (m : ℕ). m == 1) (first.mark_there le_a le_b)) in
    sym (ap (option_map (λ (i : ℕ). i + 1)) (position_at marked down n (omega (arith, len, le_a, le_b)) found))

pair_len_none : (chars words : List ℕ) (a b n : ℕ) → a < length chars → b < length chars → IsFirstPair words a b n
    → min a b < n
    → None ≡ pair_len_of (held chars words) a b
pair_len_none chars words a b n lt_a lt_b first over =
    let down : List (Cell × Cell) = zip (cells_down (held chars words) a) (cells_down (held chars words) b) in
    let marked : Cell × Cell → Bool = λ pair. pair.0.mark || pair.1.mark in
    let len : length down ≡ min a b + 1 = pair_count chars words a b lt_a lt_b in
    let found : position_or_len marked down ≡ length down =
    position_or_len_is marked down (length down) (blank, blank) (omega arith)
    (λ k h. mark_pair chars words a b k lt_a lt_b (omega (arith, len, h)) (omega (arith, len, h))
    ∙ ap (λ (m : ℕ). m == 1) (first.none_before k (omega (arith, len, h, over)) (omega (arith, len, h))
    (omega (arith, len, h))))
    (λ h. absurd (omega (arith, h))) in
    sym (ap (option_map (λ (i : ℕ). i + 1)) (position_none marked down found))

-- the same of core storage that holds these characters and words
pub field_len_marked : (chars words : List ℕ) (storage : Storage) (at place n : ℕ) → held chars words ≡ storage → place
    ≡ at
    → at < length storage → IsFirstMark words place n → n ≤ at → Some (n + 1) ≡ field_len_of storage at
field_len_marked chars words storage at place n view e in_core first le =
    let size : length storage ≡ length chars = ap length (sym view) ∙ length_held chars words in
    field_len_found chars words place n (omega (arith, size, e, in_core)) first (omega (arith, e, le))
    ∙ ap (λ (p : ℕ). field_len_of (held chars words) p) e ∙ ap (λ (s : Storage). field_len_of s at) view

pub field_len_unmarked : (chars words : List ℕ) (storage : Storage) (at place n : ℕ) → held chars words ≡ storage
    → place ≡ at
    → at < length storage → IsFirstMark words place n → at < n → None ≡ field_len_of storage at
field_len_unmarked chars words storage at place n view e in_core first over =
    let size : length storage ≡ length chars = ap length (sym view) ∙ length_held chars words in
    field_len_none chars words place n (omega (arith, size, e, in_core)) first (omega (arith, e, over))
    ∙ ap (λ (p : ℕ). field_len_of (held chars words) p) e ∙ ap (λ (s : Storage). field_len_of s at) view

-- two places of core storage
pub record ArePlaces (storage : Storage) (a b p q : ℕ) : Type 0 where
  pub is_a : p ≡ a
  pub is_b : q ≡ b
  pub a_in : a < length storage
  pub b_in : b < length storage

pub pair_len_marked : (chars words : List ℕ) (storage : Storage) (a b p q n : ℕ) → held chars words ≡ storage
    → ArePlaces storage a b p q → IsFirstPair words p q n → n ≤ min a b → Some (n + 1) ≡ pair_len_of storage a b
pair_len_marked chars words storage a b p q n view at first le =
    let size : length storage ≡ length chars = ap length (sym view) ∙ length_held chars words in
    pair_len_found chars words p q n (omega (arith, size, at.is_a, at.a_in))
    (omega (arith, size, at.is_b, at.b_in)) first
    (omega (arith, at.is_a, le)) (omega (arith, at.is_b, le))
    ∙ ap (λ (place : ℕ). pair_len_of (held chars words) place q) at.is_a
    ∙ ap (λ (place : ℕ). pair_len_of (held chars words) a place) at.is_b
    ∙ ap (λ (s : Storage). pair_len_of s a b) view

pub pair_len_unmarked : (chars words : List ℕ) (storage : Storage) (a b p q n : ℕ) → held chars words ≡ storage
    → ArePlaces storage a b p q → IsFirstPair words p q n → min a b < n → None ≡ pair_len_of storage a b
pair_len_unmarked chars words storage a b p q n view at first over =
    let size : length storage ≡ length chars = ap length (sym view) ∙ length_held chars words in
    pair_len_none chars words p q n (omega (arith, size, at.is_a, at.a_in))
    (omega (arith, size, at.is_b, at.b_in)) first
    (omega (arith, at.is_a, at.is_b, over))
    ∙ ap (λ (place : ℕ). pair_len_of (held chars words) place q) at.is_a
    ∙ ap (λ (place : ℕ). pair_len_of (held chars words) a place) at.is_b
    ∙ ap (λ (s : Storage). pair_len_of s a b) view

-- the last place of a field has a word mark, and none before it has one
field_marks : (storage : Storage) (at n : ℕ) → (o : Option ℕ) → position (λ (cell : Cell). cell.mark)
    (cells_down storage at) ≡ o → option_map (λ (i : ℕ). i + 1) o ≡ Some n
    → at < length storage → ((cell_at storage (at - (n - 1))).mark ≡ true)
    × ((i : ℕ) → i + 1 < n → (cell_at storage (at - i)).mark ≡ false)
field_marks storage at n None found e in_core = absurd cc
field_marks storage at n (Some k) found e in_core =
    let mark : Cell → Bool = λ (cell : Cell). cell.mark in
    let down : List Cell = cells_down storage at in
    let last : n ≡ k + 1 = cc in
    let marks = position-Some mark down k blank found in
    let len : length down ≡ at + 1 = length-down storage at in_core in
    let within : k ≤ at = omega (arith, marks.0, len) in (
      ap (λ (i : ℕ). (cell_at storage (at - i)).mark) (omega (arith, last))
          ∙ ap mark (sym (get_down storage at k blank in_core within)) ∙ marks.1,
      λ i before. ap mark (sym (get_down storage at i blank in_core (omega (arith, before, last, within))))
          ∙ marks.2 i (omega (arith, before, last)),
    )

pub marked_last : (storage : Storage) (at n : ℕ) → at < length storage → field_len_of storage at ≡ Some n
    → (cell_at storage (at - (n - 1))).mark ≡ true
marked_last storage at n in_core field = (field_marks storage at n (position (λ (cell : Cell). cell.mark)
    (cells_down storage at)) refl field in_core).0

pub unmarked_before : (storage : Storage) (at n i : ℕ) → at < length storage → field_len_of storage at ≡ Some n
    → i + 1 < n → (cell_at storage (at - i)).mark ≡ false
unmarked_before storage at n i in_core field before = (field_marks storage at n
    (position (λ (cell : Cell). cell.mark) (cells_down storage at)) refl field in_core).1 i before

-- none of the places from one to another so far above it has a word mark
abbrev NoMarkTo : Storage → ℕ → ℕ → Type 0
NoMarkTo storage at len = (k : ℕ) → 0 < k → k < len → (cell_at storage (at + k)).mark ≡ false

-- a place of the rest above is one of core
above : (storage : Storage) (at k : ℕ) → (get_or (drop (at + 1) storage) k blank).mark
    ≡ (cell_at storage (at + (k + 1))).mark
above storage at k =
    let place : at + 1 + k ≡ at + (k + 1) = omega arith in
    ap (λ (cell : Cell). cell.mark) (get_or-drop (at + 1) storage k blank) ∙ ap (λ n. (cell_at storage n).mark) place

-- the next word mark is this far above, if there is none before and one there, or the end of core
next_mark_is : (storage : Storage) (at len : ℕ) → 0 < len → at + len ≤ length storage → NoMarkTo storage at len
    → (at + len < length storage → (cell_at storage (at + len)).mark ≡ true) → next_mark_from storage at ≡ len
next_mark_is storage at len some inside none there =
    let rest = drop (at + 1) storage in
    let left : length rest ≡ length storage - (at + 1) = length-drop (at + 1) storage in
    let last : len - 1 + 1 ≡ len = omega arith in
    let first : position_or_len (λ (cell : Cell). cell.mark) rest ≡ len - 1 =
    position_or_len_is (λ (cell : Cell). cell.mark) rest (len - 1) blank (omega (arith, left))
    (λ k h. above storage at k ∙ none (k + 1) (omega arith) (omega arith))
    (λ h. above storage at (len - 1) ∙ ap (λ n. (cell_at storage (at + n)).mark) last ∙ there (omega (arith, left))) in
    omega (arith, first)

-- it is no less, if there is none before
next_mark_least : (storage : Storage) (at len : ℕ) → at + len ≤ length storage → NoMarkTo storage at len
    → len ≤ next_mark_from storage at
next_mark_least storage at len inside none =
    let rest = drop (at + 1) storage in
    let first : ℕ = position_or_len (λ (cell : Cell). cell.mark) rest in
    let left : length rest ≡ length storage - (at + 1) = length-drop (at + 1) storage in
    elim (cases_lt (first + 1) len) [
      | inl h ↦
          let passes : (get_or rest first blank).mark ≡ true = passes_at_first (λ (cell : Cell). cell.mark) rest blank
          (omega (arith, left)) in
          let fails : (get_or rest first blank).mark ≡ false = above storage at first
          ∙ none (first + 1) (omega arith) h in
          absurd (true≢false (sym passes ∙ fails))
      | inr h ↦ h
    ]

-- the same by the bits
pub next_mark_found : (chars words : List ℕ) (at most n : ℕ) → at < length chars → IsNextMark words at most n
    → min n (length chars - at) ≡ min most (next_mark_from (held chars words) at)
next_mark_found chars words at most n in_core next =
    let storage : Storage = held chars words in
    let size : length storage ≡ length chars = length_held chars words in
    let mark : (k : ℕ) → at + k < length chars → (cell_at storage (at + k)).mark ≡ (mark_bit words (at + k) == 1) =
    λ k lt. ap (λ (cell : Cell). cell.mark) (cell_at-held chars words (at + k) lt) in
    let none : (len : ℕ) → len ≤ n → at + len ≤ length chars → NoMarkTo storage at len =
    λ len le inside k some before. mark k (omega (arith, before, inside))
    ∙ ap (λ (b : ℕ). b == 1) (next.none_before k some (omega (arith, before, le))) in
    elim (cases_lt (length chars - at) n) [
      | inl past ↦
          let end : ℕ = length chars - at in
          let here : next_mark_from storage at ≡ end =
          next_mark_is storage at end (omega (arith, in_core)) (omega (arith, size, in_core))
          (none end (omega (arith, past)) (omega (arith, in_core))) (λ h. absurd (omega (arith, h, size, in_core))) in
          omega (arith, here, past, next.near, in_core)
      | inr inside ↦ elim (cases_lt n most) [
        | inl near ↦
            let here : next_mark_from storage at ≡ n =
            next_mark_is storage at n next.some (omega (arith, size, inside, in_core))
            (none n (omega arith) (omega (arith, inside, in_core)))
            (λ h. mark n (omega (arith, h, size)) ∙ ap (λ (b : ℕ). b == 1) (next.mark_there near)) in
            omega (arith, here, inside, near)
        | inr all ↦
            let least : n ≤ next_mark_from storage at = next_mark_least storage at n
            (omega (arith, size, inside, in_core)) (none n (omega arith) (omega (arith, inside, in_core))) in
            omega (arith, least, inside, all, next.near)
      ]
    ]

-- the last pair has a word mark
pub pair_last : (chars words : List ℕ) (storage : Storage) (a b p q n : ℕ) → held chars words ≡ storage
    → ArePlaces storage a b p q → IsFirstPair words p q n → n ≤ min a b
    → ((cell_at storage (a + 1 - (n + 1))).mark || (cell_at storage (b + 1 - (n + 1))).mark) ≡ true
pair_last chars words storage a b p q n view at first le =
    let size : length storage ≡ length chars = ap length (sym view) ∙ length_held chars words in
    let mark : Cell → Bool = λ cell. cell.mark in
    let at_place : (k place : ℕ) → k ≡ place → place < length chars
    → (cell_at storage k).mark ≡ (mark_bit words place == 1) =
    λ k place e lt. ap (λ (s : Storage). (cell_at s k).mark) (sym view)
    ∙ ap (λ (i : ℕ). (cell_at (held chars words) i).mark) e ∙ ap mark (cell_at-held chars words place lt) in
    let of_a = at_place (a + 1 - (n + 1)) (p - n) (omega (arith, at.is_a)) (omega (arith, size, at.is_a, at.a_in)) in
    let of_b = at_place (b + 1 - (n + 1)) (q - n) (omega (arith, at.is_b)) (omega (arith, size, at.is_b, at.b_in)) in
    ap (λ (m : Bool). m || (cell_at storage (b + 1 - (n + 1))).mark) of_a
    ∙ ap (λ (m : Bool). (mark_bit words (p - n) == 1) || m) of_b
    ∙ either_bit (mark_bit words (p - n)) (mark_bit words (q - n)) (omega arith) (omega arith)
    ∙ ap (λ (m : ℕ). m == 1) (first.mark_there (omega (arith, le, at.is_a)) (omega (arith, le, at.is_b)))

-- Fields read and written from left to right.
use Rattle.std.proofs.Common.{◌≡◌, ◌⊎◌, ℕ, ◌+◌, ◌-◌, ◌==◌, ◌<◌, ◌≤◌, Bool, false, List, length, get_or, take, drop, ap}
use Rattle.std.proofs.Common.{sym, ◌∙◌, inl, inr, arith, if◌then◌else◌}
use Rattle.std.proofs.lemmas.Bool.{cases_lt}
use Rattle.std.proofs.lemmas.Bool.Decides.{nat_tests}
use Rattle.std.proofs.lemmas.List.{ext_get_or, get_or_past, length-map, length-take, length-drop, get_or-map}
use Rattle.std.proofs.lemmas.List.{get_or-take, get_or-drop}
use Rattle.std.proofs.lemmas.List.FromFn.{get_or-map-range_with_len, length-map-range_with_len}
use Rattle.bcd_1401.specs.Character.{with_zone_of}
use Rattle.bcd_1401.specs.declared.cell.Cell.{Cell}
use Rattle.core_1401.specs.Address.{addresses}
use Rattle.core_1401.specs.Storage.{Storage, blank, cell_at}
use Rattle.fields_1401.specs.Across.{chars_across, unzoned_at, units_unzoned, unmarked_cell, with_across, IsUnmarked}
use Rattle.fields_1401.specs.Across.{char_to, unzoned_down, IsSameOutside, IsSameBeside}
use Rattle.fields_1401.specs.Outcome.{below_by}
use Rattle.fields_1401.specs.Places.{is_within, with_cells, with_chars, unmarked_place, rewritten_cell}
use Rattle.fields_1401.proofs.PlacesLemmas.{cell_at-within, cell_at-outside, is_within-inside, is_within-above}
use Rattle.fields_1401.proofs.PlacesLemmas.{is_within-below}
use Rattle.fields_1401.proofs.PlacesLemmas.{length-with_cells, with_cells_same, with_cells_again, cell_at-with_chars}

-- there is a character for each place
pub length-across : (s : Storage) (at n : ℕ) → at < length s → n ≤ at + 1 → length (chars_across s at n) ≡ n
unfolding chars_across
length-across s at n in_core above =
    let cells : List Cell = take n (drop (at + 1 - n) s) in
    length-map cells (λ (cell : Cell). cell.char)
    ∙ omega (arith, length-take n (drop (at + 1 - n) s), length-drop (at + 1 - n) s)

-- the character of place i
pub char_across : (s : Storage) (at n i : ℕ) → at < length s → n ≤ at + 1 → i < n → get_or (chars_across s at n) i 0
    ≡ (cell_at s (at - (n - 1 - i))).char
unfolding chars_across
char_across s at n i in_core above within =
    let cells : List Cell = take n (drop (at + 1 - n) s) in
    let size : length cells ≡ n = omega (arith, length-take n (drop (at + 1 - n) s), length-drop (at + 1 - n) s) in
    let here : get_or cells i blank ≡ cell_at s (at - (n - 1 - i)) =
    get_or-take n (drop (at + 1 - n) s) i blank within ∙ get_or-drop (at + 1 - n) s i blank
    ∙ ap (λ q. get_or s q blank) (omega arith) in
    get_or-map (λ (cell : Cell). cell.char) cells i blank 0 (omega arith) ∙ ap (λ (cell : Cell). cell.char) here

pub length-units_unzoned : (chars : List ℕ) → length (units_unzoned chars) ≡ length chars
unfolding units_unzoned
length-units_unzoned chars = length-map-range_with_len (unzoned_at chars) 0 (length chars)

pub char_unzoned : (chars : List ℕ) (i : ℕ) → i < length chars → get_or (units_unzoned chars) i 0 ≡ unzoned_at chars i
unfolding units_unzoned
char_unzoned chars i within = get_or-map-range_with_len (unzoned_at chars) 0 (length chars) i i 0 within (omega arith)

-- and one with the units without their zone
pub length-unzoned_across : (s : Storage) (at n : ℕ) → at < length s → n ≤ at + 1
    → length (units_unzoned (chars_across s at n)) ≡ n
length-unzoned_across s at n in_core above =
    length-units_unzoned (chars_across s at n) ∙ length-across s at n in_core above

-- the character of place i: without its zone if it is the last
pub unzoned_read : (s : Storage) (at n i : ℕ) → at < length s → n ≤ at + 1 → i < n
    → get_or (units_unzoned (chars_across s at n)) i 0
    ≡ (if i + 1 == n then with_zone_of (cell_at s (at - (n - 1 - i))).char 0 else (cell_at s (at - (n - 1 - i))).char)
unzoned_read s at n i in_core above within =
    let chars = chars_across s at n in
    let size : length chars ≡ n = length-across s at n in_core above in
    let shown : ℕ → ℕ → ℕ = λ m char. if i + 1 == m then with_zone_of char 0 else char in
    char_unzoned chars i (omega arith)
    ∙ ap (λ m. shown m (get_or chars i 0)) size
    ∙ ap (shown n) (char_across s at n i in_core above within)

-- no word mark is left at the places written
pub across_unmarked : (s t : Storage) (at n : ℕ) (chars : List ℕ) → t ≡ with_across s at chars → length chars ≡ n
    → at < length s → n ≤ at + 1 → IsUnmarked t at n
unfolding with_across
across_unmarked s t at n chars e size in_core above i within =
    ap (λ (u : Storage). (cell_at u (at - i)).mark) e
    ∙ ap (λ (cell : Cell). cell.mark)
    (cell_at-within s at (length chars) (unmarked_cell chars) (at - i) (omega arith)
    (is_within-inside at (length chars) (at - i) (omega arith) (omega arith)))

-- each other place is as it was
pub across_outside : (s t : Storage) (at n : ℕ) (chars : List ℕ) → t ≡ with_across s at chars → length chars ≡ n
    → IsSameOutside s t at n
unfolding with_across
across_outside s t at n chars e size place out =
    let same_size : length t ≡ length s = ap length e ∙ length-with_cells s at (length chars) (unmarked_cell chars) in
    elim (cases_lt place (length s)) [
      | inl inside ↦ ap (λ (u : Storage). cell_at u place) e
          ∙ cell_at-outside s at (length chars) (unmarked_cell chars) place inside (rw size out)
      | inr past ↦ get_or_past t place blank (omega arith) ∙ sym (get_or_past s place blank past)
    ]

-- cells written leave each other place, in core or not
pub cells_outside : (s t : Storage) (at n : ℕ) (cell_of : ℕ → Cell) → t ≡ with_cells s at n cell_of
    → IsSameOutside s t at n
cells_outside s t at n cell_of e place out =
    let same_size : length t ≡ length s = ap length e ∙ length-with_cells s at n cell_of in
    elim (cases_lt place (length s)) [
      | inl inside ↦ ap (λ (u : Storage). cell_at u place) e ∙ cell_at-outside s at n cell_of place inside out
      | inr past ↦ get_or_past t place blank (omega arith) ∙ sym (get_or_past s place blank past)
    ]

-- a place above the n that end at an address, or from the register below them down, is none of them
beside_none : (at n place : ℕ) → 0 < n → n ≤ at + 1 → at < addresses
    → (at < place) ⊎ ((below_by at n < at) × (place ≤ below_by at n)) → is_within at n place ≡ false
beside_none at n place some places range beside =
    elim beside [
      | inl above ↦ is_within-above at n place above
      | inr (below, le) ↦ is_within-below at n place (omega arith)
    ]

-- so these are as they were
pub same_beside : (s t : Storage) (at n : ℕ) → IsSameOutside s t at n → 0 < n → n ≤ at + 1 → at < addresses
    → IsSameBeside s t at (below_by at n)
same_beside s t at n outside some places range =
    λ place beside. outside place (beside_none at n place some places range beside)

-- what was written is read again
pub across_again : (s t : Storage) (at n : ℕ) (chars : List ℕ) → t ≡ with_across s at chars → length chars ≡ n
    → at < length s → n ≤ at + 1 → chars_across t at n ≡ chars
unfolding with_across
across_again s t at n chars e size in_core above =
    let same_size : length t ≡ length s = ap length e ∙ length-with_cells s at (length chars) (unmarked_cell chars) in
    let read_size : length (chars_across t at n) ≡ n = length-across t at n (omega arith) above in
    ext_get_or 0 (chars_across t at n) chars (read_size ∙ sym size) (λ i lt.
    let q = at - (n - 1 - i) in
    char_across t at n i (omega arith) above (omega arith)
    ∙ ap (λ (u : Storage). (cell_at u q).char) e
    ∙ ap (λ (cell : Cell). cell.char)
    (cell_at-within s at (length chars) (unmarked_cell chars) q (omega arith)
    (is_within-inside at (length chars) q (omega arith) (omega arith)))
    ∙ ap (λ k. get_or chars k 0) (omega arith))

-- the characters are put, and then the word marks cleared
pub across_cleared : (s t r : Storage) (at n : ℕ) (chars : List ℕ) → t ≡ with_chars s at n (char_to chars)
    → r ≡ with_cells t at n (unmarked_place t at) → length chars ≡ n → at < length s → r ≡ with_across s at chars
unfolding with_across with_chars
across_cleared s t r at n chars put cleared size in_core =
    let shown : Storage = with_chars s at n (char_to chars) in
    let unmark : Cell → Cell = λ cell. record cell { mark = false } in
    cleared ∙ ap (λ (u : Storage). with_cells u at n (unmarked_place u at)) put
    ∙ with_cells_same shown at n (unmarked_place shown at) (unmarked_cell chars)
    (λ i lt le. ap unmark (cell_at-with_chars s at n (char_to chars) i in_core le lt))
    ∙ with_cells_again s at n (rewritten_cell s at (char_to chars)) (unmarked_cell chars)
    ∙ ap (λ m. with_cells s at m (unmarked_cell chars)) (sym size)

-- the same in a list of characters by address, counted from the units
pub unzoned_down_is : (s : Storage) (chars : List ℕ) (a t i : ℕ) → a < length s → t ≤ a + 1 → i < t
    → get_or chars (a - i) 0 ≡ (cell_at s (a - i)).char
    → unzoned_down chars a i ≡ get_or (units_unzoned (chars_across s a t)) (t - 1 - i) 0
unzoned_down_is s chars a t i in_core above within same =
    let zoned : Bool → ℕ → ℕ = λ last char. if last then with_zone_of char 0 else char in
    let last : (i == 0) ≡ (t - 1 - i + 1 == t) = grind (arith, nat_tests) in
    let place : a - i ≡ a - (t - 1 - (t - 1 - i)) = omega arith in
    ap (zoned (i == 0)) same
    ∙ ap (λ q. zoned (i == 0) (cell_at s q).char) place
    ∙ ap (λ b. zoned b (cell_at s (a - (t - 1 - (t - 1 - i)))).char) last
    ∙ sym (unzoned_read s a t (t - 1 - i) in_core above (omega arith))

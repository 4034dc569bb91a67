-- A cell put in two parts, and an address put in three places.
use Rattle.std.proofs.Common.{◌≡◌, ◌≢◌, ◌∙◌, ℕ, ◌+◌, ◌-◌, ◌*◌, ◌%◌, ◌<◌, ◌≤◌, List, ap, arith, get_or, length}
use Rattle.std.proofs.Common.{slice_index, slice_set, refl, sym, get_or-set_same, get_or-set_other}
use Rattle.std.proofs.Math.Seq.{map-set_same}
use Rattle.std.proofs.lemmas.List.{length-set, set-set}
use Rattle.bcd_1401.specs.Character.{digit_by, digit_of, with_zone_of, zone_of}
use Rattle.bcd_1401.specs.declared.cell.Cell.{Cell}
use Rattle.core_1401.specs.Address.{spelling_of, value_at, value_of}
use Rattle.core_1401.specs.Storage.{Storage, blank, cell_at, with_char, with_mark}
use Rattle.cpu_1401.specs.RegisterStep.{stored}
use Rattle.fields_1401.specs.Places.{marks_of}

-- its character and then its word mark
pub cell_put : (storage : Storage) (at : ℕ) (cell : Cell) → at < length storage
    → with_mark (with_char storage at cell.char) at cell.mark ≡ slice_set storage at cell
cell_put storage at cell h = rw (set-set, get_or-set_same) refl

-- a character at a place leaves every word mark
pub char_stays : (storage : Storage) (at char : ℕ) → marks_of (with_char storage at char) ≡ marks_of storage
char_stays storage at char = map-set_same (λ (cell : Cell). cell.mark) storage at
    (record (cell_at storage at) { char = char }) blank refl

-- it is there, and its neighbours stay
char_there : (storage : Storage) (at char : ℕ) → at < length storage
    → (cell_at (with_char storage at char) at).char ≡ char
char_there storage at char inside =
    ap (λ (cell : Cell). cell.char)
    (get_or-set_same storage at (record (cell_at storage at) { char = char }) blank inside)

char_beside : (storage : Storage) (at char k : ℕ) → k ≢ at
    → (cell_at (with_char storage at char) k).char ≡ (cell_at storage k).char
char_beside storage at char k other =
    ap (λ (cell : Cell). cell.char)
    (get_or-set_other storage at k (record (cell_at storage at) { char = char }) blank other)

-- three characters put one after the other are read again
three_read : (storage : Storage) (at h t u : ℕ) → 2 ≤ at → at < length storage
    → value_at (with_char (with_char (with_char storage (at - 2) h) (at - 1) t) at u) (at - 2) ≡ value_of h t u
three_read storage at h t u three inside =
    let one : Storage = with_char storage (at - 2) h in
    let two : Storage = with_char one (at - 1) t in
    let all : Storage = with_char two at u in
    let size_one : length one ≡ length storage =
    length-set storage (at - 2) (record (cell_at storage (at - 2)) { char = h }) in
    let size_two : length two ≡ length one =
    length-set one (at - 1) (record (cell_at one (at - 1)) { char = t }) in
    let second : at - 2 + 1 ≡ at - 1 = omega (arith, three) in
    let third : at - 2 + 2 ≡ at = omega (arith, three) in
    let is_h : (cell_at all (at - 2)).char ≡ h =
    char_beside two at u (at - 2) (omega (arith, three)) ∙ char_beside one (at - 1) t (at - 2) (omega (arith, three))
    ∙ char_there storage (at - 2) h (omega (arith, inside)) in
    let is_t : (cell_at all (at - 2 + 1)).char ≡ t =
    ap (λ (q : ℕ). (cell_at all q).char) second ∙ char_beside two at u (at - 1) (omega (arith, three))
    ∙ char_there one (at - 1) t (omega (arith, inside, size_one)) in
    let is_u : (cell_at all (at - 2 + 2)).char ≡ u =
    ap (λ (q : ℕ). (cell_at all q).char) third ∙ char_there two at u (omega (arith, inside, size_one, size_two)) in
    ap (λ (x : ℕ). value_of x (cell_at all (at - 2 + 1)).char (cell_at all (at - 2 + 2)).char) is_h
    ∙ ap (λ (x : ℕ). value_of h x (cell_at all (at - 2 + 2)).char) is_t
    ∙ ap (λ (x : ℕ). value_of h t x) is_u

-- a zone over the tens doesn't count
no_tens_zone : (h t u zone : ℕ) → value_of h (with_zone_of t zone) u ≡ value_of h t u
no_tens_zone h t u zone =
    let low : (16 * zone + t % 16) % 16 ≡ t % 16 = omega arith in
    ap (λ (bits : ℕ). 100 * digit_of h + 10 * digit_by bits + digit_of u + 1000 * zone_of h + 4000 * zone_of u) low

-- an address stored is read again
pub stored_again : (storage : Storage) (at address : ℕ) (spelled : List ℕ) → spelled ≡ spelling_of address
    → value_of (slice_index spelled 0) (slice_index spelled 1) (slice_index spelled 2) ≡ address → 2 ≤ at
    → at < length storage → value_at (stored storage at address) (at - 2) ≡ address
stored_again storage at address spelled is value three inside =
    let h : ℕ = slice_index (spelling_of address) 0 in
    let t : ℕ = slice_index (spelling_of address) 1 in
    let u : ℕ = slice_index (spelling_of address) 2 in
    let zone : ℕ = zone_of (cell_at storage (at - 1)).char in
    three_read storage at h (with_zone_of t zone) u three inside
    ∙ no_tens_zone h t u zone
    ∙ ap (λ (l : List ℕ). value_of (slice_index l 0) (slice_index l 1) (slice_index l 2)) (sym is)
    ∙ value

-- and it leaves every word mark
pub stored_marks : (storage : Storage) (at address : ℕ) → marks_of (stored storage at address) ≡ marks_of storage
stored_marks storage at address =
    let tens : ℕ = with_zone_of (slice_index (spelling_of address) 1) (zone_of (cell_at storage (at - 1)).char) in
    let one : Storage = with_char storage (at - 2) (slice_index (spelling_of address) 0) in
    char_stays (with_char one (at - 1) tens) at (slice_index (spelling_of address) 2)
    ∙ char_stays one (at - 1) tens
    ∙ char_stays storage (at - 2) (slice_index (spelling_of address) 0)

-- three characters of a spelling, put one after the other, are the address stored
pub three_put : (storage one two all : Storage) (at address zone tens x y z : ℕ) (spelled : List ℕ)
    → spelled ≡ spelling_of address → zone ≡ zone_of (cell_at storage (at - 1)).char
    → tens ≡ with_zone_of (get_or spelled 1 y) zone
    → one ≡ with_char storage (at - 2) (get_or spelled 0 x) → two ≡ with_char one (at - 1) tens
    → all ≡ with_char two at (get_or spelled 2 z) → all ≡ stored storage at address
three_put storage one two all at address zone tens x y z spelled is is_zone is_tens is_one is_two is_all =
    rw (is_all, is_two, is_one, is_tens, is_zone, is) refl

-- How numbers and texts compare, digit by digit and character by character.
use Rattle.std.proofs.Common.{◌≡◌, ℕ, zero, suc, ◌+◌, ◌-◌, ◌*◌, ◌<◌, ◌≤◌, ◌==◌, ◌&&◌, Bool, true, false, List, [], ◌∷◌}
use Rattle.std.proofs.Common.{length, drop, get_or, map, reverse, refl, sym, ◌∙◌, ap, arith, fold}
use Rattle.std.specs.Prelude.{if◌then◌else◌}
use Rattle.std.specs.List.{list_all}
use Rattle.std.proofs.Common.{Ordering, Less, Equal, Greater, inl, inr}
use Rattle.std.specs.Ordering.{nat_cmp, ordering_then, is_eq}
use Rattle.std.proofs.lemmas.Bool.{cases_lt}
use Rattle.std.proofs.lemmas.Bool.Decides.{nat_tests}
use Rattle.std.proofs.lemmas.List.{drop_all, drop_more, get_or-reverse, get_or-take, get_or_past, length-map, length-reverse, length-take-le, reverse-append}
use Rattle.std.proofs.lemmas.List.{reverse-reverse}
use Rattle.bcd_1401.specs.Character.{digit_of, zone_of}
use Rattle.bcd_1401.specs.Collation.{order_of}
use Rattle.bcd_1401.specs.Digits.{is_digit, value_of, with_digit}
use Rattle.bcd_1401.specs.declared.cell.Cell.{Cell}
use Rattle.core_1401.specs.Address as address
use Rattle.core_1401.specs.Field.{cells_down}
use Rattle.core_1401.specs.Storage.{Storage, blank, cell_at}
use Rattle.core_1401.proofs.FieldLemmas.{get_down, length-down}
use Rattle.fields_1401.specs.Number.{magnitude_of, places_down, sign_of, sign_under}
use Rattle.fields_1401.specs.declared.sign.Sign.{Sign}
use Rattle.fields_1401.specs.declared.sign.Sign.TheVariants.{Plus, Minus}
use Rattle.operate_program.specs.Comparison.{by_signs, number_order, order_of_byte, orders_of, orders_of_text, sign_meant}
use Rattle.operate_program.specs.Comparison.{text_order, unless_zero}
use Rattle.operate_views.specs.NumberText.{is_number, is_plain_digit}
use Rattle.operate_views.proofs.NumberLemmas.{value_of_push}

-- the number that digits write, units first
abbrev pub value_up : List ℕ → ℕ
value_up [] = 0
value_up (d ∷ ds) = (d - 48) + 10 * value_up ds

value_reversed : (digits : List ℕ) → value_of (reverse digits) ≡ value_up digits
value_reversed [] = refl
value_reversed (d ∷ ds) =
    ap value_of (reverse-append (d ∷ []) ds) ∙ value_of_push (reverse ds) d ∙ omega (arith, value_reversed ds)

-- digits, highest first, write the same number units first
pub value_up_reversed : (digits : List ℕ) → value_up (reverse digits) ≡ value_of digits
value_up_reversed digits = sym (value_reversed (reverse digits)) ∙ ap value_of (reverse-reverse digits)

-- a digit and those above it
pub magnitude_more : (cells : List Cell) (i : ℕ)
    → magnitude_of (drop i cells) ≡ digit_of (get_or cells i blank).char + 10 * magnitude_of (drop (i + 1) cells)
magnitude_more cells i =
    elim (cases_lt i (length cells)) [
      | inl lt ↦ ap magnitude_of (drop_more cells i blank lt)
      | inr le ↦
          let here : magnitude_of (drop i cells) ≡ 0 = ap magnitude_of (drop_all i cells le) in
          let above : magnitude_of (drop (i + 1) cells) ≡ 0 = ap magnitude_of (drop_all (i + 1) cells (omega (arith, le))) in
          let digit : digit_of (get_or cells i blank).char ≡ 0 =
          ap (λ (cell : Cell). digit_of cell.char) (get_or_past cells i blank le) in
          omega (arith, here, above, digit)
    ]

pub value_more : (ds : List ℕ) (i : ℕ)
    → value_up (drop i ds) ≡ (get_or ds i 48 - 48) + 10 * value_up (drop (i + 1) ds)
value_more ds i =
    elim (cases_lt i (length ds)) [
      | inl lt ↦ ap value_up (drop_more ds i 48 lt)
      | inr le ↦
          let here : value_up (drop i ds) ≡ 0 = ap value_up (drop_all i ds le) in
          let above : value_up (drop (i + 1) ds) ≡ 0 = ap value_up (drop_all (i + 1) ds (omega (arith, le))) in
          omega (arith, here, above, get_or_past ds i 48 le)
    ]

-- two numbers compare as their upper digits do, and if those are equal as the digits below
pub then_digits : (x y a b : ℕ) → a ≤ 9 → b ≤ 9
    → ordering_then (nat_cmp x y) (nat_cmp a b) ≡ nat_cmp (a + 10 * x) (b + 10 * y)
then_digits x y a b ha hb = grind (arith, nat_tests)

-- zeros write zero, and nothing else does
zeros_from : (n : ℕ) (ds : List ℕ) → list_all is_digit ds ≡ true
    → ((n == 0) && list_all (λ (d : ℕ). d == 48) ds) ≡ (fold with_digit n ds == 0)
zeros_from n [] all = grind (arith, nat_tests)
zeros_from n (d ∷ ds) all = grind (arith, nat_tests, zeros_from (with_digit n d) ds)

pub zeros_are_zero : (ds : List ℕ) → list_all is_digit ds ≡ true
    → list_all (λ (d : ℕ). d == 48) ds ≡ (value_of ds == 0)
zeros_are_zero ds all = zeros_from 0 ds all

-- the sign of a field is that of its units
pub sign_at : (storage : Storage) (at len : ℕ) → at < length storage → 0 < len → len ≤ at + 1
    → sign_of (places_down storage at len) ≡ sign_under (zone_of (cell_at storage at).char)
unfolding places_down
sign_at storage at len lt some le =
    let units : at - 0 ≡ at = omega arith in
    ap (λ (cell : Cell). sign_under (zone_of cell.char))
    (get_or-take len (cells_down storage at) 0 blank some ∙ get_down storage at 0 blank lt (omega arith)
    ∙ ap (λ (n : ℕ). cell_at storage n) units)

-- two magnitudes are zero if they are equal and one is
both_zero : (x y : ℕ) → (is_eq (nat_cmp x y) && (y == 0)) ≡ ((x + y) == 0)
both_zero x y = grind (arith, nat_tests)

signed : (is_minus minus : Bool) (x y : ℕ)
    → by_signs is_minus minus (nat_cmp x y) (is_eq (nat_cmp x y) && (y == 0))
    ≡ number_order (if is_minus then Minus else Plus) x (sign_meant minus) y
unfolding number_order
signed false false x y = refl
signed true true x y = refl
signed false true x y = ap (λ (b : Bool). unless_zero b Greater) (both_zero x y)
signed true false x y = ap (λ (b : Bool). unless_zero b Less) (both_zero x y)

-- the number of a field compares by the zone over its units
pub signed_at : (storage : Storage) (at len : ℕ) (minus : Bool) (y : ℕ) → at < length storage → 0 < len → len ≤ at + 1
    → by_signs (zone_of (cell_at storage at).char == 2) minus (nat_cmp (magnitude_of (places_down storage at len)) y)
    (is_eq (nat_cmp (magnitude_of (places_down storage at len)) y) && (y == 0))
    ≡ number_order (sign_of (places_down storage at len)) (magnitude_of (places_down storage at len)) (sign_meant minus) y
signed_at storage at len minus y lt some le =
    let x = magnitude_of (places_down storage at len) in
    signed (zone_of (cell_at storage at).char == 2) minus x y
    ∙ ap (λ (sign : Sign). number_order sign x (sign_meant minus) y) (sym (sign_at storage at len lt some le))

-- how many cells a field has
pub places_counted : (storage : Storage) (at len : ℕ) → at < length storage → len ≤ at + 1
    → length (places_down storage at len) ≡ len
unfolding places_down
places_counted storage at len lt le = length-take-le len (cells_down storage at) (omega (arith, length-down storage at lt))

-- the cell at a place counted from the units
pub place_down : (storage : Storage) (at len i : ℕ) → at < length storage → len ≤ at + 1 → i < len
    → get_or (places_down storage at len) i blank ≡ cell_at storage (at - i)
unfolding places_down
place_down storage at len i lt le inside =
    get_or-take len (cells_down storage at) i blank inside ∙ get_down storage at i blank lt (omega arith)

-- beyond the high place of a field there is a blank
pub past_place : (storage : Storage) (at len i : ℕ) → at < length storage → len ≤ at + 1 → len ≤ i
    → get_or (places_down storage at len) i blank ≡ blank
past_place storage at len i lt le past =
    get_or_past (places_down storage at len) i blank (omega (arith, places_counted storage at len lt le))

pub ruleset field_places = (place_down, past_place)

-- a field is a number if its units are a digit, and its other places are digits without a zone
number_by_units : (cells : List Cell) → 0 < length cells
    → is_number cells ≡ (address.is_digit (get_or cells 0 blank).char && list_all is_plain_digit (drop 1 cells))
number_by_units [] some = absurd (omega (arith, some))
number_by_units (units ∷ cells) some = refl

pub number_at : (storage : Storage) (at len : ℕ) → at < length storage → 0 < len → len ≤ at + 1
    → is_number (places_down storage at len)
    ≡ (address.is_digit (cell_at storage at).char && list_all is_plain_digit (drop 1 (places_down storage at len)))
number_at storage at len lt some le =
    let cells : List Cell = places_down storage at len in
    let units : at - 0 ≡ at = omega arith in
    number_by_units cells (omega (arith, some, places_counted storage at len lt le))
    ∙ ap (λ (cell : Cell). address.is_digit cell.char && list_all is_plain_digit (drop 1 cells))
    (place_down storage at len 0 lt le some ∙ ap (λ (n : ℕ). cell_at storage n) units)

-- a place more
pub plain_more : (storage : Storage) (at len i : ℕ) → at < length storage → len ≤ at + 1 → i < len
    → list_all is_plain_digit (drop i (places_down storage at len))
    ≡ (is_plain_digit (cell_at storage (at - i)) && list_all is_plain_digit (drop (i + 1) (places_down storage at len)))
plain_more storage at len i lt le inside =
    let cells : List Cell = places_down storage at len in
    ap (λ (left : List Cell). list_all is_plain_digit left)
    (drop_more cells i blank (omega (arith, inside, places_counted storage at len lt le)))
    ∙ ap (λ (cell : Cell). is_plain_digit cell && list_all is_plain_digit (drop (i + 1) cells))
    (place_down storage at len i lt le inside)

-- no place is left
pub plain_end : (storage : Storage) (at len i : ℕ) → at < length storage → len ≤ at + 1 → len ≤ i
    → list_all is_plain_digit (drop i (places_down storage at len)) ≡ true
plain_end storage at len i lt le past =
    ap (λ (left : List Cell). list_all is_plain_digit left)
    (drop_all i (places_down storage at len) (omega (arith, past, places_counted storage at len lt le)))

-- what a list is mapped to, by place
map_at : {X : Type 0} (f : X → ℕ) (xs : List X) (i : ℕ) (d : X) → i < length xs → get_or (map f xs) i 0 ≡ f (get_or xs i d)
map_at f [] i d lt = absurd (omega arith)
map_at f (x ∷ xs) zero d lt = refl
map_at f (x ∷ xs) (suc i) d lt = map_at f xs i d (omega arith)

-- the character at a place counted from the left
pub order_left : (storage : Storage) (at len i : ℕ) → at < length storage → len ≤ at + 1 → i < len
    → get_or (orders_of (places_down storage at len)) i 0 ≡ order_of (cell_at storage (at - (len - 1 - i))).char
order_left storage at len i lt le inside =
    let cells : List Cell = places_down storage at len in
    let counted : length cells ≡ len = places_counted storage at len lt le in
    let place : at - (length cells - 1 - i) ≡ at - (len - 1 - i) = omega (arith, counted) in
    map_at (λ (cell : Cell). order_of cell.char) (reverse cells) i blank (omega (arith, counted, length-reverse cells))
    ∙ ap (λ (cell : Cell). order_of cell.char)
    (get_or-reverse cells i blank (omega (arith, counted))
    ∙ place_down storage at len (length cells - 1 - i) lt le (omega (arith, counted))
    ∙ ap (λ (n : ℕ). cell_at storage n) place)

-- there is none beyond the last
pub order_past : (storage : Storage) (at len i : ℕ) → at < length storage → len ≤ at + 1 → len ≤ i
    → get_or (orders_of (places_down storage at len)) i 0 ≡ 0
order_past storage at len i lt le past =
    let cells : List Cell = places_down storage at len in
    get_or_past (orders_of cells) i 0
    (omega (
      arith,
      places_counted storage at len lt le,
      length-reverse cells,
      length-map (reverse cells) (λ (cell : Cell). order_of cell.char),
    ))

pub ruleset field_orders = (order_left, order_past)

-- the same of a text
pub order_read : (text : List ℕ) (i byte : ℕ) → i < length text → byte ≡ get_or text i byte
    → get_or (orders_of_text text) i 0 ≡ order_of_byte byte
order_read text i byte lt is = map_at order_of_byte text i byte lt ∙ ap order_of_byte (sym is)

pub order_beyond : (text : List ℕ) (i : ℕ) → length text ≤ i → get_or (orders_of_text text) i 0 ≡ 0
order_beyond text i past = get_or_past (orders_of_text text) i 0 (omega (arith, length-map text order_of_byte))

pub ruleset text_orders = (order_read, order_beyond)

text_step : (xs ys : List ℕ) (i : ℕ)
    → text_order (drop i xs) (drop i ys)
    ≡ ordering_then (nat_cmp (get_or xs i 0) (get_or ys i 0)) (text_order (drop (suc i) xs) (drop (suc i) ys))
unfolding text_order
text_step [] [] zero = refl
text_step [] [] (suc i) = refl
text_step [] (y ∷ ys) zero = refl
text_step [] (y ∷ ys) (suc i) =
    ap (λ (left : List ℕ). text_order left (drop i ys)) (sym (drop_all i [] (omega arith))) ∙ text_step [] ys i
text_step (x ∷ xs) [] zero = refl
text_step (x ∷ xs) [] (suc i) =
    ap (λ (left : List ℕ). text_order (drop i xs) left) (sym (drop_all i [] (omega arith))) ∙ text_step xs [] i
text_step (x ∷ xs) (y ∷ ys) zero = refl
text_step (x ∷ xs) (y ∷ ys) (suc i) = text_step xs ys i

-- a character more, from the left
pub text_more : (xs ys : List ℕ) (i : ℕ)
    → text_order (drop i xs) (drop i ys)
    ≡ ordering_then (nat_cmp (get_or xs i 0) (get_or ys i 0)) (text_order (drop (i + 1) xs) (drop (i + 1) ys))
text_more xs ys i =
    let next : suc i ≡ i + 1 = omega arith in
    text_step xs ys i
    ∙ ap (λ (n : ℕ). ordering_then (nat_cmp (get_or xs i 0) (get_or ys i 0)) (text_order (drop n xs) (drop n ys))) next

pub then_equal : (a : Ordering) → ordering_then a Equal ≡ a
then_equal Less = refl
then_equal Equal = refl
then_equal Greater = refl

pub no_text : text_order [] [] ≡ Equal
unfolding text_order
no_text = refl

-- none is left
pub text_done : (xs ys : List ℕ) (i : ℕ) (o : Ordering) → length xs ≤ i → length ys ≤ i
    → ordering_then o (text_order (drop i xs) (drop i ys)) ≡ o
text_done xs ys i o few_x few_y =
    ap (λ (left : List ℕ). ordering_then o (text_order left (drop i ys))) (drop_all i xs few_x)
    ∙ ap (λ (left : List ℕ). ordering_then o (text_order [] left)) (drop_all i ys few_y)
    ∙ ap (ordering_then o) no_text ∙ then_equal o

-- how many characters there are
pub orders_counted : (storage : Storage) (at len : ℕ) → at < length storage → len ≤ at + 1
    → length (orders_of (places_down storage at len)) ≡ len
orders_counted storage at len lt le =
    length-map (reverse (places_down storage at len)) (λ (cell : Cell). order_of cell.char)
    ∙ length-reverse (places_down storage at len) ∙ places_counted storage at len lt le

pub text_counted : (text : List ℕ) → length (orders_of_text text) ≡ length text
text_counted text = length-map text order_of_byte

pub then_assoc : (a b c : Ordering) → ordering_then (ordering_then a b) c ≡ ordering_then a (ordering_then b c)
then_assoc Less b c = refl
then_assoc Equal b c = refl
then_assoc Greater b c = refl

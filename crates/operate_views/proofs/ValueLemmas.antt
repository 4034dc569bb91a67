-- Values put into fields.
use Rattle.std.proofs.Common.{◌≡◌, ℕ, zero, suc, ◌+◌, ◌-◌, ◌*◌, ◌<◌, ◌≤◌, ◌==◌, ◌&&◌, Bool, true, false, List, [], ◌∷◌}
use Rattle.std.proofs.Common.{◌++◌, length, drop, take, get_or, reverse, refl, sym, ◌∙◌, ap, arith}
use Rattle.std.proofs.Common.{Option, None, Some}
use Rattle.std.specs.Prelude.{if◌then◌else◌}
use Rattle.std.specs.List.{list_all}
use Rattle.std.proofs.lemmas.Bool.{false≢true}
use Rattle.std.proofs.lemmas.Bool.Decides.{nat_tests}
use Rattle.std.proofs.lemmas.List.{drop_more, get_or-reverse, length-reverse, reverse-append, reverse-reverse}
use Rattle.std.proofs.lemmas.List.{take_more}
use Rattle.bcd_1401.specs.Character.{digit_of, digit_under, zone_of}
use Rattle.bcd_1401.specs.Digits.{is_digit, value_of}
use Rattle.bcd_1401.specs.declared.cell.Cell.{Cell}
use Rattle.core_1401.specs.Storage.{blank}
use Rattle.fields_1401.specs.Number.{magnitude_of, sign_of, sign_under}
use Rattle.fields_1401.specs.declared.sign.Sign.{Sign}
use Rattle.fields_1401.specs.declared.sign.Sign.TheVariants.{Plus, Minus}
use Rattle.operate_views.specs.Value.{filled, lettered, marks_of, sign_meant, with_code, with_number, zone_under}
use Rattle.operate_views.proofs.NumberLemmas.{value_of_push}

-- the parts of a digit's character
digit_of-digit_under : (zone digit : ℕ) → digit ≤ 9 → digit_of (digit_under zone digit) ≡ digit
digit_of-digit_under zone digit h = grind (arith, nat_tests)

zone_of-digit_under : (zone digit : ℕ) → digit ≤ 9 → zone_of (digit_under zone digit) ≡ zone
zone_of-digit_under zone digit h = grind (arith, nat_tests)

-- a list from its end
reverse_cons : {X : Type 0} (x : X) (xs : List X) → reverse (x ∷ xs) ≡ reverse xs ++ x ∷ []
reverse_cons x xs = reverse-append (x ∷ []) xs

-- each of some digits is one
digit_in : (digits : List ℕ) (i : ℕ) → list_all is_digit digits ≡ true → i < length digits
    → (48 ≤ get_or digits i 48) × (get_or digits i 48 ≤ 57)
digit_in [] i all lt = absurd (omega arith)
digit_in (d ∷ ds) zero all lt = grind (arith, nat_tests)
digit_in (d ∷ ds) (suc i) all lt = digit_in ds i (rest (is_digit d) (list_all is_digit ds) all) (omega arith)
  where
    rest : (a b : Bool) → (a && b) ≡ true → b ≡ true
    rest true b e = e
    rest false b e = absurd (false≢true e)

-- the digit at a place counted from the units
pub digit_read : (digits : List ℕ) (place : ℕ) → list_all is_digit digits ≡ true → place < length digits
    → (get_or (reverse digits) place 48 ≡ get_or digits (length digits - 1 - place) 48)
    × (48 ≤ get_or digits (length digits - 1 - place) 48) × (get_or digits (length digits - 1 - place) 48 ≤ 57)
digit_read digits place all lt =
    let inside = digit_in digits (length digits - 1 - place) all (omega arith) in
    (get_or-reverse digits place 48 lt, inside.0, inside.1)

-- there is a zone over the units alone
no_zone : (i : ℕ) → ◌≡◌ {A = ℕ} (if i == 0 then 0 else 0) 0
no_zone i = from (i == 0)
  where
    from : (b : Bool) → ◌≡◌ {A = ℕ} (if b then 0 else 0) 0
    from true = refl
    from false = refl

above : (zone i : ℕ) → ◌≡◌ {A = ℕ} (if suc i == 0 then zone else 0) 0
above zone i =
    let other : (suc i == 0) ≡ false = search arith in
    ap (λ (b : Bool). if b then zone else 0) other

-- the cell at a place
filled_at : (zone : ℕ) (digits : List ℕ) (cells : List Cell) (i : ℕ) → i < length cells
    → get_or (filled zone digits cells) i blank
    ≡ with_code (digit_under (if i == 0 then zone else 0) (get_or digits i 48 - 48)) (get_or cells i blank)
filled_at zone digits [] i lt = absurd (omega arith)
filled_at zone [] (cell ∷ cells) zero lt = refl
filled_at zone (d ∷ ds) (cell ∷ cells) zero lt = refl
filled_at zone [] (cell ∷ cells) (suc i) lt =
    filled_at 0 [] cells i (omega arith)
    ∙ ap (λ z. with_code (digit_under z 0) (get_or cells i blank)) (no_zone i ∙ sym (above zone i))
filled_at zone (d ∷ ds) (cell ∷ cells) (suc i) lt =
    filled_at 0 ds cells i (omega arith)
    ∙ ap (λ z. with_code (digit_under z (get_or ds i 48 - 48)) (get_or cells i blank)) (no_zone i ∙ sym (above zone i))

pub length-filled : (zone : ℕ) (digits : List ℕ) (cells : List Cell) → length (filled zone digits cells) ≡ length cells
length-filled zone digits [] = refl
length-filled zone [] (cell ∷ cells) = ap suc (length-filled 0 [] cells)
length-filled zone (d ∷ ds) (cell ∷ cells) = ap suc (length-filled 0 ds cells)

-- one cell more, from the high place down
pub numbered_more : (zone : ℕ) (digits : List ℕ) (cells : List Cell) (left : ℕ) → left < length cells
    → reverse (drop left (filled zone digits cells))
    ≡ reverse (drop (left + 1) (filled zone digits cells))
    ++ with_code (digit_under (if left == 0 then zone else 0) (get_or digits left 48 - 48)) (get_or cells left blank)
    ∷ []
numbered_more zone digits cells left lt =
    let all = filled zone digits cells in
    ap reverse (drop_more all left blank (omega (arith, length-filled zone digits cells)))
    ∙ reverse_cons (get_or all left blank) (drop (left + 1) all)
    ∙ ap (λ (cell : Cell). reverse (drop (left + 1) all) ++ cell ∷ []) (filled_at zone digits cells left lt)

-- the number that digits write, units first
value_up : List ℕ → ℕ
value_up [] = 0
value_up (d ∷ ds) = (d - 48) + 10 * value_up ds

value_reversed : (digits : List ℕ) → value_of (reverse digits) ≡ value_up digits
unfolding value_up
value_reversed [] = refl
value_reversed (d ∷ ds) =
    ap value_of (reverse_cons d ds) ∙ value_of_push (reverse ds) d ∙ omega (arith, value_reversed ds)

small : (d : ℕ) → is_digit d ≡ true → d - 48 ≤ 9
small d e = grind (arith, nat_tests)

both : (a b : Bool) → (a && b) ≡ true → (a ≡ true) × (b ≡ true)
both true b e = (refl, e)
both false b e = absurd (false≢true e)

filled_zeros : (zone : ℕ) (cells : List Cell) → magnitude_of (filled zone [] cells) ≡ 0
filled_zeros zone [] = refl
filled_zeros zone (cell ∷ cells) = omega (arith, digit_of-digit_under zone 0 (omega arith), filled_zeros 0 cells)

filled_magnitude : (zone : ℕ) (digits : List ℕ) (cells : List Cell) → list_all is_digit digits ≡ true
    → length digits ≤ length cells → magnitude_of (filled zone digits cells) ≡ value_up digits
unfolding value_up
filled_magnitude zone [] [] all fits = refl
filled_magnitude zone (d ∷ ds) [] all fits = absurd (omega arith)
filled_magnitude zone [] (cell ∷ cells) all fits = filled_zeros zone (cell ∷ cells)
filled_magnitude zone (d ∷ ds) (cell ∷ cells) all fits =
    let each = both (is_digit d) (list_all is_digit ds) all in
    omega (
      arith,
      digit_of-digit_under zone (d - 48) (small d each.0),
      filled_magnitude 0 ds cells each.1 (omega (arith, fits)),
    )

-- the test of all of a list, from its end
all_append : (xs ys : List ℕ) → list_all is_digit (xs ++ ys) ≡ (list_all is_digit xs && list_all is_digit ys)
all_append [] ys = refl
all_append (x ∷ xs) ys = ap (λ b. is_digit x && b) (all_append xs ys) ∙ nested (is_digit x) (list_all is_digit xs)
    (list_all is_digit ys)
  where
    nested : (a b c : Bool) → (a && (b && c)) ≡ ((a && b) && c)
    nested true b c = refl
    nested false b c = refl

all_reversed : (digits : List ℕ) → list_all is_digit digits ≡ true → list_all is_digit (reverse digits) ≡ true
all_reversed [] all = refl
all_reversed (d ∷ ds) all =
    let each = both (is_digit d) (list_all is_digit ds) all in
    ap (list_all is_digit) (reverse_cons d ds) ∙ all_append (reverse ds) (d ∷ [])
    ∙ ap (λ b. b && list_all is_digit (d ∷ [])) (all_reversed ds each.1)
    ∙ ap (λ b. b && true) each.0

meant : (sign : Option Sign) → sign_under (zone_under sign) ≡ sign_meant sign
meant None = refl
meant (Some Plus) = refl
meant (Some Minus) = refl

filled_sign : (sign : Option Sign) (digits : List ℕ) (cells : List Cell) → list_all is_digit digits ≡ true
    → 0 < length cells → sign_of (filled (zone_under sign) digits cells) ≡ sign_meant sign
filled_sign sign digits [] all some = absurd (omega arith)
filled_sign sign [] (cell ∷ cells) all some =
    ap sign_under (zone_of-digit_under (zone_under sign) 0 (omega arith)) ∙ meant sign
filled_sign sign (d ∷ ds) (cell ∷ cells) all some =
    let each = both (is_digit d) (list_all is_digit ds) all in
    ap sign_under (zone_of-digit_under (zone_under sign) (d - 48) (small d each.0)) ∙ meant sign

filled_marks : (zone : ℕ) (digits : List ℕ) (cells : List Cell) → marks_of (filled zone digits cells) ≡ marks_of cells
filled_marks zone digits [] = refl
filled_marks zone [] (cell ∷ cells) = ap (λ (marks : List Bool). cell.mark ∷ marks) (filled_marks 0 [] cells)
filled_marks zone (d ∷ ds) (cell ∷ cells) = ap (λ (marks : List Bool). cell.mark ∷ marks) (filled_marks 0 ds cells)

twice : (digits : List ℕ) → value_up (reverse digits) ≡ value_of digits
twice digits = sym (value_reversed (reverse digits)) ∙ ap value_of (reverse-reverse digits)

-- the number that a field then has
pub put_magnitude : (sign : Option Sign) (digits : List ℕ) (cells : List Cell) → list_all is_digit digits ≡ true
    → length digits ≤ length cells → magnitude_of (with_number sign digits cells) ≡ value_of digits
put_magnitude sign digits cells all fits =
    filled_magnitude (zone_under sign) (reverse digits) cells (all_reversed digits all)
    (omega (arith, length-reverse digits)) ∙ twice digits

pub put_sign : (sign : Option Sign) (digits : List ℕ) (cells : List Cell) → list_all is_digit digits ≡ true
    → 0 < length cells → sign_of (with_number sign digits cells) ≡ sign_meant sign
put_sign sign digits cells all some = filled_sign sign (reverse digits) cells (all_reversed digits all) some

pub put_marks : (sign : Option Sign) (digits : List ℕ) (cells : List Cell)
    → marks_of (with_number sign digits cells) ≡ marks_of cells
put_marks sign digits cells = filled_marks (zone_under sign) (reverse digits) cells

pub ruleset number_put = (put_magnitude, put_sign, put_marks)

-- a text put into cells
lettered_at : (chars : List ℕ) (cells : List Cell) (i : ℕ) → i < length cells
    → get_or (lettered chars cells) i blank ≡ with_code (get_or chars i 0) (get_or cells i blank)
lettered_at chars [] i lt = absurd (omega arith)
lettered_at [] (cell ∷ cells) zero lt = refl
lettered_at (char ∷ chars) (cell ∷ cells) zero lt = refl
lettered_at [] (cell ∷ cells) (suc i) lt = lettered_at [] cells i (omega arith)
lettered_at (char ∷ chars) (cell ∷ cells) (suc i) lt = lettered_at chars cells i (omega arith)

pub length-lettered : (chars : List ℕ) (cells : List Cell) → length (lettered chars cells) ≡ length cells
length-lettered chars [] = refl
length-lettered [] (cell ∷ cells) = ap suc (length-lettered [] cells)
length-lettered (char ∷ chars) (cell ∷ cells) = ap suc (length-lettered chars cells)

pub lettered_marks : (chars : List ℕ) (cells : List Cell) → marks_of (lettered chars cells) ≡ marks_of cells
lettered_marks chars [] = refl
lettered_marks [] (cell ∷ cells) = ap (λ (marks : List Bool). cell.mark ∷ marks) (lettered_marks [] cells)
lettered_marks (char ∷ chars) (cell ∷ cells) =
    ap (λ (marks : List Bool). cell.mark ∷ marks) (lettered_marks chars cells)

-- one cell more, from the high place down
pub lettered_more : (chars : List ℕ) (cells : List Cell) (i : ℕ) → i < length cells
    → take (i + 1) (lettered chars (reverse cells))
    ≡ take i (lettered chars (reverse cells))
    ++ with_code (get_or chars i 0) (get_or cells (length cells - 1 - i) blank) ∷ []
lettered_more chars cells i lt =
    let all = lettered chars (reverse cells) in
    let within : i < length (reverse cells) = omega (arith, length-reverse cells) in
    take_more all i blank (omega (arith, length-lettered chars (reverse cells)))
    ∙ ap (λ (cell : Cell). take i all ++ cell ∷ []) (lettered_at chars (reverse cells) i within)
    ∙ ap (λ (cell : Cell). take i all ++ with_code (get_or chars i 0) cell ∷ []) (get_or-reverse cells i blank lt)

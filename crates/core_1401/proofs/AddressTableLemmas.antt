-- The entries of the tables of addresses, and the one spelling of an address.
use Rattle.std.proofs.Common.{◌≡◌, ℕ, ◌+◌, ◌*◌, ◌/◌, ◌%◌, ◌<◌, ◌≤◌, ◌==◌, ◌&&◌, true, [], ◌∷◌, slice_index_or, ap, sym}
use Rattle.std.proofs.Common.{◌∙◌, arith}
use Rattle.std.proofs.lemmas.List.FromFn.{get_or-map-range_with_len}
use Rattle.std.proofs.lemmas.Bool.{and_parts}
use Rattle.std.proofs.lemmas.Bool.Decides.{nat_tests}
use Rattle.bcd_1401.specs.Character.{digit_of, digit_under, zone_of}
use Rattle.core_1401.specs.Address.{value_of, spelling_of, is_digit, is_spelled}
use Rattle.core_1401.specs.AddressTables.{hundreds_part, tens_part, units_part, hundreds_table, tens_table, units_table}

pub hundreds_entry : (char : ℕ) → char < 64 → slice_index_or hundreds_table char 0 ≡ hundreds_part char
unfolding hundreds_table
hundreds_entry char lt = get_or-map-range_with_len hundreds_part 0 64 char char 0 lt (omega arith)

pub tens_entry : (char : ℕ) → char < 64 → slice_index_or tens_table char 0 ≡ tens_part char
unfolding tens_table
tens_entry char lt = get_or-map-range_with_len tens_part 0 64 char char 0 lt (omega arith)

pub units_entry : (char : ℕ) → char < 64 → slice_index_or units_table char 0 ≡ units_part char
unfolding units_table
units_entry char lt = get_or-map-range_with_len units_part 0 64 char char 0 lt (omega arith)

-- a digit 0 to 9, with 8-2 for zero, is the character of its digit under its zone
char_again : (char : ℕ) → char < 64 → is_digit char ≡ true → digit_under (zone_of char) (digit_of char) ≡ char
char_again char fits e = grind (arith, nat_tests)

no_zone : (char : ℕ) → (zone_of char == 0) ≡ true → zone_of char ≡ 0
no_zone char e = grind (arith, nat_tests)

digit_at_most : (char : ℕ) → digit_of char ≤ 9
digit_at_most char = grind (arith, nat_tests)

-- the digits and zones of a value
record AreParts (value x y z v w : ℕ) : Type 0 where
  first_zone : value / 1000 % 4 ≡ v
  first : value / 100 % 10 ≡ x
  second : value / 10 % 10 ≡ y
  third_zone : value / 4000 ≡ w
  third : value % 10 ≡ z

parts_of : (value x y z v w : ℕ) → value ≡ 100 * x + 10 * y + z + 1000 * v + 4000 * w → x ≤ 9 → y ≤ 9 → z ≤ 9 → v < 4
    → AreParts value x y z v w
parts_of value x y z v w e hx hy hz hv = record {
  first_zone = omega arith;
  first = omega arith;
  second = omega arith;
  third_zone = omega arith;
  third = omega arith;
}

same_three : (a b c x y z : ℕ) → a ≡ x → b ≡ y → c ≡ z → x ∷ y ∷ z ∷ [] ≡ a ∷ b ∷ c ∷ []
same_three a b c x y z e f g = cc

-- three characters that spell an address are its spelling
pub spelled_again : (h t u value : ℕ) → h < 64 → t < 64 → u < 64 → value ≡ value_of h t u → is_spelled h t u ≡ true
    → h ∷ t ∷ u ∷ [] ≡ spelling_of value
spelled_again h t u value h_fits t_fits u_fits e spelled =
    let all = and_parts (is_digit h && is_digit t && is_digit u) (zone_of t == 0) spelled in
    let digits = and_parts (is_digit h && is_digit t) (is_digit u) all.0 in
    let front = and_parts (is_digit h) (is_digit t) digits.0 in
    let zone : zone_of t ≡ 0 = no_zone t all.1 in
    let parts : AreParts value (digit_of h) (digit_of t) (digit_of u) (zone_of h) (zone_of u) =
    parts_of value (digit_of h) (digit_of t) (digit_of u) (zone_of h) (zone_of u) e (digit_at_most h) (digit_at_most t)
    (digit_at_most u) (omega (arith, h_fits)) in
    same_three (digit_under (value / 1000 % 4) (value / 100 % 10)) (digit_under 0 (value / 10 % 10))
    (digit_under (value / 4000) (value % 10)) h t u
    (ap (λ (z : ℕ). digit_under z (value / 100 % 10)) parts.first_zone
    ∙ ap (λ (d : ℕ). digit_under (zone_of h) d) parts.first ∙ char_again h h_fits front.0)
    (ap (λ (d : ℕ). digit_under 0 d) parts.second ∙ ap (λ (z : ℕ). digit_under z (digit_of t)) (sym zone)
    ∙ char_again t t_fits front.1)
    (ap (λ (z : ℕ). digit_under z (value % 10)) parts.third_zone ∙ ap (λ (d : ℕ). digit_under (zone_of u) d) parts.third
    ∙ char_again u u_fits digits.1)

-- Each of the 64 characters has a column of its own.
use Rattle.std.proofs.Common.{◌≡◌, ℕ, ◌<◌, ◌==◌, Bool, true, List, Some, get_or, length, refl, arith, sym, ap, ◌∙◌}
use Rattle.std.proofs.Common.{subst, position}
use Rattle.std.specs.List.{position_or_len, range_with_len, list_all}
use Rattle.std.specs.Prelude.{nat_lt}
use Rattle.std.proofs.lemmas.Bool.{eqb-true, lt-ltb, ltb-true}
use Rattle.std.proofs.lemmas.List.Elements.{All-get_or}
use Rattle.std.proofs.lemmas.List.FromFn.{get_or-range_with_len, length-range_with_len, get_or-map-range_with_len}
use Rattle.std.proofs.lemmas.List.FromFn.{length-map-range_with_len}
use Rattle.std.proofs.lemmas.List.Sums.{AllPass-from_list_all}
use Rattle.std.proofs.lemmas.List.Quantifiers.{position-Some}
use Rattle.bcd_1401.specs.CardCode.{column_of, columns}

-- whether a character's column is found at its code
abbrev is_own : ℕ → Bool
is_own char = position_or_len (λ each. each == column_of char) columns == char

all_own : list_all is_own (range_with_len 0 64) ≡ true
unfolding columns
all_own = refl

-- whether a column has twelve bits
abbrev is_small : ℕ → Bool
is_small char = nat_lt (column_of char) 4096

all_small : list_all is_small (range_with_len 0 64) ≡ true
all_small = refl

-- what is tested of all characters holds of each
pub of_each : (test : ℕ → Bool) → list_all test (range_with_len 0 64) ≡ true → (char : ℕ) → char < 64 → test char ≡ true
of_each test all char h =
    let at =
    All-get_or (λ (k : ℕ). test k ≡ true) (range_with_len 0 64) char 0
    (omega (arith, length-range_with_len 0 64)) (AllPass-from_list_all test (range_with_len 0 64) all) in
    let same : get_or (range_with_len 0 64) char 0 ≡ char = get_or-range_with_len 0 64 char 0 h ∙ omega arith in
    subst (λ (k : ℕ). test k ≡ true) same at

pub column_of-small : (char : ℕ) → char < 64 → column_of char < 4096
column_of-small char h = ltb-true (column_of char) 4096 (of_each is_small all_small char h)

-- there are as many columns as characters, each at its code
pub length-columns : length columns ≡ 64
unfolding columns
length-columns = length-map-range_with_len column_of 0 64

pub column_at : (char d : ℕ) → char < 64 → get_or columns char d ≡ column_of char
unfolding columns
column_at char d h = get_or-map-range_with_len column_of 0 64 char char d h (omega arith)

-- a column is found at its character
pub own_column : (char column : ℕ) → char < 64 → column_of char ≡ column → position (λ each. each == column) columns
    ≡ Some char
own_column char column h e =
    let first : position_or_len (λ each. each == column_of char) columns
    ≡ char =
    eqb-true (position_or_len (λ each. each == column_of char) columns) char (of_each is_own all_own char h) in
    let at_column : position_or_len (λ each. each == column) columns
    ≡ char = ap (λ k. position_or_len (λ each. each == k) columns) (sym e) ∙ first in
    rw (at_column, length-columns, lt-ltb char 64 h) refl

-- what is found is a character with this column
pub of_a_column : (char column : ℕ) → position (λ each. each == column) columns ≡ Some char → (char < 64)
    × (column_of char ≡ column)
of_a_column char column e =
    let found = position-Some (λ each. each == column) columns char 0 e in
    let size = length-columns in
    let inside : char < 64 = omega (arith, found.0) in
    (inside, sym (column_at char 0 inside) ∙ eqb-true (get_or columns char 0) column found.1)

-- no two characters have one column
pub one_character : (char other column : ℕ) → char < 64 → other < 64 → column_of char ≡ column → column_of other
    ≡ column → other ≡ char
one_character char other column h h_other e e_other =
    let both : Some other ≡ Some char = sym (own_column other column h_other e_other) ∙ own_column char column h e in
    cc

-- a character's column is read at its code
pub column_read : (table : List ℕ) (place char : ℕ) → table ≡ columns → place ≡ char → char < 64 → get_or table place 0
    ≡ column_of char
column_read table place char e_table e_place h =
    ap (λ each. get_or each place 0) e_table ∙ ap (λ k. get_or columns k 0) e_place ∙ column_at char 0 h

-- Each of the 64 characters has a place of its own in the collating order.
use Rattle.std.proofs.Common.{◌≡◌, ℕ, ◌<◌, ◌==◌, Bool, true, List, get_or, refl, arith, ap, sym, ◌∙◌}
use Rattle.std.specs.List.{position_or_len, range_with_len, list_all}
use Rattle.std.specs.Prelude.{nat_lt, slice_index_or}
use Rattle.std.proofs.lemmas.Bool.{eqb-true, ltb-true}
use Rattle.std.proofs.lemmas.List.FromFn.{get_or-map-range_with_len}
use Rattle.bcd_1401.specs.Collation.{collation, order_of, orders}
use Rattle.bcd_1401.specs.Graphic.{graphics}
use Rattle.bcd_1401.proofs.CardCodeLemmas.{of_each}

-- the character at a place of the order
abbrev char_at : ℕ → ℕ
char_at place = position_or_len (λ each. each == slice_index_or collation place 0) graphics

-- whether a character is at its own place
abbrev is_at_its_place : ℕ → Bool
is_at_its_place char = char_at (order_of char) == char

all_at_their_places : list_all is_at_its_place (range_with_len 0 64) ≡ true
unfolding collation graphics
all_at_their_places = refl

-- whether a character has a place
abbrev has_place : ℕ → Bool
has_place char = nat_lt (order_of char) 64

all_have_places : list_all has_place (range_with_len 0 64) ≡ true
unfolding collation graphics
all_have_places = refl

pub order_of-small : (char : ℕ) → char < 64 → order_of char < 64
order_of-small char h = ltb-true (order_of char) 64 (of_each has_place all_have_places char h)

char_at_its_place : (char : ℕ) → char < 64 → char_at (order_of char) ≡ char
char_at_its_place char h =
    eqb-true (char_at (order_of char)) char (of_each is_at_its_place all_at_their_places char h)

-- no two characters have one place
pub one_at_a_place : (char other : ℕ) → char < 64 → other < 64 → order_of other ≡ order_of char → other ≡ char
one_at_a_place char other h h_other e =
    sym (char_at_its_place other h_other) ∙ ap char_at e ∙ char_at_its_place char h

-- a character's place is read at its code
pub order_read : (table : List ℕ) (at char : ℕ) → table ≡ orders → at ≡ char → char < 64 → get_or table at 0
    ≡ order_of char
unfolding orders
order_read table at char e_table e_at h =
    ap (λ each. get_or each at 0) e_table ∙ ap (λ k. get_or orders k 0) e_at
    ∙ get_or-map-range_with_len order_of 0 64 char char 0 h (omega arith)

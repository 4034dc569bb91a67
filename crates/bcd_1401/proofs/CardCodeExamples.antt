-- Columns worked out from the rows of the card code.
use Rattle.std.proofs.Common.{◌≡◌, [], ◌∷◌, refl}
use Rattle.bcd_1401.specs.CardCode.{rows_of, column_of}

-- A, 1 with both zones, is rows 12 and 1
an_a : rows_of 49 ≡ 12 ∷ 1 ∷ []
an_a = refl

its_column : column_of 49 ≡ 2304
its_column = refl

-- 0 is row 0 alone, ! rows 11 and 0, ? rows 12 and 0, ' rows 0, 2 and 8
a_zero : column_of 10 ≡ 512
a_zero = refl

a_minus_zero : rows_of 42 ≡ 11 ∷ 0 ∷ []
a_minus_zero = refl

a_plus_zero : rows_of 58 ≡ 12 ∷ 0 ∷ []
a_plus_zero = refl

a_record_mark : column_of 26 ≡ 642
a_record_mark = refl

-- ^, A alone, is rows 2 and 8
a_alone_has_no_zone_row : column_of 16 ≡ 130
a_alone_has_no_zone_row = refl

-- . is BA and 8-3, rows 12, 8 and 3
a_point : rows_of 59 ≡ 12 ∷ 8 ∷ 3 ∷ []
a_point = refl

-- a blank has no row
a_blank : column_of 0 ≡ 0
a_blank = refl

-- Lines and columns, computed. The bytes are 10 for a line feed, 13 for a carriage return, 65 to 67 for A to C.
use Rattle.std.proofs.Common.{◌≡◌, ℕ, true, false, List, [], ◌∷◌, ◌++◌, map, replicate, refl}
use Rattle.std.specs.Prelude.{codes}
use Rattle.bcd_1401.specs.Graphic.{graphics}
use Rattle.autocoder_statements.specs.SourceLine.{lines_of, columns_of, columns_in, is_comment, has_foreign_bytes}

a_source_without_a_byte_has_no_line : lines_of [] ≡ []
a_source_without_a_byte_has_no_line = refl

a_line_feed_alone_is_an_empty_line : lines_of (10 ∷ []) ≡ [] ∷ []
a_line_feed_alone_is_an_empty_line = refl

one_return_goes_before_a_line_feed_alone : lines_of (65 ∷ 13 ∷ 10 ∷ 66 ∷ 13 ∷ 13 ∷ 10 ∷ 67 ∷ 13 ∷ []) ≡ (65 ∷ [])
    ∷ (66 ∷ 13 ∷ []) ∷ (67 ∷ 13 ∷ []) ∷ []
one_return_goes_before_a_line_feed_alone = refl

-- the columns of a text
columns : List ℕ → List ℕ
unfolding columns_of
columns text = columns_of text

the_line_goes_on_in_blanks : columns_in 70 80 (columns (replicate 70 65)) ≡ 65 ∷ replicate 10 32
unfolding columns
the_line_goes_on_in_blanks = refl

columns_count_from_one : columns_in 6 8 (columns (codes "12345678")) ≡ codes "678"
unfolding columns
columns_count_from_one = refl

-- each of these lines is a comment, or none
an_asterisk_in_column_six_makes_a_comment : map (λ text. is_comment (columns text)) (codes "     * B" ∷ []
    ∷ replicate 80 32 ∷ codes "*     B" ∷ codes "1" ∷ []) ≡ true ∷ true ∷ true ∷ false ∷ false ∷ []
unfolding columns
an_asterisk_in_column_six_makes_a_comment = refl

-- lower case in a comment and in columns 1 to 5 and 73 to 80 is good, and elsewhere foreign
foreign : List ℕ → Rattle.std.specs.Prelude.Bool
unfolding columns graphics
foreign text = has_foreign_bytes (columns text)

small_letters_stand_outside_of_columns_6_to_72_alone : map foreign (codes "     *  a~" ∷ codes "abcde     B"
    ∷ (replicate 72 32 ++ codes "abcdefg~") ∷ codes "               a" ∷ (replicate 71 32 ++ codes "~")
    ∷ (codes "     * " ++ 127 ∷ []) ∷ (9 ∷ []) ∷ []) ≡ false ∷ false ∷ false ∷ true ∷ true ∷ true ∷ true ∷ []
unfolding foreign
small_letters_stand_outside_of_columns_6_to_72_alone = refl

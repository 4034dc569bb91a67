-- Worked values: what is written for a comment, a statement and the line of a literal.
use Rattle.std.proofs.Common.{◌≡◌, ℕ, List, [], ◌∷◌, ◌++◌, pos, refl}
use Rattle.std.specs.Fmt.{digits}
use Rattle.std.specs.Prelude.{codes}
use Rattle.autocoder_listing.specs.Heads.{written}
use Rattle.autocoder_listing.specs.Listing.{number_text, address_text, without_last_blanks}
use Rattle.autocoder_listing.specs.declared.heads.Head.{Head}

-- a literal of one place at 00404 before END in line 3
literal_line : List ℕ
literal_line = codes "     00404 A        +1\n"

two_heads : List Head
two_heads =
    record { row = record { number = 2; address = pos 400; characters = codes "B404    " }; literals = 0 }
    ∷ record { row = record { number = 3; address = pos 400; characters = codes "        " }; literals = 23 } ∷ []

three_lines : List (List ℕ)
three_lines = codes "     * LOOP" ∷ codes "               B    +1" ∷ codes "               END  400" ∷ []

all_lines : List ℕ
all_lines =
    codes "0001                     * LOOP\n" ++ codes "0002 00400 B404                    B    +1\n"
    ++ literal_line ++ codes "0003 00400                         END  400\n"

a_head_is_written_with_its_line : written 1 two_heads literal_line three_lines ≡ all_lines
unfolding digits number_text address_text without_last_blanks two_heads three_lines literal_line all_lines
a_head_is_written_with_its_line = refl

-- an empty line has its number alone
an_empty_line_has_its_number : written 7 [] [] ([] ∷ []) ≡ codes "0007\n"
unfolding digits number_text address_text without_last_blanks
an_empty_line_has_its_number = refl

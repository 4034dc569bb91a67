-- Worked values: the line of a row.
use Rattle.std.proofs.Common.{◌≡◌, ℕ, List, [], ◌∷◌, pos, None, Some, refl}
use Rattle.std.specs.Prelude.{codes}
use Rattle.autocoder_listing.specs.Rows.{last_at}
use Rattle.autocoder_listing.specs.declared.rows.Row.{Row}

halt : List ℕ
halt = codes ".400    "

-- a halt at 400 in lines 2 and 4, and another instruction there in line 5
three_rows : List Row
three_rows =
    record { number = 2; address = pos 400; characters = codes ".400    " }
    ∷ record { number = 4; address = pos 400; characters = codes ".400    " }
    ∷ record { number = 5; address = pos 400; characters = codes "B400    " } ∷ []

the_last_line_counts : last_at 400 halt None three_rows ≡ Some 4
unfolding halt three_rows
the_last_line_counts = refl

another_place_has_none : last_at 401 halt None three_rows ≡ None
unfolding halt three_rows
another_place_has_none = refl

other_characters_have_none : last_at 400 (codes ".401    ") None three_rows ≡ None
unfolding three_rows
other_characters_have_none = refl

-- Which pictures queries ask for, computed.
use Rattle.std.proofs.Common.{◌≡◌, ℕ, List, refl}
use Rattle.std.specs.Prelude.{codes, Option, None, Some}
use Rattle.machine_notation.specs.Digits.{number_in}
use Rattle.serving_http.specs.Numbers.{number_of}
use Rattle.serving_page.specs.declared.asked.Asked.{Asked}
use Rattle.serving_page.specs.Asked.{asked_by, number_beyond}

-- the picture that a query asks for, with all that it consists of open
asked : List ℕ → Option Asked
unfolding asked_by number_beyond number_of number_in
asked query = asked_by query

abbrev at : ℕ → ℕ → Option ℕ → Option Asked
at core paper after = Some (record { window = record { core = core; paper = paper }; after = after })

a_window_alone : asked_by (codes "core=0400&paper=35") ≡ at 400 35 None
unfolding asked
a_window_alone = refl

a_window_and_a_count : asked_by (codes "core=0400&paper=35&after=187") ≡ at 400 35 (Some 187)
unfolding asked
a_window_and_a_count = refl

the_last_of_each : asked_by (codes "core=15999&paper=500&after=999999999") ≡ at 15999 500 (Some 999999999)
unfolding asked
the_last_of_each = refl

a_count_that_is_none : asked_by (codes "core=0&paper=0&after=x") ≡ None
unfolding asked
a_count_that_is_none = refl

no_such_address : asked_by (codes "core=16000&paper=0") ≡ None
unfolding asked
no_such_address = refl

no_such_line : asked_by (codes "core=400&paper=501") ≡ None
unfolding asked
no_such_line = refl

no_number : asked_by (codes "core=&paper=0") ≡ None
unfolding asked
no_number = refl

too_many_digits : asked_by (codes "core=0000000400&paper=0") ≡ None
unfolding asked
too_many_digits = refl

no_paper : asked_by (codes "core=400") ≡ None
unfolding asked
no_paper = refl

the_paper_first : asked_by (codes "paper=0&core=400") ≡ None
unfolding asked
the_paper_first = refl

a_field_more : asked_by (codes "core=400&paper=0&after=1&after=1") ≡ None
unfolding asked
a_field_more = refl

an_ampersand_more : asked_by (codes "core=400&paper=0&") ≡ None
unfolding asked
an_ampersand_more = refl

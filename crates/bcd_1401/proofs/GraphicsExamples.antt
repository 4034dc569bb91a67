-- The graphics of the chains, computed.
use Rattle.std.proofs.Common.{◌≡◌, [], ◌∷◌, ◌++◌, map, Some, None, refl}
use Rattle.std.specs.Prelude.{codes}
use Rattle.bcd_1401.specs.Graphic.{graphics}
use Rattle.bcd_1401.specs.Graphics.{graphics_on, ours_of, theirs_of}
use Rattle.bcd_1401.specs.Suggestion.{suggestion_of}
use Rattle.bcd_1401.specs.declared.graphics.Graphics.TheVariants as chains
use Rattle.bcd_1401.specs.declared.suggestion.Suggestion.TheVariants as suggestions

-- sixteen for each zone
this_machine's : graphics_on chains.Ours
    ≡ codes " 1234567890#@:>(" ++ codes "^/STUVWXYZ',%=\\+" ++ codes "-JKLMNOPQR!$*];_" ++ codes "&ABCDEFGHI?.)[<\""
unfolding graphics graphics_on
this_machine's = refl

simh's : graphics_on chains.Simh
    ≡ codes " 1234567890#@:>{" ++ codes "^/STUVWXYZ|,%~\\\"" ++ codes "-JKLMNOPQR!$*];_" ++ codes "&ABCDEFGHI?.)[<}"
unfolding graphics graphics_on
simh's = refl

for_formulas : graphics_on chains.Fortran
    ≡ codes " 1234567890=':>{" ++ codes "^/STUVWXYZ|,(~\\\"" ++ codes "-JKLMNOPQR!$*];_" ++ codes "+ABCDEFGHI?.)[<}"
unfolding graphics graphics_on
for_formulas = refl

a_card_from_simh : map (ours_of chains.Simh) (codes "A|B}C~D\"") ≡ codes "A'B\"C=D+"
a_card_from_simh = refl

a_card_for_formulas : map (ours_of chains.Fortran) (codes "'SUM='+(U1") ≡ codes "@SUM#@&%U1"
a_card_for_formulas = refl

a_card_to_simh : map (theirs_of chains.Simh) (codes "A'B\"C=D+") ≡ codes "A|B}C~D\""
a_card_to_simh = refl

-- what a chain hasn't becomes no graphic
no_graphics : map (ours_of chains.Simh) (codes "('=+") ++ map (ours_of chains.Fortran) (codes "#@%&")
    ≡ codes "{|~}" ++ codes "~|{}"
no_graphics = refl

-- small letters, line feeds and digits stay
others_stay : map (ours_of chains.Fortran) (codes "a1 \n") ≡ codes "a1 \n"
others_stay = refl

suggestions_without_an_option : map (suggestion_of None) (codes "O'HARA&" ∷ codes "0012+" ∷ codes "A}B"
    ∷ codes "A}+" ∷ [])
    ≡ None ∷ Some suggestions.Doubtful ∷ Some suggestions.Simh ∷ Some suggestions.Doubtful ∷ []
suggestions_without_an_option = refl

suggestions_for_ours : map (suggestion_of (Some chains.Ours)) (codes "0012+" ∷ codes "A}B" ∷ [])
    ≡ None ∷ Some suggestions.Simh ∷ []
suggestions_for_ours = refl

suggestions_for_others : suggestion_of (Some chains.Simh) (codes "0012+") ∷ suggestion_of (Some chains.Simh) (codes "A}B")
    ∷ suggestion_of (Some chains.Fortran) (codes "A@B") ∷ suggestion_of (Some chains.Fortran) (codes "A'B") ∷ []
    ≡ Some suggestions.Fortran ∷ None ∷ Some suggestions.Simh ∷ None ∷ []
suggestions_for_others = refl

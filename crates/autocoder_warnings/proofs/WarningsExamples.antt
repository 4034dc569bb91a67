-- Sources without a fault, and their warnings, worked out by hand.
use Rattle.std.proofs.Common.{◌≡◌, ℕ, List, [], ◌∷◌, ◌++◌, map, Option, None, Some, refl}
use Rattle.std.specs.Prelude.{codes}
use Rattle.bcd_1401.specs.Graphic.{graphics}
use Rattle.machine_tables.specs.Features.{no_features, with_feature}
use Rattle.machine_tables.specs.declared.features.Feature.TheVariants.{BitTest, Lengths, Multiply}
use Rattle.machine_tables.specs.declared.features.Features.{Features}
use Rattle.autocoder_statements.specs.Heading.{system_cards}
use Rattle.autocoder_statements.specs.Language.{wider_line}
use Rattle.autocoder_statements.specs.Mnemonic.{instructions, assembler_operations}
use Rattle.autocoder_statements.specs.SourceLine.{columns_of}
use Rattle.autocoder_statements.specs.WideMnemonic.{wide_instructions}
use Rattle.autocoder_statements.specs.WideOperation.{wide_operations}
use Rattle.autocoder_statements.specs.WideStatement.{wide_line_with}
use Rattle.autocoder_statements.specs.declared.language.Language.TheVariants.{Ibm, Plain}
use Rattle.autocoder_symbols.specs.Reading.{lines_in}
use Rattle.autocoder_warnings.specs.Loss.{loss_of}
use Rattle.autocoder_warnings.specs.Warnings.{all_warnings, card_lost}
use Rattle.autocoder_warnings.specs.declared.loss.Loss.TheVariants as losses
use Rattle.autocoder_warnings.specs.declared.warning.Warning.{Warning}
use Rattle.autocoder_warnings.specs.declared.warning.WarningKind.{WarningKind}
use Rattle.autocoder_warnings.specs.declared.warning.WarningKind.TheVariants as kinds

-- the warnings of a source in 350 places, with all tables open
warned_of : List ℕ → List Warning
unfolding columns_of instructions assembler_operations graphics system_cards
warned_of source = all_warnings no_features 350 source (lines_in Plain source)

warned : ℕ → WarningKind → Warning
warned line kind = record { line = line; kind = kind }

-- A is named by END alone, and B by no line
unused : warned_of (codes "     A         DCW  1\n     B         DCW  1\n               END  A\n")
    ≡ warned 2 kinds.UnusedLabel ∷ []
unfolding warned_of warned
unused = refl

-- the branch is taken or not whatever the program does; it takes five places, and the next has no mark
unset : warned_of (codes "     A         BE   A\n               END  A\n")
    ≡ warned 1 kinds.UnsetIndicator ∷ warned 1 (kinds.ReadOn 338) ∷ []
unfolding warned_of warned
unset = refl

-- a plus sign is a zone over the literal's units; ZA brings one into the field
unlike : warned_of (codes "     A         C    +5,B\n               H    A\n     B         DCW  0\n               END  A\n")
    ≡ warned 1 kinds.UnlikeSigns ∷ []
unfolding warned_of warned
unlike = refl

like : warned_of (codes "     A         ZA   +0,B\n               C    +5,B\n     B         DCW  0\n               END  A\n") ≡ []
unfolding warned_of warned
like = refl

-- the warnings of a source in the wider language, in 4,000 places, with features and without
wide_warned_with : Features → List ℕ → List Warning
unfolding columns_of instructions assembler_operations wide_instructions wide_operations graphics wider_line
    wide_line_with system_cards
wide_warned_with features source = all_warnings features 4000 source (lines_in Ibm source)

abbrev wide_warned_of : List ℕ → List Warning
wide_warned_of source = wide_warned_with no_features source

-- a label that only a literal names is used, and its number may get a sign by way of the literal
named : List ℕ
named =
    codes "     GO        MCW  +TAG,X1\n               C    +5,TAG\n               H\n     TAG       DCW  25\n"
    ++ codes "               END  GO\n"

a_literal_uses_a_label : wide_warned_of named ≡ []
unfolding wide_warned_with named
a_literal_uses_a_label = refl

-- WTM needs a unit, which the machine hasn't got; C alone is an instruction, but no word mark ends the last one
compared : List ℕ
compared =
    codes "     GO        WTM  2\n               C\n               CHAIN3\n               DC   @X@\n               END  GO\n"

a_chain_is_warned_of : wide_warned_of compared
    ≡ warned 1 kinds.NotFitted
    ∷ warned 3 (kinds.ReadOn 342) ∷ []
unfolding wide_warned_with compared warned
a_chain_is_warned_of = refl

-- where D is fitted, a divisor of zero sets the indicator that BAV tests
divided : List ℕ
divided =
    codes "     GO        D    GO,GO\n               BAV  GO\n               DCW  0\n"
    ++ codes "               END  GO\n"

a_division_is_not_fitted : wide_warned_of divided ≡ warned 1 kinds.NotFitted ∷ warned 2 kinds.UnsetIndicator ∷ []
unfolding wide_warned_with divided warned
a_division_is_not_fitted = refl

a_division_is_fitted : wide_warned_with (with_feature no_features Multiply) divided ≡ []
unfolding wide_warned_with divided
a_division_is_fitted = refl

-- where H has a second address, it stores that address with its zones, and TAG may get a sign
stored : List ℕ
stored =
    codes "     GO        SBR  TAG,GO\n               C    +5,TAG\n               H    GO\n"
    ++ codes "     TAG       DCW  25\n               END  GO\n"

a_second_address_is_not_fitted : wide_warned_of stored ≡ warned 1 kinds.NotFitted ∷ warned 2 kinds.UnlikeSigns ∷ []
unfolding wide_warned_with stored warned
a_second_address_is_not_fitted = refl

a_second_address_is_fitted : wide_warned_with (with_feature no_features Lengths) stored ≡ []
unfolding wide_warned_with stored
a_second_address_is_fitted = refl

-- branches of one character need the lengths; that by bits needs its feature too
chained : List ℕ
chained =
    codes "     GO        BCE  GO,GO,X\n               CHAIN2\n               BBE\n"
    ++ codes "               DCW  0\n               END  GO\n"

chains_with : Features → List Warning
unfolding wide_warned_with chained
chains_with features = wide_warned_with features chained

chains_are_fitted : chains_with no_features ∷ chains_with (with_feature no_features BitTest)
    ∷ chains_with (with_feature no_features Lengths)
    ∷ chains_with (with_feature (with_feature no_features BitTest) Lengths) ∷ []
    ≡ (warned 2 kinds.NotFitted ∷ warned 3 kinds.NotFitted ∷ [])
    ∷ (warned 2 kinds.NotFitted ∷ warned 3 kinds.NotFitted ∷ [])
    ∷ (warned 3 kinds.NotFitted ∷ []) ∷ [] ∷ []
unfolding chains_with warned
chains_are_fitted = refl

-- the second line fills the place of the first; between them EX would enter a phase
overlap : ℕ → ℕ → Option ℕ → WarningKind
overlap place line entered = kinds.Overlaps (record { place = place; line = line; entered = entered })

overwritten : warned_of
    (codes "     A         DCW  1\n               EX   A\n               ORG  A\n               DCW  2\n               END  A\n")
    ≡ warned 2 kinds.StartsNothing ∷ warned 4 (overlap 333 1 (Some 2)) ∷ []
unfolding warned_of warned overlap
overwritten = refl

overlapped : warned_of
    (codes "     A         DCW  11\n               ORG  A\n               DCW  2\n               END  A\n")
    ≡ warned 3 (overlap 334 1 None) ∷ []
unfolding warned_of warned overlap
overlapped = refl

-- a card for the system, by its operation
a_card_is_lost : loss_of (codes "     AUTOCODER RUN  THRU OUTPUT") ∷ loss_of (codes "               headr")
    ∷ loss_of (codes "     * a comment to RUN") ∷ loss_of (codes "               B    RUN") ∷ []
    ≡ Some losses.Card ∷ Some losses.Card ∷ None ∷ None ∷ []
unfolding columns_of system_cards
a_card_is_lost = refl

-- a comment may have any text
cards_are_warned_of : map card_lost (Some losses.Card ∷ Some losses.Text ∷ Some losses.Column73 ∷ None ∷ [])
    ≡ Some losses.Card ∷ None ∷ None ∷ None ∷ []
cards_are_warned_of = refl

-- a text that ends before another at sign, and what is in column 73 after operands up to column 72
lost : loss_of (codes "               DCW  @A @ B@") ≡ Some losses.Text
unfolding columns_of system_cards
lost = refl

kept : loss_of (codes "               DCW  @A @ B") ≡ None
unfolding columns_of system_cards
kept = refl

column_72 : List ℕ
column_72 = codes "               DCW  @12345678901234567890123456789012345678901234567890@"

goes_past : loss_of (column_72 ++ codes ",275") ≡ Some losses.Column73
unfolding column_72 columns_of system_cards
goes_past = refl

ends_there : loss_of (column_72 ++ codes " 275") ≡ None
unfolding column_72 columns_of system_cards
ends_there = refl

-- a switch A to G may be on; X is none
idle : warned_of (codes "     A         B    A,X\n               B    A,G\n               DCW  0\n               END  A\n")
    ≡ warned 1 kinds.NeverBranches ∷ []
unfolding warned_of warned
idle = refl

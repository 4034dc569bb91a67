-- Lines in the wider language, computed.
use Rattle.std.proofs.Common.{◌≡◌, ℕ, true, false, List, [], ◌∷◌, ◌++◌, map, replicate, None, Some, refl}
use Rattle.std.specs.Prelude.{Bool, Option, codes}
use Rattle.bcd_1401.specs.Graphic.{graphics}
use Rattle.autocoder_statements.specs.Constant.{text_of}
use Rattle.autocoder_statements.specs.Heading.{system_cards}
use Rattle.autocoder_statements.specs.Language.{is_sound, wider_line, line_in}
use Rattle.autocoder_statements.specs.Mnemonic.{instructions, assembler_operations}
use Rattle.autocoder_statements.specs.SourceLine.{columns_of}
use Rattle.autocoder_statements.specs.WideColumns.{capitals, plus_signs_from}
use Rattle.autocoder_statements.specs.WideMnemonic.{wide_instructions}
use Rattle.autocoder_statements.specs.WideOperation.{wide_operations}
use Rattle.autocoder_statements.specs.WideStatement.{wide_line_with}
use Rattle.autocoder_statements.specs.declared.constant.Constant.{Constant}
use Rattle.autocoder_statements.specs.declared.constant.Constant.TheVariants as constants
use Rattle.autocoder_statements.specs.declared.label.LabelField.TheVariants as labels
use Rattle.autocoder_statements.specs.declared.language.Language.TheVariants as languages
use Rattle.autocoder_statements.specs.declared.statement.Body.TheVariants as bodies
use Rattle.autocoder_statements.specs.declared.statement.Line.{Line}
use Rattle.autocoder_statements.specs.declared.statement.LineCheck.TheVariants as bytes

small_letters_are_capitals : capitals (columns_of (codes "abc  tab       dcw  @a b@"))
    ≡ columns_of (codes "abc  TAB       DCW  @A B@")
unfolding columns_of
small_letters_are_capitals = refl

a_comment_stays : capitals (columns_of (codes "     * a comment")) ≡ columns_of (codes "     * a comment")
unfolding columns_of
a_comment_stays = refl

-- operands with plus signs
signed : List ℕ → List ℕ
signed operands = plus_signs_from false true operands

each_is_a_plus_sign : signed (codes "&5,TAG&2&X1 ") ≡ codes "+5,TAG+2+X1 "
unfolding signed
each_is_a_plus_sign = refl

one_by_itself_is_a_d_character : map signed (codes "X,& " ∷ codes "&" ∷ codes "A,B,& &5" ∷ [])
    ≡ codes "X,& " ∷ codes "&" ∷ codes "A,B,& +5" ∷ []
unfolding signed
one_by_itself_is_a_d_character = refl

one_in_a_text_stays : signed (codes "@A&B, & @,&5") ≡ codes "@A&B, & @,+5"
unfolding signed
one_in_a_text_stays = refl

-- what a line says in the wider language, and in the plain one, with all tables open
wide : List ℕ → Line
unfolding columns_of instructions assembler_operations wide_instructions wide_operations graphics wider_line
    wide_line_with system_cards
wide text = line_in languages.Ibm text

plain : List ℕ → Line
unfolding columns_of instructions assembler_operations graphics
plain text = line_in languages.Plain text

a_small_line_says_what_capitals_say : wide (codes "     start     zs   x") ≡ plain (codes "     START     ZS   X")
unfolding wide plain
a_small_line_says_what_capitals_say = refl

an_ampersand_says_what_a_plus_sign_says : wide (codes "               A    &5,TAG&2&X1")
    ≡ plain (codes "               A    +5,TAG+2+X1")
unfolding wide plain
an_ampersand_says_what_a_plus_sign_says = refl

an_ampersand_is_a_d_character : wide (codes "               B    X,&") ≡ plain (codes "               B    X,&")
unfolding wide plain
an_ampersand_is_a_d_character = refl

a_text_has_its_ampersand : wide (codes "     tab       dcw  @a&b@") ≡ plain (codes "     TAB       DCW  @A&B@")
unfolding wide plain
a_text_has_its_ampersand = refl

-- a text goes on to the last at sign of its line, with what is in it
a_text_is_not_cut : wide (codes "     TAB       DCW  @A @&B@ C")
    ≡ record {
      bytes = bytes.Good;
      statement =
          Some (record {
            label = labels.Label (record { text = codes "TAB   " });
            body = bodies.MarkedConstant (Some (constants.Text (text_of (codes "A @&B"))));
          });
    }
unfolding wide
a_text_is_not_cut = refl

a_comment_says_nothing : wide (codes "     * a&b") ≡ plain (codes "     * a&b")
unfolding wide plain
a_comment_says_nothing = refl

-- whether nothing is wrong with a line by itself
sound : List ℕ → Bool
unfolding wide
sound text = is_sound (wide text)

a_tab_stays_foreign : sound (codes "     A" ++ 9 ∷ codes "NOP") ≡ false
unfolding sound
a_tab_stays_foreign = refl

a_heading_has_bytes_that_are_no_graphics : sound (codes "               job  wages {march}") ≡ true
unfolding sound
a_heading_has_bytes_that_are_no_graphics = refl

-- cards for the system that assembled a source, with anything in the other columns
cards_say_nothing : map wide (codes "     AUTOCODER RUN  THRU OUTPUT" ∷ codes "               headr" ∷ codes "     X1        INSER5,A"
    ∷ codes "     CORE      ASGN 1403 PRINTER 2" ∷ [])
    ≡ replicate 4 (record { bytes = bytes.Good; statement = None })
unfolding wide
cards_say_nothing = refl

-- labels of lines that had none, and one that is missing
lines_with_labels_and_without : map sound (codes "     BACK      ORG  *&X00" ∷ codes "                    5,5"
    ∷ codes "                    4" ∷ codes "     LOW            4" ∷ codes "     TAG       DSA  TAB+X3"
    ∷ codes "               DCW  &TAB" ∷ codes "               END" ∷ [])
    ≡ replicate 7 true
unfolding sound
lines_with_labels_and_without = refl

labels_that_may_not_be : map sound (codes "               EQU  *" ∷ codes "     L         EX   *"
    ∷ codes "     L         END" ∷ [])
    ≡ replicate 3 false
unfolding sound
labels_that_may_not_be = refl

-- in the plain language a field needs a label, and the next place has none
plain_sound : List ℕ → Bool
unfolding plain
plain_sound text = is_sound (plain text)

labels_of_the_plain_language : map plain_sound (codes "     KEY            5,5" ∷ codes "                    5,5"
    ∷ codes "     BACK      ORG  500" ∷ [])
    ≡ true ∷ false ∷ false ∷ []
unfolding plain_sound
labels_of_the_plain_language = refl

a_heading_has_no_label : sound (codes "     HEAD      JOB  WAGES") ≡ false
unfolding sound
a_heading_has_no_label = refl

a_heading_has_no_tab : sound (codes "               JOB  WAGES" ++ 9 ∷ []) ≡ false
unfolding sound
a_heading_has_no_tab = refl

-- a constant that ends at this place, with a word mark or without
abbrev at_its_place : ℕ → Bool → Option Constant → Line
at_its_place last is_marked constant =
    record {
      bytes = bytes.Good;
      statement = Some (record {
        label = labels.Absent;
        body = bodies.PlacedConstant (record { last = last; is_marked = is_marked; constant = constant });
      });
    }

a_place_before_a_constant : wide (codes "     110       DCW  @X@")
    ∷ wide (codes "     00089     dc   12 a remark") ∷ wide (codes "     3         DCW  &5") ∷ wide (codes "     80        DCW  A") ∷ []
    ≡ at_its_place 110 true (Some (constants.Text (text_of (codes "X"))))
    ∷ at_its_place 89 false (Some (constants.Number (text_of (codes "12"))))
    ∷ at_its_place 3 true (Some (constants.Plus (text_of (codes "5")))) ∷ at_its_place 80 true None ∷ []
unfolding wide
a_place_before_a_constant = refl

-- a place is a number from column 6 on, and only a constant has one
no_places_before_statements : map (λ (text : List ℕ). is_sound (wide text)) (codes "     110       DS   3"
    ∷ codes "     110       DSA  5" ∷ codes "     110       H" ∷ codes "      110      DCW  @X@" ∷ codes "     123456    DCW  @X@"
    ∷ codes "     1 1       DCW  @X@" ∷ codes "     1A        DCW  @X@" ∷ codes "     80        DCW  +TAG" ∷ [])
    ≡ replicate 8 false
unfolding wide
no_places_before_statements = refl

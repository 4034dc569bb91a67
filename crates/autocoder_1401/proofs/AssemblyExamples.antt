-- Sources, and the images and faults worked out for them by hand.
use Rattle.std.proofs.Common.{◌≡◌, ℕ, List, [], ◌∷◌, ◌++◌, map, replicate, None, Some, Ok, Err, Result, refl}
use Rattle.std.specs.Prelude.{codes}
use Rattle.std.specs.Fmt.{digits}
use Rattle.bcd_1401.specs.Graphic.{graphics}
use Rattle.bcd_1401.specs.declared.cell.Cell.{Cell}
use Rattle.autocoder_statements.specs.SourceLine.{columns_of}
use Rattle.autocoder_statements.specs.Mnemonic.{instructions, assembler_operations}
use Rattle.autocoder_statements.specs.declared.language.Language.TheVariants.{Plain}
use Rattle.autocoder_symbols.specs.declared.fault.AsmFault.{AsmFault}
use Rattle.autocoder_symbols.specs.declared.fault.AsmKind.TheVariants as kinds
use Rattle.autocoder_placing.specs.Cells.{plain, marked}
use Rattle.autocoder_placing.specs.Segments.{cut}
use Rattle.autocoder_listing.specs.Listing.{number_text, address_text, characters_text, without_last_blanks}
use Rattle.autocoder_listing.specs.Listing.{listing_line}
use Rattle.autocoder_listing.specs.Listing.{spelling, literal_spelling, base_spelling, adjustment_spelling}
use Rattle.autocoder_listing.specs.Listing.{index_spelling}
use Rattle.autocoder_1401.specs.Assembly.{assembly_in}
use Rattle.autocoder_1401.specs.declared.assembly.Assembly.{Assembly}

-- what a source is in core storage of this size, with all tables open
in_places : ℕ → List ℕ → Result Assembly AsmFault
unfolding columns_of instructions assembler_operations graphics number_text address_text characters_text
    without_last_blanks listing_line spelling literal_spelling base_spelling adjustment_spelling
    index_spelling digits
in_places size source = assembly_in Plain size source

-- the same in 4,000 places
stands_for : List ℕ → Result Assembly AsmFault
unfolding in_places
stands_for source = in_places 4000 source

-- ?423420 and A423420 with their word marks
zero_and_add : List Cell → List Cell
zero_and_add more =
    marked 58 ∷ plain 4 ∷ plain 2 ∷ plain 3 ∷ plain 4 ∷ plain 2 ∷ plain 10 ∷ marked 49 ∷ plain 4 ∷ plain 2 ∷ plain 3
    ∷ plain 4 ∷ plain 2
    ∷ plain 10 ∷ more

-- .414 with its word mark, three blanks, HI and E with theirs
halt_and_constants : List Cell
halt_and_constants =
    marked 59 ∷ plain 4 ∷ plain 1 ∷ plain 4 ∷ marked 0 ∷ plain 0 ∷ plain 0 ∷ marked 56 ∷ plain 57 ∷ marked 53 ∷ []

-- a source with the literal +5 used twice
two_uses : List ℕ
two_uses =
    codes "               ORG  400\n     START     ZA   +5,TOTAL\n               A    +5,TOTAL\n"
    ++ codes "               H    *-3\n     TOTAL     DCW  #3\n     NAME      DCW  @HI@\n"
    ++ codes "     * ONE LITERAL, TWO USES\n               END  START\n"

-- its listing, with a line for the literal before that of END
listing_of_two_uses : List (List ℕ)
listing_of_two_uses =
    codes "0001 00400                         ORG  400"
    ∷ codes "0002 00400 ?423420       START     ZA   +5,TOTAL"
    ∷ codes "0003 00407 A423420                 A    +5,TOTAL"
    ∷ codes "0004 00414 .414                    H    *-3"
    ∷ codes "0005 00418               TOTAL     DCW  #3"
    ∷ codes "0006 00421 HI            NAME      DCW  @HI@"
    ∷ codes "0007                     * ONE LITERAL, TWO USES"
    ∷ codes "     00423 E        +5"
    ∷ codes "0008 00400                         END  START"
    ∷ []

-- it is placed once, after NAME
one_literal_for_two_uses : stands_for two_uses
    ≡ Ok (record {
      image = record {
        size = 4000;
        segments = record { address = 400; cells = zero_and_add halt_and_constants } ∷ [];
        start = 400;
      };
      listing = listing_of_two_uses;
    })
unfolding stands_for two_uses zero_and_add halt_and_constants listing_of_two_uses
one_literal_for_two_uses = refl

-- each of two areas of four has a word mark at its high place, and one at the first place of KEY
four_halves : List Cell
four_halves = marked 0 ∷ plain 0 ∷ marked 0 ∷ plain 0 ∷ marked 0 ∷ plain 0 ∷ marked 0 ∷ plain 0 ∷ []

areas : List ℕ
areas = codes "               ORG  500\n     REC       DA   2X4\n     KEY            3,4\n               END  KEY\n"

-- the line of a field has the first place of the field in the first area, and END has its value
listing_of_areas : List (List ℕ)
listing_of_areas =
    codes "0001 00500                         ORG  500"
    ∷ codes "0002 00500               REC       DA   2X4"
    ∷ codes "0003 00502               KEY            3,4"
    ∷ codes "0004 00503                         END  KEY"
    ∷ []

areas_of_two_fields : stands_for areas
    ≡ Ok (record {
      image = record { size = 4000; segments = record { address = 500; cells = four_halves } ∷ []; start = 503 };
      listing = listing_of_areas;
    })
unfolding stands_for areas four_halves listing_of_areas
areas_of_two_fields = refl

-- a lower kind on a later line doesn't count
an_operation_before_a_long_line : stands_for (codes "               ZZZ\n" ++ replicate 81 32)
    ≡ Err (record { line = 1; kind = kinds.Operation })
unfolding stands_for
an_operation_before_a_long_line = refl

-- 9999 is no place of 4,000
an_entry_past_core : stands_for (codes "               END  9999\n") ≡ Err (record { line = 1; kind = kinds.OutOfCore })
unfolding stands_for
an_entry_past_core = refl

-- but one of 12,000
an_entry_in_a_larger_core : in_places 12000 (codes "               END  9999\n")
    ≡ Ok (record {
      image = record { size = 12000; segments = []; start = 9999 };
      listing = codes "0001 09999                         END  9999" ∷ [];
    })
unfolding in_places
an_entry_in_a_larger_core = refl

-- the last places of 16,000, and an address with zones over its hundreds and units
at_the_last_place : List ℕ
at_the_last_place =
    codes "               ORG  15992\n               MLC  15999,12345\n               H\n               END  15992\n"

the_last_place_of_16_000 : in_places 16000 at_the_last_place
    ≡ Ok (record {
      image = record {
        size = 16000;
        segments = record {
          address = 15992;
          cells = marked 36 ∷ plain 57 ∷ plain 9 ∷ plain 57 ∷ plain 3 ∷ plain 4 ∷ plain 53 ∷ marked 59 ∷ [];
        } ∷ [];
        start = 15992;
      };
      listing = codes "0001 15992                         ORG  15992"
          ∷ codes "0002 15992 MI9I34E                 MLC  15999,12345"
          ∷ codes "0003 15999 .                       H"
          ∷ codes "0004 15992                         END  15992" ∷ [];
    })
unfolding in_places at_the_last_place
the_last_place_of_16_000 = refl

-- after 39 cells the next one closes the segment; a gap of two places parts the last
three_segments : cut 333 (replicate 39 (plain 0)) ((372, plain 1) ∷ (373, plain 2) ∷ (376, marked 49) ∷ [])
    ≡ record { address = 333; cells = replicate 39 (plain 0) ++ plain 1 ∷ [] }
    ∷ record { address = 373; cells = plain 2 ∷ [] }
    ∷ record { address = 376; cells = marked 49 ∷ [] } ∷ []
three_segments = refl

-- a sign is a zone over the units of its literal, and an index register one over the tens of its address
signs_and_indices : List ℕ
signs_and_indices =
    codes "               ORG  0\n     A         MLC  @LONGER THAN 8@,A+X3\n               MLC  -007,-007\n"
    ++ codes "     SPACE     DS   5\n     B         EQU  A+10\n               EX   B\n"
    ++ codes "               END  A   REMARK  " ++ 13 ∷ codes "\n     \n     * TRAILING  \n     *END"

-- no more than eight characters are shown, and no blank at the end; EX places literals too; a literal has the line of
-- its first spelling; a comment has no address, and one after END has a line
listing_of_signs_and_indices : List (List ℕ)
listing_of_signs_and_indices =
    codes "0001 00000                         ORG  0"
    ∷ codes "0002 00000 M0310?0       A         MLC  @LONGER THAN 8@,A+X3"
    ∷ codes "0003 00007 M034034                 MLC  -007,-007"
    ∷ codes "0004 00014               SPACE     DS   5"
    ∷ codes "0005 00010               B         EQU  A+10"
    ∷ codes "     00019 LONGER T @LONGER THAN 8@"
    ∷ codes "     00032 00P      -007"
    ∷ codes "0006 00010                         EX   B"
    ∷ codes "0007 00000                         END  A   REMARK"
    ∷ codes "0008"
    ∷ codes "0009                     * TRAILING"
    ∷ codes "0010                     *END"
    ∷ []

listing_alone : Result Assembly AsmFault → List (List ℕ)
listing_alone (Ok assembly) = assembly.listing
listing_alone (Err fault) = []

signs_and_indices_are_zones : listing_alone (stands_for signs_and_indices) ≡ listing_of_signs_and_indices
unfolding stands_for listing_alone signs_and_indices listing_of_signs_and_indices
signs_and_indices_are_zones = refl

-- the number of a line has at least four digits
numbers_of_lines : map number_text (None ∷ Some 7 ∷ Some 9999 ∷ Some 10000 ∷ [])
    ≡ codes "    " ∷ codes "0007" ∷ codes "9999" ∷ codes "10000" ∷ []
unfolding number_text digits
numbers_of_lines = refl

-- Sources in the wider language with literals of addresses and areas, LTORG and indexes of symbols, and the images,
-- lines and tables worked out for them by hand.
use Rattle.std.proofs.Common.{◌≡◌, ℕ, List, [], ◌∷◌, ◌++◌, map, Option, Some, None, refl}
use Rattle.std.specs.Prelude.{codes, if◌then◌else◌}
use Rattle.std.specs.Fmt.{digits}
use Rattle.std.specs.List.{flat_map}
use Rattle.std.specs.Str.{byte}
use Rattle.bcd_1401.specs.Graphic.{graphics}
use Rattle.bcd_1401.specs.declared.cell.Cell.{Cell}
use Rattle.machine_image.specs.declared.image.Image.{Image}
use Rattle.machine_image.specs.declared.image.Segment.{Segment}
use Rattle.autocoder_statements.specs.Context.{lines_said}
use Rattle.autocoder_statements.specs.Heading.{system_cards}
use Rattle.autocoder_statements.specs.Language.{wider_line}
use Rattle.autocoder_statements.specs.Mnemonic.{instructions, assembler_operations}
use Rattle.autocoder_statements.specs.SourceLine.{columns_of, lines_of}
use Rattle.autocoder_statements.specs.WideMnemonic.{wide_instructions}
use Rattle.autocoder_statements.specs.WideOperation.{wide_operations}
use Rattle.autocoder_statements.specs.WideStatement.{wide_line_with}
use Rattle.autocoder_statements.specs.declared.language.Language.TheVariants.{Ibm}
use Rattle.autocoder_statements.specs.declared.statement.Line.{Line}
use Rattle.autocoder_symbols.specs.declared.fault.AsmFault.{AsmFault}
use Rattle.autocoder_symbols.specs.declared.fault.AsmKind.TheVariants as kinds
use Rattle.autocoder_placing.specs.PlacedImage.{image_of}
use Rattle.autocoder_placing.specs.Values.{first_outside}
use Rattle.autocoder_listing.specs.CrossReference.{reference_line, references_text}
use Rattle.autocoder_listing.specs.Listing.{graphic_of, number_text, address_text, characters_text, without_last_blanks}
use Rattle.autocoder_listing.specs.Listing.{listing_line, spelling, literal_spelling, base_spelling}
use Rattle.autocoder_listing.specs.Listing.{adjustment_spelling}
use Rattle.autocoder_listing.specs.Listing.{index_spelling, listing_with}
use Rattle.autocoder_listing.specs.SymbolTable.{length_text, symbol_line, symbols_text}

-- the lines of a source, with all tables open
lines_in : List ℕ → List Line
unfolding columns_of instructions assembler_operations wide_instructions wide_operations wider_line wide_line_with system_cards
lines_in source = lines_said Ibm (lines_of source)

-- a cell by its graphic, with a tilde before it if it has a word mark
shown : Cell → List ℕ
shown cell = if cell.mark then byte "~" ∷ graphic_of cell ∷ [] else graphic_of cell ∷ []

-- where each segment of an image in 4,000 places begins, and its cells; and where the program begins
segments_shown : Image → List (ℕ × List ℕ)
unfolding shown graphics
segments_shown image = map (λ (segment : Segment). (segment.address, flat_map shown segment.cells)) image.segments

image_shown : List ℕ → List (ℕ × List ℕ)
unfolding lines_in segments_shown graphics
image_shown source = segments_shown (image_of 4000 (lines_in source))

start_shown : List ℕ → ℕ
unfolding lines_in graphics
start_shown source = (image_of 4000 (lines_in source)).start

-- the listing of a source
listed : List ℕ → List (List ℕ)
unfolding lines_in graphics number_text address_text characters_text without_last_blanks listing_line spelling
    literal_spelling base_spelling adjustment_spelling index_spelling digits
listed source = listing_with (lines_in source) (lines_of source)

-- the first line of a source of which something isn't in 4,000 places
outside_in : List ℕ → Option AsmFault
unfolding lines_in graphics
outside_in source = first_outside 4000 (lines_in source)

-- fields of areas with an index, which are counted from 000; +X0 takes it away, +X2 replaces it, and the label of the
-- areas has none
counted : List ℕ
counted =
    codes "               ORG  700\n     REC       DA   2X5,X1,0,G\n     KEY            1,2\n     LOW            4\n"
    ++ codes "                    5,5\n               A    KEY,LOW+X0\n               MCW  REC,KEY+X2\n"
    ++ codes "               END\n"

fields_count_from_000 : image_shown counted ≡ (700, codes "~    ~ ~    ~ ~\"~A0'1003~M7000!1") ∷ []
unfolding image_shown counted
fields_count_from_000 = refl

the_first_instruction_is_beyond_the_group_mark : start_shown counted ≡ 711
unfolding start_shown counted
the_first_instruction_is_beyond_the_group_mark = refl

-- the index of a symbol is that of its EQU, or of the symbol that this names; ORG and END take none
equal : List ℕ
equal =
    codes "     TAB       EQU  700+X2\n     NEXT      EQU  TAB+1\n     BARE      EQU  TAB+X0\n"
    ++ codes "               ORG  NEXT\n               MCW  NEXT,BARE\n               MCW  TAB+X1,BARE+X3\n"
    ++ codes "               END  NEXT\n"

an_index_goes_from_symbol_to_symbol : image_shown equal ≡ (701, codes "~M7!1700~M7'07?0") ∷ []
unfolding image_shown equal
an_index_goes_from_symbol_to_symbol = refl

-- literals of addresses and an area, from LTORG's value on; its label is the next place as it was before
addressed : List ℕ
addressed =
    codes "               ORG  500\n     GO        MCW  +TAB,X1\n               MCW  SUM#3,SUM\n"
    ++ codes "               A    -TAB+1,X1\n     TAB       DCW  @ABC@\n     BASE      LTORG600\n"
    ++ codes "               DSA  TAB+X3\n               DC   -TAB\n               ORG  BASE\n               H    SUM-2\n"
    ++ codes "               END  GO\n"

literals_stand_from_the_value_on : image_shown addressed
    ≡ (500, codes "~M602089~M605605~A608089~ABC") ∷ (600, codes "~523~   ~D7F~5B3D7G") ∷ (524, codes "~.603") ∷ []
unfolding image_shown addressed
literals_stand_from_the_value_on = refl

-- each has a line of its own, before that of LTORG
listing_of_literals : listed addressed
    ≡ codes "0001 00500                         ORG  500"
    ∷ codes "0002 00500 M602089       GO        MCW  +TAB,X1"
    ∷ codes "0003 00507 M605605                 MCW  SUM#3,SUM"
    ∷ codes "0004 00514 A608089                 A    -TAB+1,X1"
    ∷ codes "0005 00521 ABC           TAB       DCW  @ABC@"
    ∷ codes "     00600 523      +TAB"
    ∷ codes "     00603          SUM#3"
    ∷ codes "     00606 D7F      -TAB+1"
    ∷ codes "0006 00600               BASE      LTORG600"
    ∷ codes "0007 00609 5B3                     DSA  TAB+X3"
    ∷ codes "0008 00612 D7G                     DC   -TAB"
    ∷ codes "0009 00524                         ORG  BASE"
    ∷ codes "0010 00524 .603                    H    SUM-2"
    ∷ codes "0011 00500                         END  GO"
    ∷ []
unfolding listed addressed
listing_of_literals = refl

-- the literals so far are placed where LTORG stands, a later use names the same place, and EX has none left
placed_before : List ℕ
placed_before =
    codes "               ORG  500\n     GO        A    +1,9\n               LTORG*\n               EX   GO\n"
    ++ codes "               A    +1,9\n               END  GO\n"

literals_are_placed_once : image_shown placed_before ≡ (500, codes "~A507009~A~A507009") ∷ []
unfolding image_shown placed_before
literals_are_placed_once = refl

-- an adjustment of 0 is none, and +X0 isn't; a text is never one with an address, nor an area with another
alike : List ℕ
alike =
    codes "               ORG  500\n     GO        MCW  +GO,+GO+0\n               MCW  +GO+X0,-GO\n"
    ++ codes "               MCW  @500@,AREA#3\n               MCW  AREA#3,+GO\n               END  GO\n"

one_literal_for_the_same_address : image_shown alike
    ≡ (500, codes "~M530530~M533536~M539542~M542530~500~500~E0?~500") ∷ (540, codes "~   ") ∷ []
unfolding image_shown alike
one_literal_for_the_same_address = refl

-- an area literal declares its symbol on the line that uses it first, after the line's own label
tabled : List ℕ
tabled =
    codes "     GO        MCW  ONE#2,TWO#3\n               MCW  TWO#3,+GO\n               MCW  TWO,ONE\n"
    ++ codes "               END  GO\n"

symbols_of : List ℕ → List ℕ
unfolding lines_in address_text length_text symbol_line digits
symbols_of source = symbols_text (lines_in source)

area_literals_declare_symbols : symbols_of tabled
    ≡ codes "GO     00333 00007 0001\n" ++ codes "ONE    00355 00002 0001\n" ++ codes "TWO    00358 00003 0001\n"
unfolding symbols_of tabled graphics
area_literals_declare_symbols = refl

-- EQUs that name one another downwards and an area literal, with index registers on the way, and LTORG with one of them
chained : List ℕ
chained =
    codes "               ORG  500\n     GO        B    A\n     A         EQU  B+1\n"
    ++ codes "     B         EQU  C+X2\n     C         EQU  D-2+X1\n     D         EQU  LAST\n"
    ++ codes "               MCW  SUM#3,AREA\n     AREA      EQU  SUM-1+X3\n     E         EQU  F+10\n"
    ++ codes "     F         EQU  590\n               LTORGE\n     LAST      H    AREA+X0\n"
    ++ codes "               END  GO\n"

equs_name_later_labels : image_shown chained ≡ (500, codes "~B6!2~M6026?1") ∷ (600, codes "~   ~.601") ∷ []
unfolding image_shown chained
equs_name_later_labels = refl

listing_of_chains : listed chained ≡
    codes "0001 00500                         ORG  500"
    ∷ codes "0002 00500 B6!2          GO        B    A"
    ∷ codes "0003 00602               A         EQU  B+1"
    ∷ codes "0004 00601               B         EQU  C+X2"
    ∷ codes "0005 00601               C         EQU  D-2+X1"
    ∷ codes "0006 00603               D         EQU  LAST"
    ∷ codes "0007 00504 M6026?1                 MCW  SUM#3,AREA"
    ∷ codes "0008 00601               AREA      EQU  SUM-1+X3"
    ∷ codes "0009 00600               E         EQU  F+10"
    ∷ codes "0010 00590               F         EQU  590"
    ∷ codes "     00600          SUM#3"
    ∷ codes "0011 00600                         LTORGE"
    ∷ codes "0012 00603 .601          LAST      H    AREA+X0"
    ∷ codes "0013 00500                         END  GO"
    ∷ []
unfolding listed chained
listing_of_chains = refl

-- and their symbols have the values at their ends
symbols_of_chains : symbols_of chained
    ≡ codes "GO     00500 00004 0002\nA      00602       0003\n"
    ++ codes "B      00601       0004\nC      00601       0005\n"
    ++ codes "D      00603       0006\nSUM    00602 00003 0007\n"
    ++ codes "AREA   00601       0008\nE      00600       0009\n"
    ++ codes "F      00590       0010\nLAST   00603 00004 0012\n"
unfolding symbols_of chained graphics
symbols_of_chains = refl

references_of : List ℕ → List ℕ
unfolding lines_in reference_line digits
references_of source = references_text (lines_in source)

literals_name_symbols : references_of tabled
    ≡ codes "GO     0001 0002 0004\n" ++ codes "ONE    0001 0001 0003\n" ++ codes "TWO    0001 0001 0002 0003\n"
unfolding references_of tabled graphics
literals_name_symbols = refl

-- the value in a literal is looked at before its sign, on the line that uses it, and LTORG's literals on its own
a_literal_past_core : outside_in (codes "               A    -Q+1,0\n     Q         EQU  3999\n               END\n")
    ≡ Some (record { line = 1; kind = kinds.OutOfCore })
unfolding outside_in
a_literal_past_core = refl

literals_past_core : outside_in (codes "               A    +5,0\n               LTORG4000\n               END\n")
    ≡ Some (record { line = 2; kind = kinds.OutOfCore })
unfolding outside_in
literals_past_core = refl

no_literals_past_core : outside_in (codes "               LTORG4000\n               ORG  0\n               END  0\n") ≡ None
unfolding outside_in
no_literals_past_core = refl

-- a chain's label is its first place, and its length the number of its instructions; X1 is a label here, X2 isn't
labelled : List ℕ
labelled =
    codes "               SFX  A\n     GO        MCW  X1,X2\n     MORE      CHAIN3\n     X1        EQU  MORE+1\n"
    ++ codes "               END  GO\n"

symbols_of_a_chain : symbols_of labelled
    ≡ codes "GO   A 00333 00007 0002\n" ++ codes "MORE A 00340 00003 0003\n" ++ codes "X1     00341       0004\n"
unfolding symbols_of labelled graphics
symbols_of_a_chain = refl

references_to_x1 : references_of labelled
    ≡ codes "GO   A 0002 0005\n" ++ codes "MORE A 0003 0004\n" ++ codes "X1     0004 0002\n"
unfolding references_of labelled graphics
references_to_x1 = refl

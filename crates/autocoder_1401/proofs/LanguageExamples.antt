-- Sources in the wider language, and the images, listings and faults worked out for them by hand.
use Rattle.std.proofs.Common.{◌≡◌, ℕ, List, [], ◌∷◌, ◌++◌, map, pos, Result, Ok, Err, refl}
use Rattle.std.specs.Prelude.{codes, if◌then◌else◌}
use Rattle.std.specs.Fmt.{digits}
use Rattle.std.specs.List.{flat_map}
use Rattle.std.specs.Str.{byte}
use Rattle.bcd_1401.specs.Graphic.{graphics}
use Rattle.bcd_1401.specs.declared.cell.Cell.{Cell}
use Rattle.machine_image.specs.declared.image.Image.{Image}
use Rattle.machine_image.specs.declared.image.Segment.{Segment}
use Rattle.autocoder_statements.specs.Flaw.{stretch}
use Rattle.autocoder_statements.specs.Heading.{system_cards}
use Rattle.autocoder_statements.specs.Language.{wider_line}
use Rattle.autocoder_statements.specs.LanguageFlaw.{wider_columns}
use Rattle.autocoder_statements.specs.Mnemonic.{instructions, assembler_operations}
use Rattle.autocoder_statements.specs.SourceLine.{columns_of, lines_of}
use Rattle.autocoder_statements.specs.WideMnemonic.{wide_instructions}
use Rattle.autocoder_statements.specs.WideOperation.{wide_operations}
use Rattle.autocoder_statements.specs.WideStatement.{wide_line_with}
use Rattle.autocoder_statements.specs.declared.language.Language.TheVariants.{Ibm}
use Rattle.autocoder_symbols.specs.declared.fault.AsmFault.{AsmFault}
use Rattle.autocoder_symbols.specs.declared.fault.AsmKind.TheVariants as kinds
use Rattle.autocoder_diagnostics.specs.declared.explanation.Cause.TheVariants as causes
use Rattle.autocoder_diagnostics.specs.declared.explanation.Explanation.{Explanation}
use Rattle.autocoder_placing.specs.Placement.{next_hundred}
use Rattle.autocoder_listing.specs.Listing.{graphic_of, number_text, address_text, characters_text, without_last_blanks}
use Rattle.autocoder_listing.specs.Listing.{listing_line, spelling, literal_spelling, base_spelling}
use Rattle.autocoder_listing.specs.Listing.{adjustment_spelling}
use Rattle.autocoder_listing.specs.Listing.{index_spelling}
use Rattle.autocoder_1401.specs.Assembly.{assembly_in}
use Rattle.autocoder_1401.specs.Explaining.{all_explained}
use Rattle.autocoder_1401.specs.declared.assembly.Assembly.{Assembly}

-- what a source is in 4,000 places, with all tables open
stands_for : List ℕ → Result Assembly AsmFault
unfolding columns_of instructions assembler_operations wide_instructions wide_operations graphics wider_line
    wide_line_with system_cards number_text address_text characters_text without_last_blanks listing_line spelling literal_spelling base_spelling adjustment_spelling
    index_spelling digits
stands_for source = assembly_in Ibm 4000 source

-- a cell by its graphic, with a tilde before it if it has a word mark
shown : Cell → List ℕ
shown cell = if cell.mark then byte "~" ∷ graphic_of cell ∷ [] else graphic_of cell ∷ []

-- where each segment of an image begins, and its cells
segments_shown : Image → List (ℕ × List ℕ)
unfolding shown graphics
segments_shown image = map (λ (segment : Segment). (segment.address, flat_map shown segment.cells)) image.segments

image_shown : Result Assembly AsmFault → List (ℕ × List ℕ)
image_shown (Ok assembly) = segments_shown assembly.image
image_shown (Err fault) = []

-- each section has a LOOP of its own; ENTRY of the first is ENTRYA for the second
sections : List ℕ
sections =
    codes "               ORG  500\n               SFX  A\n     LOOP      B    LOOP\n     ENTRY     B    LOOP\n"
    ++ codes "               SFX  B\n     LOOP      B    ENTRYA\n               SFX\n               END  ENTRYA\n"

a_suffix_parts_sections : image_shown (stands_for sections) ≡ (500, codes "~B500~B500~B504") ∷ []
unfolding stands_for image_shown segments_shown sections
a_suffix_parts_sections = refl

-- X2 is a label, and X1 and X3 are 89 and 99; after a base +X2 is the index register all the same
registers : List ℕ
registers =
    codes "     GO        MCW  X1+5,X1+X2\n               MCW  X2,X3+X0\n               ORG  400\n"
    ++ codes "     X2        DCW  000\n               END  GO\n"

x2_is_a_label : image_shown (stands_for registers)
    ≡ (333, codes "~M0940Q9~M402099") ∷ (400, codes "~000") ∷ []
unfolding stands_for image_shown segments_shown registers
x2_is_a_label = refl

-- comments don't break a chain, and a unit is assembled as it is written
repeated : List ℕ
repeated =
    codes "     GO        CU   %U2,R\n     * TWICE MORE\n               MLC\n     * AND\n               CHAIN2\n"
    ++ codes "               END  GO\n"

a_chain_repeats_what_is_above_it : image_shown (stands_for repeated) ≡ (333, codes "~U%U2R~M~M~M") ∷ []
unfolding stands_for image_shown segments_shown repeated
a_chain_repeats_what_is_above_it = refl

-- a heading may come between areas and their fields
headed : List ℕ
headed =
    codes "     REC       DA   2X4\n               JOB  FIELDS\n     KEY            3,4\n               END  KEY\n"

fields_below_a_heading : image_shown (stands_for headed) ≡ (333, codes "~  ~  ~  ~  ") ∷ []
unfolding stands_for image_shown segments_shown headed
fields_below_a_heading = refl

-- XFR shows its value, and places nothing
entered : List ℕ
entered = codes "     GO        H\n               XFR  GO\n               END  GO\n"

listing_shown : Result Assembly AsmFault → List (List ℕ)
listing_shown (Ok assembly) = assembly.listing
listing_shown (Err fault) = []

xfr_places_nothing : listing_shown (stands_for entered)
    ≡ codes "0001 00333 .             GO        H"
    ∷ codes "0002 00333                         XFR  GO"
    ∷ codes "0003 00333                         END  GO"
    ∷ []
unfolding stands_for listing_shown entered
xfr_places_nothing = refl

-- ORG is counted from the next place, and EQU, EX and END from the last before it; END alone begins at the first
-- instruction
counted : List ℕ
counted =
    codes "               ORG  340\n     HERE      EQU  *+2\n     BACK      ORG  *+X00\n               H    HERE\n"
    ++ codes "               ORG  BACK+1\n               ORG  *+2\n     GO        H    BACK\n               END\n"

an_asterisk_says_a_value : image_shown (stands_for counted)
    ≡ (400, codes "~.341") ∷ (343, codes "~.340") ∷ []
unfolding stands_for image_shown segments_shown counted
an_asterisk_says_a_value = refl

start_shown : Result Assembly AsmFault → ℕ
start_shown (Ok assembly) = assembly.image.start
start_shown (Err fault) = 0

end_alone_begins_at_the_first_instruction : start_shown (stands_for counted) ≡ 400
unfolding stands_for start_shown counted
end_alone_begins_at_the_first_instruction = refl

ended : List ℕ
ended = codes "     GO        A    +1,9\n               END  *-6\n"

end_is_counted_from_the_last_place : start_shown (stands_for ended) ≡ 333
unfolding stands_for start_shown ended
end_is_counted_from_the_last_place = refl

the_next_hundred : map next_hundred (pos 0 ∷ pos 348 ∷ pos 400 ∷ []) ≡ pos 0 ∷ pos 400 ∷ pos 400 ∷ []
the_next_hundred = refl

-- fields without labels; one place alone has no word mark, and a group mark stands after the last area
grouped : List ℕ
grouped =
    codes "     REC       DA   2X3,G\n                    2,3\n     LAST           3\n"
    ++ codes "               H    LAST\n               END\n"

a_group_mark_ends_areas : image_shown (stands_for grouped) ≡ (333, codes "~ ~  ~ ~  ~\"~.335") ∷ []
unfolding stands_for image_shown segments_shown grouped
a_group_mark_ends_areas = refl

-- constants of an address: as an instruction has it, and 16,000 less it
addressed : List ℕ
addressed =
    codes "               ORG  523\n     GO        DSA  *-2+X3\n               DC   -GO+2\n               DCW  -0\n"
    ++ codes "               DSA  GO\n               END\n"

constants_of_addresses : image_shown (stands_for addressed) ≡ (523, codes "~5B3D7C~!~525") ∷ []
unfolding stands_for image_shown segments_shown addressed
constants_of_addresses = refl

-- the faults of a source in 4,000 places, each with what is wrong
wrong_in : List ℕ → List Explanation
unfolding columns_of instructions assembler_operations wide_instructions wide_operations graphics wider_line
    wide_line_with system_cards wider_columns
wrong_in source = all_explained Ibm 4000 (lines_of source)

a_second_ctl : wrong_in (codes "               CTL  66\n               CTL  66\n               END  0\n")
    ≡ record {
      fault = record { line = 2; kind = kinds.Operation };
      columns = stretch 16 3;
      cause = causes.ControlledBefore;
    } ∷ []
unfolding wrong_in
a_second_ctl = refl

a_chain_below_a_constant : wrong_in (codes "     TAG       DCW  #3\n               CHAIN2\n               END  TAG\n")
    ≡ record {
      fault = record { line = 2; kind = kinds.Operation };
      columns = stretch 16 5;
      cause = causes.NothingAbove;
    } ∷ []
unfolding wrong_in
a_chain_below_a_constant = refl

-- the field below a DA that can't be read only follows from it, a heading between them or not
a_heading_below_lost_areas : map (λ (this : Explanation). this.fault)
    (wrong_in (codes "     REC       DA   2Y4\n               JOB\n     KEY            3,4\n               END  0\n"))
    ≡ record { line = 1; kind = kinds.Operand } ∷ []
unfolding wrong_in
a_heading_below_lost_areas = refl

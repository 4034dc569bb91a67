-- Sources, and the symbol tables and cross-references worked out for them by hand.
use Rattle.std.proofs.Common.{◌≡◌, ℕ, List, [], ◌++◌, refl}
use Rattle.std.specs.Prelude.{codes}
use Rattle.std.specs.Fmt.{digits}
use Rattle.bcd_1401.specs.Graphic.{graphics}
use Rattle.autocoder_statements.specs.SourceLine.{columns_of}
use Rattle.autocoder_statements.specs.Mnemonic.{instructions, assembler_operations}
use Rattle.autocoder_statements.specs.declared.language.Language.TheVariants.{Plain}
use Rattle.autocoder_symbols.specs.Reading.{lines_in}
use Rattle.autocoder_listing.specs.CrossReference.{reference_line, references_text}
use Rattle.autocoder_listing.specs.Listing.{address_text}
use Rattle.autocoder_listing.specs.SymbolTable.{length_text, symbol_line, symbols_text}

-- the symbol table of a source, with all tables open
symbols_of : List ℕ → List ℕ
unfolding columns_of instructions assembler_operations graphics address_text length_text symbol_line digits
symbols_of source = symbols_text (lines_in Plain source)

-- its cross-reference
references_of : List ℕ → List ℕ
unfolding columns_of instructions assembler_operations graphics reference_line digits
references_of source = references_text (lines_in Plain source)

-- areas with two fields, a value, and an instruction that names itself and one label twice
source : List ℕ
source =
    codes "               ORG  500\n     REC       DA   2X4\n     KEY            3,4\n     ALL            1,4\n"
    ++ codes "     * KEY IS NO USE IN A COMMENT\n     OFFSET    EQU  REC+1\n     SPACE     DS   12\n"
    ++ codes "     START     MLC  KEY,KEY\n               MLC  @KEY@,SPACE-3\n               B    START+X1\n"
    ++ codes "               EX   OFFSET\n               END  START\n"

-- a label of an area names all areas, one of a field its last place in the first of them, and EQU a value
symbols : List ℕ
symbols =
    codes "REC    00500 00008 0002\n" ++ codes "KEY    00503 00002 0003\n" ++ codes "ALL    00503 00004 0004\n"
    ++ codes "OFFSET 00501       0006\n"
    ++ codes "SPACE  00519 00012 0007\n"
    ++ codes "START  00520 00007 0008\n"

symbols_of_areas : symbols_of source ≡ symbols
unfolding symbols_of source symbols
symbols_of_areas = refl

-- a line that names a label in both operands is there once; a literal and a comment name none
references : List ℕ
references =
    codes "REC    0002 0006\n" ++ codes "KEY    0003 0008\n" ++ codes "ALL    0004\n" ++ codes "OFFSET 0006 0011\n"
    ++ codes "SPACE  0007 0009\n"
    ++ codes "START  0008 0010 0012\n"

references_of_areas : references_of source ≡ references
unfolding references_of source references
references_of_areas = refl

-- a source without labels has an empty table
no_symbols : symbols_of (codes "               END  0\n") ≡ []
unfolding symbols_of
no_symbols = refl

-- Sources with more than one fault, and what is told of them, worked out by hand.
use Rattle.std.proofs.Common.{◌≡◌, ℕ, List, [], ◌∷◌, ◌++◌, refl}
use Rattle.std.specs.Prelude.{codes}
use Rattle.bcd_1401.specs.Graphic.{graphics}
use Rattle.autocoder_statements.specs.SourceLine.{columns_of}
use Rattle.autocoder_statements.specs.Mnemonic.{instructions, assembler_operations}
use Rattle.autocoder_statements.specs.declared.language.Language.TheVariants.{Plain}
use Rattle.autocoder_symbols.specs.Reading.{lines_in}
use Rattle.autocoder_symbols.specs.declared.fault.AsmFault.{AsmFault}
use Rattle.autocoder_symbols.specs.declared.fault.AsmKind.TheVariants as kinds
use Rattle.autocoder_1401.specs.AllFaults.{all_faults}

-- all faults of a source in 4,000 places, with all tables open
told_of : List ℕ → List AsmFault
unfolding columns_of instructions assembler_operations graphics
told_of source = all_faults Plain 4000 (lines_in Plain source)

-- the field below a DA that can't be read only follows from it
lost_areas : told_of (codes "     REC       DA   2Y4\n     KEY            3,4\n               END  0\n")
    ≡ record { line = 1; kind = kinds.Operand } ∷ []
unfolding told_of
lost_areas = refl

-- LATE is undefined since END is too early, and is told if it is the first fault; of what follows END, the first
-- line is
early : List ℕ
early =
    codes "     A         H    LATE\n               H    LATE\n               END  A\n"
    ++ codes "     LATE      H\n               H\n"

early_end : told_of early
    ≡ record { line = 1; kind = kinds.Undefined } ∷ record { line = 4; kind = kinds.AfterEnd } ∷ []
unfolding told_of early
early_end = refl

-- a line whose operation isn't known may have been END
lost_end : told_of (codes "               H\n               ENB  0\n")
    ≡ record { line = 2; kind = kinds.Operation } ∷ []
unfolding told_of
lost_end = refl

-- of what isn't in core the first line is told
outside : told_of (codes "               ORG  4000\n               H\n               H\n               END  0\n")
    ≡ record { line = 2; kind = kinds.OutOfCore } ∷ []
unfolding told_of
outside = refl

-- What is wrong with a source, and in which columns, worked out by hand.
use Rattle.std.proofs.Common.{◌≡◌, ℕ, List, [], ◌∷◌, Some, refl}
use Rattle.std.specs.Prelude.{codes}
use Rattle.bcd_1401.specs.Graphic.{graphics}
use Rattle.autocoder_statements.specs.Flaw.{stretch}
use Rattle.autocoder_statements.specs.Mnemonic.{instructions, assembler_operations}
use Rattle.autocoder_statements.specs.SourceLine.{columns_of, lines_of}
use Rattle.autocoder_statements.specs.declared.language.Language.TheVariants.{Plain}
use Rattle.autocoder_symbols.specs.declared.fault.AsmKind.{AsmKind}
use Rattle.autocoder_symbols.specs.declared.fault.AsmKind.TheVariants as kinds
use Rattle.autocoder_diagnostics.specs.declared.explanation.Cause.{Cause}
use Rattle.autocoder_diagnostics.specs.declared.explanation.Cause.TheVariants as causes
use Rattle.autocoder_diagnostics.specs.declared.explanation.Explanation.{Explanation}
use Rattle.autocoder_1401.specs.Explaining.{all_explained}

-- the faults of a source in 4,000 places, each with what is wrong, with all tables open
wrong_in : List ℕ → List Explanation
unfolding columns_of instructions assembler_operations graphics
wrong_in source = all_explained Plain 4000 (lines_of source)

wrong : ℕ → AsmKind → ℕ → ℕ → Cause → Explanation
wrong line kind column length cause =
    record { fault = record { line = line; kind = kind }; columns = stretch column length; cause = cause }

a_good_source : wrong_in (codes "     A         H    A\n               END  A\n") ≡ []
unfolding wrong_in
a_good_source = refl

a_mnemonic_may_be_meant : wrong_in (codes "               ZAP  5\n               END  0\n")
    ≡ wrong 1 kinds.Operation 16 3 (causes.OperationUnknown (Some (codes "ZA   "))) ∷ []
unfolding wrong_in wrong
a_mnemonic_may_be_meant = refl

-- the second operand names no label, and nearly the one of its line
a_label_may_be_meant : wrong_in (codes "     BEGIN     MLC  BEGIN,BEGIM\n               END  0\n")
    ≡ wrong 1 kinds.Undefined 27 5 (causes.Undeclared (Some (record { text = codes "BEGIN " }))) ∷ []
unfolding wrong_in wrong
a_label_may_be_meant = refl

-- a small letter, here s, is no character of the machine
a_small_letter : wrong_in (codes "     start     H\n               END  0\n")
    ≡ wrong 1 kinds.Graphic 6 1 (causes.ForeignByte (Some 115)) ∷ []
unfolding wrong_in wrong
a_small_letter = refl

a_tab : wrong_in (codes "     A\tH\n               END  0\n")
    ≡ wrong 1 kinds.Graphic 7 1 (causes.ForeignByte (Some 9)) ∷ []
unfolding wrong_in wrong
a_tab = refl

an_operation_too_far_right : wrong_in (codes "                H\n               END  0\n")
    ≡ wrong 1 kinds.Operation 17 1 causes.OperationDisplaced ∷ []
unfolding wrong_in wrong
an_operation_too_far_right = refl

a_label_twice : wrong_in (codes "     A         H\n     A         H\n               END  0\n")
    ≡ wrong 2 kinds.DoubleLabel 6 1 (causes.DeclaredBefore 1) ∷ []
unfolding wrong_in wrong
a_label_twice = refl

a_field_past_its_area : wrong_in (codes "     REC       DA   2X4\n     KEY            3,5\n               END  0\n")
    ≡ wrong 2 kinds.Operand 23 1 causes.PastArea ∷ []
unfolding wrong_in wrong
a_field_past_its_area = refl

no_end : wrong_in (codes "               H\n") ≡ wrong 2 kinds.NoEnd 1 0 causes.NoEnd ∷ []
unfolding wrong_in wrong
no_end = refl

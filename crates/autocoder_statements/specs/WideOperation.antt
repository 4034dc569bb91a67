-- The assembler's own operations that the plain language hasn't: the mnemonic of each, what it asks for, and what is
-- wrong with its operands (Autocoder, "Assembler Control", C24-3258 and J24-1434; what is wrong own).
use Rattle.std.specs.Prelude.{ℕ, true, List, [], ◌∷◌, Option, None, Some, find, codes}
use Rattle.std.specs.List.{position_or_len}
use Rattle.std.specs.Option.{option_map}
use Rattle.std.specs.Str.{bytes_eq}
use Rattle.autocoder_statements.specs.Control.{size_in, suffix_in, chain_in}
use Rattle.autocoder_statements.specs.Heading.{names_autocoder}
use Rattle.autocoder_statements.specs.Operands.{operands_of}
use Rattle.autocoder_statements.specs.OperandsAtFault.{address_flaw, flaw_after, lone_flaw, origin_flaw, value_flaw}
use Rattle.autocoder_statements.specs.SourceLine.{is_blank}
use Rattle.autocoder_statements.specs.Statement.{one_address}
use Rattle.autocoder_statements.specs.WideConstant.{constant_of_address}
use Rattle.autocoder_statements.specs.WideOrigin.{literal_origin_in}
use Rattle.autocoder_statements.specs.declared.flaw.Flaw.{Flaw}
use Rattle.autocoder_statements.specs.declared.flaw.OperandFlaw.TheVariants as flaws
use Rattle.autocoder_statements.specs.declared.language.Language.TheVariants as languages
use Rattle.autocoder_statements.specs.declared.statement.Body.{Body}
use Rattle.autocoder_statements.specs.declared.statement.Body.TheVariants as bodies
use Rattle.autocoder_statements.specs.declared.wide_operation.WideOperation.{WideOperation}
use Rattle.autocoder_statements.specs.declared.wide_operation.WideOperation.TheVariants as own

-- the columns 16 to 20, and what they ask for of the assembler itself
abbrev pub AWideOwnRow : Type 0
AWideOwnRow = List ℕ × WideOperation

-- the mnemonics of the assembler's own operations that the plain language hasn't
unfoldable pub wide_operations : List AWideOwnRow
wide_operations =
    (codes "JOB  ", own.Heading) ∷
    (codes "ENT  ", own.Assembler) ∷
    (codes "CTL  ", own.Control) ∷
    (codes "SFX  ", own.Suffix) ∷
    (codes "XFR  ", own.Transfer) ∷
    (codes "CHAIN", own.Chain) ∷
    (codes "DSA  ", own.Address) ∷
    (codes "LTORG", own.LiteralOrigin) ∷ []

-- what these columns ask for of the assembler itself, beside what they ask for in the plain language
abbrev pub wide_operation_of : List ℕ → Option WideOperation
wide_operation_of columns =
    option_map (λ (row : AWideOwnRow). row.1) (find (λ (row : AWideOwnRow). bytes_eq row.0 columns) wide_operations)

-- what an operation of the assembler itself asks for
abbrev pub wide_body_with : WideOperation → List ℕ → Body
wide_body_with own.Heading columns = bodies.Heading true
wide_body_with own.Assembler columns = bodies.Heading (names_autocoder columns)
wide_body_with own.Control columns = bodies.Control (size_in columns)
wide_body_with own.Suffix columns = bodies.Suffix (suffix_in columns)
wide_body_with own.Transfer columns = bodies.Transfer (operands_of languages.Ibm one_address columns)
wide_body_with own.Chain columns = bodies.Chain (chain_in columns)
wide_body_with own.Address columns = bodies.AddressConstant (constant_of_address columns)
wide_body_with own.LiteralOrigin columns = bodies.LiteralOrigin (literal_origin_in columns)

-- what is wrong with the operands of an operation of the assembler itself: a heading says anything, ENT the name of
-- this assembler, and CTL its size in the second column
abbrev pub wide_flaw_with : WideOperation → List ℕ → Option Flaw
wide_flaw_with own.Heading columns = None
wide_flaw_with own.Assembler columns = Some (flaw_after 0 (position_or_len is_blank columns) flaws.NoAssembler)
wide_flaw_with own.Control columns = Some (flaw_after 1 1 flaws.NoSize)
wide_flaw_with own.Suffix columns = Some (lone_flaw flaws.NoSuffix 0 columns)
wide_flaw_with own.Transfer columns = Some (value_flaw languages.Ibm columns)
wide_flaw_with own.Chain columns = Some (lone_flaw flaws.NoTimes 0 columns)
wide_flaw_with own.Address columns = Some (address_flaw columns)
wide_flaw_with own.LiteralOrigin columns = Some (origin_flaw languages.Ibm columns)

-- What the operations that both languages have ask for in the wider one (Autocoder, "Declarative Operations",
-- "Assembler Control", C24-3258 and J24-1434).
use Rattle.std.specs.Prelude.{ℕ, true, false, List, Option, None, Some}
use Rattle.autocoder_statements.specs.Mnemonic.{operation_of}
use Rattle.autocoder_statements.specs.Numbers.{number_between}
use Rattle.autocoder_statements.specs.Operands.{lone_operand, operands_of}
use Rattle.autocoder_statements.specs.Statement.{most_places, one_address}
use Rattle.autocoder_statements.specs.Units.{wide_operands}
use Rattle.autocoder_statements.specs.WideAreas.{wide_areas_of, wide_span_of}
use Rattle.autocoder_statements.specs.WideConstant.{wide_constant}
use Rattle.autocoder_statements.specs.WideOrigin.{entry_in, equal_in, origin_in}
use Rattle.autocoder_statements.specs.declared.language.Language.TheVariants as languages
use Rattle.autocoder_statements.specs.declared.mnemonic.Operation.{Operation}
use Rattle.autocoder_statements.specs.declared.mnemonic.Operation.TheVariants as operations
use Rattle.autocoder_statements.specs.declared.statement.Body.{Body}
use Rattle.autocoder_statements.specs.declared.statement.Body.TheVariants as bodies
use Rattle.autocoder_statements.specs.declared.units.FirstOperand.TheVariants as firsts

-- what an operation with these columns for its operands asks for
abbrev pub shared_body_with : Operation → List ℕ → Body
shared_body_with (operations.Instruction instruction) columns =
    bodies.Instruction instruction (wide_operands firsts.Address instruction.form columns)
shared_body_with operations.MarkedConstant columns = wide_constant true columns
shared_body_with operations.Constant columns = wide_constant false columns
shared_body_with operations.Space columns = bodies.Space (number_between 1 most_places (lone_operand columns))
shared_body_with operations.Areas columns = bodies.Areas (wide_areas_of columns)
shared_body_with operations.Field columns = bodies.WideField (wide_span_of columns)
shared_body_with operations.Equate columns = bodies.WideEquate (equal_in columns)
shared_body_with operations.Origin columns = bodies.LabelledOrigin (origin_in columns)
shared_body_with operations.Execute columns = bodies.WideExecute (operands_of languages.Ibm one_address columns)
shared_body_with operations.End columns = bodies.WideEnd (entry_in columns)

abbrev pub shared_body_by : Option Operation → List ℕ → Body
shared_body_by None columns = bodies.Unknown
shared_body_by (Some operation) columns = shared_body_with operation columns

-- what columns 16 to 20 and columns 21 to 72 ask for
abbrev pub shared_body_of : List ℕ → List ℕ → Body
shared_body_of operation columns = shared_body_by (operation_of operation) columns

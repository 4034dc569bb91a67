-- The area literals that a line declares (Autocoder, "Area-Defining Literals", C24-3258 and J24-1434; on which lines
-- own).
use Rattle.std.specs.Prelude.{Bool, true, false, if◌then◌else◌, Option, None, Some}
use Rattle.std.specs.Option.{option_map}
use Rattle.autocoder_statements.specs.Description.{describe}
use Rattle.autocoder_statements.specs.declared.description.Contents.{Contents}
use Rattle.autocoder_statements.specs.declared.description.Contents.TheVariants as contents
use Rattle.autocoder_statements.specs.declared.label.Label.{Label}
use Rattle.autocoder_statements.specs.declared.literal.AreaLiteral.{AreaLiteral}
use Rattle.autocoder_statements.specs.declared.literal.Literal.{Literal}
use Rattle.autocoder_statements.specs.declared.literal.Literal.TheVariants as literals
use Rattle.autocoder_statements.specs.declared.operands.Operand.{Operand}
use Rattle.autocoder_statements.specs.declared.operands.Operand.TheVariants as operands
use Rattle.autocoder_statements.specs.declared.operands.OperandField.{OperandField}
use Rattle.autocoder_statements.specs.declared.operands.OperandField.TheVariants as fields
use Rattle.autocoder_statements.specs.declared.operands.Operands.{Operands}
use Rattle.autocoder_statements.specs.declared.statement.Body.{Body}
use Rattle.autocoder_statements.specs.declared.statement.Line.{Line}
use Rattle.autocoder_statements.specs.declared.statement.LineCheck.{LineCheck}
use Rattle.autocoder_statements.specs.declared.statement.LineCheck.TheVariants as bytes
use Rattle.autocoder_statements.specs.declared.statement.Statement.{Statement}

-- what the first address of an instruction declares, and what the second
abbrev pub DeclaredAreas : Type 0
DeclaredAreas = Option AreaLiteral × Option AreaLiteral

abbrev pub no_areas : DeclaredAreas
no_areas = (None, None)

abbrev pub area_of_literal : Literal → Option AreaLiteral
area_of_literal (literals.Constant constant) = None
area_of_literal (literals.Address address) = None
area_of_literal (literals.Area area) = Some area

abbrev pub area_of_operand : Operand → Option AreaLiteral
area_of_operand (operands.Address address) = None
area_of_operand (operands.Literal literal) = area_of_literal literal
area_of_operand (operands.Unit unit) = None

abbrev pub area_at : OperandField → Option AreaLiteral
area_at fields.Absent = None
area_at fields.Malformed = None
area_at (fields.Operand operand) = area_of_operand operand

abbrev pub areas_in : Operands → DeclaredAreas
areas_in these = (area_at these.a, area_at these.b)

-- only an instruction has them
abbrev pub areas_of_contents : Contents → DeclaredAreas
areas_of_contents contents.Nothing = no_areas
areas_of_contents (contents.Instruction instruction of) = areas_in of
areas_of_contents (contents.MarkedConstant constant) = no_areas
areas_of_contents (contents.Constant constant) = no_areas
areas_of_contents (contents.Space places) = no_areas
areas_of_contents (contents.Areas areas) = no_areas
areas_of_contents (contents.Chain chain) = no_areas
areas_of_contents (contents.AddressConstant constant) = no_areas

abbrev pub areas_of_body : Body → DeclaredAreas
areas_of_body body = areas_of_contents (describe body).contents

abbrev pub areas_of_statement : Option Statement → DeclaredAreas
areas_of_statement None = no_areas
areas_of_statement (Some statement) = areas_of_body statement.body

abbrev pub has_foreign : LineCheck → Bool
has_foreign bytes.Good = false
has_foreign bytes.Long = false
has_foreign bytes.Foreign = true

-- the area literals of a line's instruction, whatever else is wrong with it, but if a byte can't stand in its column
abbrev pub areas_of_line : Line → DeclaredAreas
areas_of_line this = if has_foreign this.bytes then no_areas else areas_of_statement this.statement

-- the symbol that an area literal declares
abbrev pub label_of_area : Option AreaLiteral → Option Label
label_of_area area = option_map (λ (area : AreaLiteral). area.label) area

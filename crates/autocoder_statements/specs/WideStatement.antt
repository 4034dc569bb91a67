-- What the columns of a line say in the wider language (Autocoder, "Coding Sheet", "Operation"; that a place in the columns
-- for a label is the last of a constant from memory).
use Rattle.std.specs.Prelude.{ℕ, if◌then◌else◌, List, Option, None, Some, codes}
use Rattle.std.specs.Str.{bytes_eq}
use Rattle.autocoder_statements.specs.Heading.{is_wide_comment, wide_bytes_with}
use Rattle.autocoder_statements.specs.Label.{label_in, place_in}
use Rattle.autocoder_statements.specs.SourceLine.{columns_in}
use Rattle.autocoder_statements.specs.Units.{wide_operands}
use Rattle.autocoder_statements.specs.WideBody.{shared_body_of}
use Rattle.autocoder_statements.specs.WideColumns.{is_constant_operation}
use Rattle.autocoder_statements.specs.WideConstant.{wide_constant_of}
use Rattle.autocoder_statements.specs.WideMnemonic.{AWideRow, form_by, wide_row_of}
use Rattle.autocoder_statements.specs.WideOperation.{wide_body_with, wide_operation_of}
use Rattle.autocoder_statements.specs.declared.label.LabelField.TheVariants as labels
use Rattle.autocoder_statements.specs.declared.language.Language.TheVariants as languages
use Rattle.autocoder_statements.specs.declared.statement.Body.{Body}
use Rattle.autocoder_statements.specs.declared.statement.Body.TheVariants as bodies
use Rattle.autocoder_statements.specs.declared.statement.Statement.{Statement}
use Rattle.autocoder_statements.specs.declared.statement.Line.{Line}
use Rattle.autocoder_statements.specs.declared.wide_operation.WideOperation.{WideOperation}

-- the instruction of a row
abbrev pub wide_instruction : AWideRow → List ℕ → Body
wide_instruction row columns =
    bodies.Instruction (record { operation = row.1; form = form_by row columns })
    (wide_operands row.2 (form_by row columns) columns)

-- what isn't in the wider tables is an operation of both languages, or none
abbrev pub instruction_or_else : Option AWideRow → List ℕ → List ℕ → Body
instruction_or_else None operation columns = shared_body_of operation columns
instruction_or_else (Some row) operation columns = wide_instruction row columns

abbrev pub wide_body_by : Option WideOperation → List ℕ → List ℕ → Body
wide_body_by None operation columns = instruction_or_else (wide_row_of operation) operation columns
wide_body_by (Some known) operation columns = wide_body_with known columns

-- what columns 16 to 20 and columns 21 to 72 ask for
abbrev pub wide_body_of : List ℕ → List ℕ → Body
wide_body_of operation columns = wide_body_by (wide_operation_of operation) operation columns

-- the place that a DCW or DC has in the columns for a label
abbrev pub constant_place : List ℕ → Option ℕ
constant_place columns =
    if is_constant_operation (columns_in 16 20 columns) then place_in (columns_in 6 15 columns) else None

-- what a line says that is no comment: a constant may end at a place of its own, and has no label then
abbrev pub wide_statement_by : Option ℕ → List ℕ → Statement
wide_statement_by None columns =
    record {
      label = label_in languages.Ibm (columns_in 6 15 columns);
      body = wide_body_of (columns_in 16 20 columns) (columns_in 21 72 columns);
    }
wide_statement_by (Some last) columns =
    record {
      label = labels.Absent;
      body = bodies.PlacedConstant (record {
        last = last;
        is_marked = bytes_eq (columns_in 16 20 columns) (codes "DCW  ");
        constant = wide_constant_of (columns_in 21 72 columns);
      });
    }

abbrev pub wide_statement_of : List ℕ → Statement
wide_statement_of columns = wide_statement_by (constant_place columns) columns

-- what a line with these columns says
unfoldable pub wide_line_with : ℕ → List ℕ → Line
wide_line_with len columns =
    record {
      bytes = wide_bytes_with len columns;
      statement = if is_wide_comment columns then None
          else Some (wide_statement_of columns);
    }

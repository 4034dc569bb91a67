-- Literals in few bytes (own).
use Rattle.std.specs.Prelude.{◌++◌, drop, replicate}
use Rattle.autocoder_statements.specs.declared.constant.Constant.TheVariants as constants
use Rattle.autocoder_statements.specs.declared.constant.Text.{Text}
use Rattle.autocoder_statements.specs.declared.literal.Literal.{Literal}
use Rattle.autocoder_statements.specs.declared.literal.Literal.TheVariants as literals
use Rattle.autocoder_placing.specs.declared.kept_literal.Form.{Form}
use Rattle.autocoder_placing.specs.declared.kept_literal.Form.TheVariants as form
use Rattle.autocoder_placing.specs.declared.kept_literal.ShortText.{ShortText}

-- a short text, filled up with blanks
abbrev pub text_in : ShortText → Text
text_in short = record { bytes = short.bytes ++ drop 14 (replicate 50 32); len = short.len }

-- the literal in a form
abbrev pub literal_in : Form → Literal
literal_in (form.Text short) = literals.Constant (constants.Text (text_in short))
literal_in (form.Number short) = literals.Constant (constants.Number (text_in short))
literal_in (form.Plus short) = literals.Constant (constants.Plus (text_in short))
literal_in (form.Minus short) = literals.Constant (constants.Minus (text_in short))
literal_in (form.Blanks count) = literals.Constant (constants.Blanks count)
literal_in (form.Address literal) = literals.Address literal
literal_in (form.Area literal) = literals.Area literal
literal_in (form.Long literal) = literal.value

-- What a line says in a language (Autocoder, C24-3258 and J24-1434, for the wider one; that both agree own).
use Rattle.std.specs.List.{list_all}
use Rattle.std.specs.Prelude.{ℕ, Bool, true, false, not, ◌&&◌, if◌then◌else◌, List, length, Option, None, Some}
use Rattle.autocoder_statements.specs.Description.{describe}
use Rattle.autocoder_statements.specs.SourceLine.{columns_in, columns_of, is_comment, lines_of}
use Rattle.autocoder_statements.specs.Statement.{line_of, line_with, has_bad_label, has_bad_operands, lacks_field_label}
use Rattle.autocoder_statements.specs.WideColumns.{capitals, is_constant_operation, plus_signs}
use Rattle.autocoder_statements.specs.WideConstant.{has_cut_text}
use Rattle.autocoder_statements.specs.WideStatement.{wide_line_with}
use Rattle.autocoder_statements.specs.declared.language.Language.{Language}
use Rattle.autocoder_statements.specs.declared.language.Language.TheVariants as languages
use Rattle.autocoder_statements.specs.declared.statement.LineCheck.{LineCheck}
use Rattle.autocoder_statements.specs.declared.statement.LineCheck.TheVariants as bytes
use Rattle.autocoder_statements.specs.declared.statement.Statement.{Statement}
use Rattle.autocoder_statements.specs.declared.statement.Line.{Line}

abbrev pub are_good : LineCheck → Bool
are_good bytes.Good = true
are_good bytes.Long = false
are_good bytes.Foreign = false

-- a comment, or a statement with a label, an operation and operands as it asks, whatever the other lines are; a field
-- has a label
abbrev pub is_sound_statement : Option Statement → Bool
is_sound_statement None = true
is_sound_statement (Some statement) =
    not (has_bad_label statement) && not (lacks_field_label statement) && (describe statement.body).is_known
    && not (has_bad_operands statement.body)

-- a line with which nothing is wrong by itself
abbrev pub is_sound : Line → Bool
is_sound this = are_good this.bytes && is_sound_statement this.statement

-- a constant whose text the plain language ends before another at sign of the line
abbrev pub has_cut_constant : List ℕ → Bool
has_cut_constant columns =
    not (is_comment columns) && is_constant_operation (columns_in 16 20 columns)
    && has_cut_text (columns_in 21 72 columns)

-- columns with which nothing is wrong in the plain language, and no text ends before another at sign
abbrev pub stays_plain : ℕ → List ℕ → Bool
stays_plain len columns = is_sound (line_with len columns) && not (has_cut_constant columns)

-- columns with capitals say what they say in the plain language, if they stay plain, and else what they say in the
-- wider one
unfoldable pub wider_line : ℕ → List ℕ → Line
wider_line len columns =
    if stays_plain len columns then line_with len columns else wide_line_with len (plus_signs columns)

-- what a line says by itself in a language
abbrev pub line_in : Language → List ℕ → Line
line_in languages.Plain line = line_of line
line_in languages.Ibm line = wider_line (length line) (capitals (columns_of line))

-- no text of a constant ends before another at sign of its line, in this line and in a source
abbrev pub cuts_nothing : List ℕ → Bool
cuts_nothing line = not (has_cut_constant (columns_of line))

abbrev pub cuts_no_text : List ℕ → Bool
cuts_no_text source = list_all cuts_nothing (lines_of source)

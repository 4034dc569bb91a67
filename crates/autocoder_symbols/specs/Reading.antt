-- What a source says, line by line.
use Rattle.std.specs.Prelude.{ℕ, List}
use Rattle.autocoder_statements.specs.SourceLine.{lines_of}
use Rattle.autocoder_statements.specs.Context.{lines_said}
use Rattle.autocoder_statements.specs.declared.language.Language.{Language}
use Rattle.autocoder_statements.specs.declared.statement.Line.{Line}

-- what the lines of a source in this language say, each with its neighbours
abbrev pub lines_in : Language → List ℕ → List Line
lines_in language source = lines_said language (lines_of source)

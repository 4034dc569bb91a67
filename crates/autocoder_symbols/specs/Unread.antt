-- What is held of a line that says something: where it begins in its source, and what the lines above it say of it. The
-- line is read again by that.
use Rattle.std.specs.Prelude.{ℕ, zero, suc, List, [], drop, map, Option, None, Some, slice_index_or}
use Rattle.autocoder_statements.specs.Context.{in_context, with_registers}
use Rattle.autocoder_statements.specs.Language.{line_in}
use Rattle.autocoder_statements.specs.SourceLine.{lines_of}
use Rattle.autocoder_statements.specs.Statement.{line_of}
use Rattle.autocoder_statements.specs.declared.context.Context.{Context}
use Rattle.autocoder_statements.specs.declared.language.Language.{Language}
use Rattle.autocoder_statements.specs.declared.language.Language.TheVariants as languages
use Rattle.autocoder_statements.specs.declared.statement.Line.{Line}
use Rattle.autocoder_statements.specs.declared.symbols.Registers.{Registers}
use Rattle.autocoder_symbols.specs.declared.unread.Unread.{Unread}

-- the first line of a source, empty if it has none
abbrev pub first_line : List ℕ → List ℕ
first_line source = slice_index_or (lines_of source) 0 []

-- a graphic, or nothing
abbrev pub graphic_or_none : ℕ → Option ℕ
graphic_or_none zero = None
graphic_or_none (suc n) = Some (suc n)

-- what the lines above say
abbrev pub context_of : Unread → Context
context_of unread =
    record {
      suffix = graphic_or_none unread.suffix;
      is_controlled = unread.is_controlled;
      above = graphic_or_none unread.above;
    }

-- what a line says in a language, with X1 to X3 as labels or not, below others
abbrev pub line_below : Language → Registers → Context → List ℕ → Line
line_below languages.Plain registers context text = line_of text
line_below languages.Ibm registers context text = with_registers registers (in_context context (line_in languages.Ibm text))

-- what a line of a source says, read again
abbrev pub read_again : Language → Registers → List ℕ → Unread → Line
read_again language registers source unread =
    line_below language registers (context_of unread) (first_line (drop unread.start source))

abbrev pub all_again : Language → Registers → List ℕ → List Unread → List Line
all_again language registers source unread = map (read_again language registers source) unread

-- A line with its symbols as a rule reads them.
use Rattle.std.specs.Option.{option_map}
use Rattle.autocoder_statements.specs.Description.{body_under}
use Rattle.autocoder_statements.specs.Symbols.{label_under}
use Rattle.autocoder_statements.specs.declared.statement.Line.{Line}
use Rattle.autocoder_statements.specs.declared.statement.Statement.{Statement}
use Rattle.autocoder_statements.specs.declared.symbols.SymbolRule.{SymbolRule}

abbrev pub statement_under : SymbolRule → Statement → Statement
statement_under rule this = record { label = label_under rule this.label; body = body_under rule this.body }

-- what a line says with its symbols under a rule
abbrev pub line_under : SymbolRule → Line → Line
line_under rule this = record { bytes = this.bytes; statement = option_map (statement_under rule) this.statement }

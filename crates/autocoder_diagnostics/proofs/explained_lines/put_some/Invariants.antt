-- What is explained, with what is explained of the lines that are left, is what is explained of all lines.
use Rattle.std.proofs.Common.{◌≡◌, ◌+◌, ◌++◌, drop, length}
use Rattle.autocoder_statements.specs.SourceLine.{lines_of}
use Rattle.autocoder_symbols.specs.View.{symbols_view}
use Rattle.autocoder_diagnostics.specs.Declarations.{anywhere_of}
use Rattle.autocoder_diagnostics.specs.Explanation.{explained_beyond, explained_from}
use Rattle.autocoder_diagnostics.proofs.explained_lines.put_some.Given as goal

abbrev pub invariant-loop-i : goal.invariant-loop-i
invariant-loop-i l = record {
  explained : l.explanations.items
      ++ explained_from l.language (symbols_view l.this.symbols) (anywhere_of l.this) l.lines l.before
      (drop l.i l.lines) (lines_of l.rest)
      ≡ l.initial.explanations.items
      ++ explained_beyond l.language (symbols_view l.this.symbols) (anywhere_of l.this) l.lines l.reached;
  number : l.before.at.number ≡ l.i + 1;
  left : length (drop l.i l.lines) ≡ length (lines_of l.rest);
}

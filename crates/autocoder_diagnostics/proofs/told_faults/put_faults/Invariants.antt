-- What is told, with what is told of the lines that are left, is what is told of all lines.
use Rattle.std.proofs.Common.{◌≡◌, ◌+◌, ◌++◌, drop}
use Rattle.autocoder_symbols.specs.View.{symbols_view}
use Rattle.autocoder_diagnostics.specs.Declarations.{anywhere_of}
use Rattle.autocoder_diagnostics.specs.ToldFaults.{faults_from}
use Rattle.autocoder_diagnostics.specs.OwnFault.{nothing_before}
use Rattle.autocoder_diagnostics.proofs.told_faults.put_faults.Given as goal

abbrev pub invariant-loop-i : goal.invariant-loop-i
invariant-loop-i l = record {
  told : l.faults.items
      ++ faults_from (symbols_view l.this.symbols) (anywhere_of l.this) l.before (drop l.i l.lines)
      ≡ l.initial.faults.items
      ++ faults_from (symbols_view l.this.symbols) (anywhere_of l.this) nothing_before l.lines;
  number : l.before.at.number ≡ l.i + 1;
}

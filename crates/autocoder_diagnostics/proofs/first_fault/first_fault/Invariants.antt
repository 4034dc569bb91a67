-- What the lines that are left say is what all lines say; those before are clean.
use Rattle.std.proofs.Common.{◌≡◌, ◌≤◌, drop, length}
use Rattle.autocoder_symbols.specs.View.{symbols_view}
use Rattle.autocoder_diagnostics.specs.FirstFault.{first_place, place_at, first_fault_from, AreClean}
use Rattle.autocoder_diagnostics.proofs.first_fault.first_fault.Given as goal

abbrev pub invariant-loop-i : goal.invariant-loop-i
invariant-loop-i l = record {
  value : first_fault_from (symbols_view l.symbols) l.at (drop l.i l.lines)
      ≡ first_fault_from (symbols_view l.symbols) first_place l.lines;
  place : l.at ≡ place_at l.lines l.i;
  within : l.i ≤ length l.lines;
  clean : AreClean (symbols_view l.symbols) l.lines l.i;
}

-- The symbols so far, with those of the lines that are left, are those of all lines.
use Rattle.std.proofs.Common.{◌≡◌, ◌+◌, ◌++◌, drop}
use Rattle.autocoder_placing.specs.View.{places_of}
use Rattle.autocoder_listing.specs.SymbolTable.{symbols_from}
use Rattle.autocoder_listing.proofs.symbol_table.put_all_symbols.Given as goal

abbrev pub invariant-loop-i : goal.invariant-loop-i
invariant-loop-i l =
    l.symbols.items ++ symbols_from (places_of l.all) (places_of l.so_far) (l.i + 1) (drop l.i l.lines)
    ≡ l.initial.symbols.items ++ symbols_from (places_of l.all) (places_of l.initial.so_far) 1 l.lines

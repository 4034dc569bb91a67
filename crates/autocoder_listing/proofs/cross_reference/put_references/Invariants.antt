-- The lines so far, with those of the symbols that are left, are those of all symbols.
use Rattle.std.proofs.Common.{drop}
use Rattle.std.specs.List.{flat_map}
use Rattle.bytes_text.specs.Written.{AddsBut}
use Rattle.autocoder_listing.specs.CrossReference.{reference_line}
use Rattle.autocoder_listing.specs.View.{lines_naming}
use Rattle.autocoder_listing.proofs.cross_reference.put_references.Given as goal

abbrev pub invariant-loop-symbol : goal.invariant-loop-symbol
invariant-loop-symbol l =
    AddsBut l.initial.text l.text (flat_map (reference_line (lines_naming l.uses)) (drop l.symbol-index l.symbols))
    (flat_map (reference_line (lines_naming l.uses)) l.symbols)

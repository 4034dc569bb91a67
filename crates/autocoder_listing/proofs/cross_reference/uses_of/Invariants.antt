-- The uses so far, with those in the lines that are left, are those in all lines.
use Rattle.std.proofs.Common.{◌≡◌, ◌+◌, ◌++◌, drop}
use Rattle.autocoder_statements.specs.declared.label.Label.{Label}
use Rattle.autocoder_listing.specs.CrossReference.{uses_from, uses_of}
use Rattle.autocoder_listing.specs.View.{lines_naming}
use Rattle.autocoder_listing.proofs.cross_reference.uses_of.Given as goal

abbrev pub invariant-loop-i : goal.invariant-loop-i
invariant-loop-i l =
    (label : Label) → lines_naming l.uses label ++ uses_from (l.i + 1) (drop l.i l.lines) label
    ≡ uses_of l.lines label

-- What the links so far are, with those of the lines that are left, is what they are with those of all lines.
use Rattle.std.proofs.Common.{◌≡◌, ◌+◌, drop}
use Rattle.indexmap.specs.IndexMap.{get}
use Rattle.autocoder_symbols.specs.Chains.{links_from}
use Rattle.autocoder_symbols.specs.Symbols.{same_label, up_to_end}
use Rattle.autocoder_symbols.specs.View.{chains_view}
use Rattle.autocoder_symbols.proofs.chains.Chains.add_lines.Given as goal

abbrev pub invariant-loop-i : goal.invariant-loop-i
invariant-loop-i l =
    links_from (get same_label l.sites) (l.i + 1) (chains_view l.self) (up_to_end (drop l.i l.lines))
    ≡ links_from (get same_label l.sites) 1 (chains_view l.initial.self) (up_to_end l.lines)

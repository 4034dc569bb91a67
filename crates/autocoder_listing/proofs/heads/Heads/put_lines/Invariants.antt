-- What the lines so far have, with what those that are left have, is what all have.
use Rattle.std.proofs.Common.{◌≡◌, ◌+◌, ◌++◌, drop}
use Rattle.autocoder_placing.specs.View.{places_of}
use Rattle.autocoder_listing.specs.Heads.{heads_from, literals_from}
use Rattle.autocoder_listing.proofs.heads.Heads.put_lines.Given as goal

abbrev pub invariant-loop-i : goal.invariant-loop-i
invariant-loop-i l = record {
  heads : l.self.heads.items ++ heads_from (places_of l.all) (places_of l.so_far) (l.i + 1) (drop l.i l.lines)
      ≡ l.initial.self.heads.items ++ heads_from (places_of l.all) (places_of l.initial.so_far) 1 l.lines;
  literals : l.self.literals.items ++ literals_from (places_of l.all) (places_of l.so_far) (drop l.i l.lines)
      ≡ l.initial.self.literals.items ++ literals_from (places_of l.all) (places_of l.initial.so_far) l.lines;
}

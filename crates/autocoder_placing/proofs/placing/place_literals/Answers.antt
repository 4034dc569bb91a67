-- With one literal more.
use Rattle.std.proofs.Common.{◌≡◌, ◌+◌, [], ◌∷◌, ◌++◌, drop, map, negsuc, ◌+ℤ◌, rules}
use Rattle.autocoder_placing.specs.Literals.{key_of}
use Rattle.autocoder_placing.specs.Placement.{beyond_literal}
use Rattle.autocoder_placing.proofs.PlacingLemmas.{one_more_placed}
use Rattle.autocoder_placing.proofs.placing.place_literals.Goals as goal

pub loop-i-preserved : goal.loop-i-preserved
loop-i-preserved c =
    let from = c.loop-i.next in
    let key = c.from_literal-literal.result in
    let units = c.in_ok-units.units in
    let keys = drop c.loop-i.i (map key_of c.loop-i.literals.spellings) in
    let rest = drop (c.loop-i.i + 1) (map key_of c.place.new.self.spellings) in
    let first : keys ≡ key ∷ rest = search rules in
    let one : c.place.new.self.addresses ≡ c.loop-i.literals.addresses ++ units ∷ [] = search rules in
    let last : units ≡ beyond_literal from key +ℤ negsuc 0 = search rules in
    record {
      next = search rules;
      spellings = search rules;
      values = search rules;
      addresses = one_more_placed from keys rest key c.loop-i.literals.addresses c.place.new.self.addresses _ units _
          first (search rules) one last (search rules);
    }

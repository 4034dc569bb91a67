-- The characters so far, with those of the bytes that are left.
use Rattle.std.proofs.Common.{◌≡◌, ◌++◌, ℕ, List, drop}
use Rattle.std.specs.Option.{option_map}
use Rattle.operate_program.specs.Act.{chars_in}
use Rattle.operate_program.proofs.commands.chars_in.Given as goal

abbrev pub invariant-loop-graphic : goal.invariant-loop-graphic
invariant-loop-graphic l =
    option_map (λ (more : List ℕ). l.chars.items ++ more) (chars_in (drop l.graphic-index l.text)) ≡ chars_in l.text

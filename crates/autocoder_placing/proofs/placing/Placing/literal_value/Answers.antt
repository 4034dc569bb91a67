-- The value of a literal is its units place.
use Rattle.std.proofs.Common.{◌≡◌, ℤ, Option, unwrap_or, pos, sym, ap, ◌∙◌, rules}
use Rattle.autocoder_placing.specs.Cells.{literal_value}
use Rattle.autocoder_placing.specs.Literals.{key_of}
use Rattle.autocoder_placing.specs.View.{places_of}
use Rattle.autocoder_placing.proofs.UsedLemmas.{value_placed}
use Rattle.autocoder_placing.proofs.placing.Placing.literal_value.Goals as goal

pub returns-clause-value : goal.returns-clause-value
returns-clause-value c =
    let is : c.unwrap_or.result ≡ literal_value (places_of c.args.self.now) (key_of c.args.literal) =
    c.unwrap_or.ensures ∙ ap (λ (units : Option ℤ). unwrap_or units (pos 0)) c.in_ok-units.ensures.ok
    ∙ sym (value_placed c.args.self.now c.args.literal) in
    search rules

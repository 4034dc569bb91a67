-- The character of a graphic, or a blank.
use Rattle.std.proofs.Common.{ℕ, Option, ap, ◌∙◌}
use Rattle.std.specs.Prelude.{unwrap_or}
use Rattle.bcd_1401.specs.Collation.{order_of}
use Rattle.operate_program.proofs.comparison.order_of_byte.Goals as goal

pub returns : goal.returns
returns c =
    c.order.ensures.place
    ∙ ap order_of (c.unwrap_or.ensures ∙ ap (λ (char : Option ℕ). unwrap_or char 0) c.from_graphic.ensures)

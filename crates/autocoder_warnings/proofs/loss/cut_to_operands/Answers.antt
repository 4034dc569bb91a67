-- A shorter text is all kept.
use Rattle.std.proofs.Common.{ℕ, take, ap, ◌∙◌}
use Rattle.std.proofs.lemmas.List.{take_min}
use Rattle.autocoder_warnings.proofs.loss.cut_to_operands.Goals as goal

pub returns : goal.returns
returns c = ap (λ (n : ℕ). take n c.args.text.now) c.min.ensures ∙ take_min 52 c.args.text.now

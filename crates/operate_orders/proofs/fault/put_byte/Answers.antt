-- The pieces follow one another.
use Rattle.std.proofs.Common.{◌≡◌, ℕ, List, ◌++◌, ◌∙◌, ap, append_assoc}
use Rattle.std.specs.Prelude.{codes}
use Rattle.machine_notation.specs.Digits.{digits_in}
use Rattle.operate_orders.specs.FaultText.{byte_text}
use Rattle.operate_orders.proofs.fault.put_byte.Goals as goal

regrouped : (a b c d e f : List ℕ) → a ++ b ++ c ++ d ++ e ++ f ≡ a ++ (b ++ c ++ d ++ e ++ f)
regrouped a b c d e f = simp append_assoc

pub returns : goal.returns
unfolding byte_text
returns c =
    c.in_ok-extend_from_slice.ensures.items
    ∙ ap (λ (text : List ℕ). text ++ codes " is no character") (c.in_ok-put_named_digits-2.ensures.text
    ∙ ap (λ (text : List ℕ). text ++ codes " in column " ++ digits_in 1 c.args.column) c.in_ok-put_named_digits.ensures.text)
    ∙ regrouped c.args.text.now.items (codes "byte ") (digits_in 1 c.args.byte) (codes " in column ")
    (digits_in 1 c.args.column) (codes " is no character")

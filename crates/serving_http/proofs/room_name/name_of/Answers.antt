-- One character more is picked.
use Rattle.std.proofs.Common.{ℕ, ap, ◌∙◌, set, get_or, codes, arith}
use Rattle.std.proofs.lemmas.List.{get_or_default}
use Rattle.std.proofs.lemmas.List.Edits.{map_over_more}
use Rattle.serving_http.specs.Names.{character_of}
use Rattle.serving_http.proofs.room_name.name_of.Goals as goal

pub loop-digit-preserved : goal.loop-digit-preserved
loop-digit-preserved c =
    let items = c.loop-digit.digit-items in
    let at = c.loop-digit.digit-index in
    let picked = λ (n : ℕ). set items at (get_or (codes "0123456789ABCDEF") n 0) in
    let step = map_over_more character_of c.args.bytes items at (get_or items at 0) (omega arith) c.loop-digit.invariant
    (get_or_default items at 0 (get_or items at 0) (omega arith)) in
    ap picked c.from.ensures ∙ step

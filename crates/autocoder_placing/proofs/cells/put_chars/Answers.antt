-- One character more.
use Rattle.std.proofs.Common.{◌≡◌, ℕ, ◌+◌, ◌∷◌, ◌++◌, drop, map, sym, ap, ◌∙◌, arith}
use Rattle.std.proofs.lemmas.List.{at_drop_more}
use Rattle.autocoder_placing.specs.Cells.{plain}
use Rattle.autocoder_placing.proofs.CellsLemmas.{one_more}
use Rattle.autocoder_placing.proofs.cells.put_chars.Goals as goal

pub loop-char-preserved : goal.loop-char-preserved
loop-char-preserved c =
    let chars = c.args.chars.now in
    let i = c.loop-char.char-index in
    let char = c.char-item.result in
    let first : map plain (drop i chars) ≡ plain char ∷ map plain (drop (i + 1) chars) =
    at_drop_more (map plain) chars i char (omega (arith, c.loop-char-test.true))
    ∙ ap (λ (code : ℕ). plain code ∷ map plain (drop (i + 1) chars)) (sym c.char-item.is) in
    one_more (map plain) c.loop-char.out.items c.push.new.self.items (c.args.out.now.items ++ map plain chars)
    (drop i chars) (drop (i + 1) chars) (plain char) first c.loop-char.invariant c.in_ok-push.ensures.items

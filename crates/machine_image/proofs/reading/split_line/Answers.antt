-- The first part ends at the first line feed.
use Rattle.std.proofs.Common.{◌≡◌, ℕ, ◌+◌, ◌-◌, List, ◌∷◌, length, take, drop, sym, ap, ◌∙◌, arith, length-drop}
use Rattle.std.proofs.lemmas.List.{take_all}
use Rattle.machine_image.specs.Reading.{parts_of}
use Rattle.machine_image.proofs.LineLemmas.{parts_of-whole, parts_of-first}
use Rattle.machine_image.proofs.reading.split_line.Goals as goal

pub returns-in_err-end : goal.returns-in_err-end
returns-in_err-end c = rw c.from_residual.ensures (parts_of-whole c.args.text.now (sym c.in_err-end.ensures))

pub returns : goal.returns
returns c =
    let text : List ℕ = c.args.text.now in
    let end = c.in_ok-end.end in
    let first = parts_of-first text end (sym c.in_ok-end.ensures) in
    let rest : List ℕ = drop (end + 1) text in
    let all : take (length text - (end + 1)) rest
    ≡ rest = take_all (length text - (end + 1)) rest (omega (arith, length-drop (end + 1) text)) in (
      first.1 ∙ ap (λ (beyond : List ℕ). take end text
          ∷ parts_of beyond) (sym all),
      omega (arith, ap length all, length-drop (end + 1) text, first.0),
    )

-- All columns are read.
use Rattle.std.proofs.Common.{ℕ, List, ◌+◌, ap, arith}
use Rattle.core_1401.specs.Storage.{cell_at}
use Rattle.devices_1401.specs.declared.card.Card.{Card}
use Rattle.cpu_1401.proofs.CardsAndPrinterLemmas.{all_of}
use Rattle.cpu_1401.proofs.areas.card_at.Goals as goal

pub returns : goal.returns
returns c =
    ap (λ (columns : List ℕ). let card : Card = record { 0 = columns } in card)
    (all_of (λ i. (cell_at c.args.core.now (c.args.area + i)).char) 80 c.loop-i.columns c.loop-i.invariant.len
    (λ k within. c.loop-i.invariant.read k (omega arith)))

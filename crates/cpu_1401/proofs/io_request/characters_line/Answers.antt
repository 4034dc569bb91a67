-- All places of the print area are written.
use Rattle.std.proofs.Common.{◌+◌, arith}
use Rattle.core_1401.specs.Storage.{cell_at}
use Rattle.cpu_1401.proofs.CardsAndPrinterLemmas.{all_of}
use Rattle.cpu_1401.proofs.io_request.characters_line.Goals as goal

pub returns : goal.returns
returns c =
    all_of (λ i. (cell_at c.args.core.now (201 + i)).char) 132 c.loop-i.line c.loop-i.invariant.len
    (λ k within. c.loop-i.invariant.read k (omega arith))

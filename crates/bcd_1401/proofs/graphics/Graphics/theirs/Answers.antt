-- A byte that comes from this machine's chain and goes back is the same.
use Rattle.bcd_1401.proofs.GraphicsLemmas.{ours_again}
use Rattle.bcd_1401.proofs.graphics.Graphics.theirs.Goals as goal

pub returns-clause-back : goal.returns-clause-back
returns-clause-back c =
    rw (c.exchanged.ensures, c.bytes_there.ensures, c.bytes_here.ensures) (ours_again c.args.self c.args.byte)

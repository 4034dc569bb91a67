-- A byte that goes to this machine's chain and back is the same.
use Rattle.bcd_1401.proofs.GraphicsLemmas.{theirs_again}
use Rattle.bcd_1401.proofs.graphics.Graphics.ours.Goals as goal

pub returns-clause-back : goal.returns-clause-back
returns-clause-back c =
    rw (c.exchanged.ensures, c.bytes_there.ensures, c.bytes_here.ensures) (theirs_again c.args.self c.args.byte)

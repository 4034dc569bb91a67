-- There are none before.
use Rattle.std.proofs.Common.{[]}
use Rattle.program_arguments.proofs.MountLemmas.{mounted_none}
use Rattle.program_arguments.proofs.mounting.put_loaded.Goals as goal

pub returns-in-Some : goal.returns-in-Some
returns-in-Some c = rw c.in-Some.is (λ whole.
    let put = c.put_reel.ensures whole in
    (put.0, put.1 [] (mounted_none c.args.reels.now.items c.requires)))

-- Each call has one command fewer.
use Rattle.std.proofs.Common.{length}
use Rattle.operate_console.proofs.carrying.+carry_all.Given as goal

abbrev pub decreases-carry_all : goal.decreases-carry_all
decreases-carry_all g l = length l.commands.now

-- No read has failed so far.
use Rattle.std.proofs.Common.{◌≡◌, false}
use Rattle.serving_room.proofs.until_renewed.UntilRenewedSource.next_byte.Given as goal

abbrev pub invariant-loop : goal.invariant-loop
invariant-loop g l = l.self.failed ≡ false

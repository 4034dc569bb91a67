-- No word mark changes, so what is cached stays current.
use Rattle.std.proofs.Common.{rules}
use Rattle.cpu_1401.proofs.StorageLemmas.{char_stays}
use Rattle.cpu_1401.proofs.machine.Machine.put_char.Goals as goal

pub invariant_of-self : goal.invariant_of-self
invariant_of-self c = (
  c.self.invariant.0,
  c.self.invariant.1,
  c.self.invariant.2,
  search rules,
  rw (c.put_char.ensures, char_stays) c.self.invariant.4,
)

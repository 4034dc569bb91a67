-- Nothing is cached of the place.
use Rattle.std.proofs.Common.{rules, ◌∙◌, ap}
use Rattle.core_1401.specs.Storage.{Storage, with_mark}
use Rattle.cpu_1401.proofs.DecodeCacheLemmas.{current_put}
use Rattle.cpu_1401.proofs.machine.Machine.put.Goals as goal

pub invariant_of-self : goal.invariant_of-self
invariant_of-self c = (
  c.self.invariant.0,
  c.self.invariant.1,
  c.self.invariant.2,
  search rules,
  current_put c.self.inside.cache.entries c.forget_at.new.self.entries c.self.inside.core c.put_mark.new.self c.args.at c.args.cell.char
      c.args.cell.mark c.self.invariant.4 c.forget_at.ensures.part c.forget_at.ensures.apart
      (c.put_mark.ensures ∙ ap (λ (s : Storage). with_mark s c.args.at c.args.cell.mark) c.put_char.ensures),
)

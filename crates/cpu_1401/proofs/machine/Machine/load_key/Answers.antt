-- The read area was cleared, and its first place was marked.
use Rattle.std.proofs.Common.{rules, ◌+◌, ◌∙◌, ap, arith}
use Rattle.core_1401.specs.Storage.{Storage, cell_at}
use Rattle.cpu_1401.proofs.AreaLemmas.{first_marked, marks_beside}
use Rattle.cpu_1401.proofs.DecodeCacheLemmas.{current_apart}
use Rattle.cpu_1401.proofs.machine.Machine.load_key.Goals as goal

pub returns-clause-marks : goal.returns-clause-marks
returns-clause-marks c = λ i within.
    ap (λ (s : Storage). (cell_at s (1 + i)).mark) c.put_mark.ensures
    ∙ first_marked c.self.inside.core c.clear.new.self c.put_chars.new.core i c.clear.ensures.value
    (omega (arith, c.size-size.ensures.value, c.size-size.ensures.least))
    (omega (
      arith,
      c.size-size.ensures.value,
      c.size-size.ensures.least,
      c.clear.ensures.size,
      c.put_chars.ensures.size,
    ))
    c.put_chars.ensures.marks within

-- nothing is cached of the read area
pub invariant_of-self-2 : goal.invariant_of-self-2
invariant_of-self-2 c = (
  omega arith,
  c.self.invariant.1,
  c.self.invariant.2,
  search rules,
  current_apart c.self.inside.cache.entries c.forget_down.new.self.entries c.self.inside.core c.put_mark.new.self 1 80
      c.self.invariant.4 c.forget_down.ensures.part c.forget_down.ensures.apart
      (λ k beside. ap (λ (s : Storage). (cell_at s k).mark) c.put_mark.ensures
      ∙ marks_beside c.self.inside.core c.clear.new.self c.put_chars.new.core k c.clear.ensures.value
      c.put_chars.ensures.marks beside),
)

-- Nothing is cached of the places that were written.
use Rattle.std.proofs.Common.{◌∙◌, sym, subst}
use Rattle.cpu_1401.specs.DecodeCache.{CacheView, IsApart, IsCurrent, lowest_written}
use Rattle.fields_1401.specs.Places.{marks_of}
use Rattle.cpu_1401.proofs.DecodeCacheLemmas.{current_part, current_suppressed, unsuppressed}
use Rattle.cpu_1401.proofs.marking.suppress_there.Goals.{in-Some, in-None}
use Rattle.cpu_1401.proofs.marking.suppress_there.Goals as goal

pub returns-clause-current : goal.returns-clause-current
returns-clause-current c =
    let s = c.args.core.now in
    let t = c.suppress.new.core in
    elim c.match-field_len.branch [
      | in-Some w ↦ subst (λ (k : CacheView). IsCurrent k.entries (marks_of t)) (sym w.cache-is)
          (current_suppressed c.args.cache.now.entries w.forget_down.new.self.entries s t c.args.a c.args.b w.in-Some.n c.requires.current
          w.forget_down.ensures.part
          (subst (λ below. IsApart w.forget_down.new.self.entries (lowest_written c.args.b below) c.args.b)
          w.step_down.ensures.value w.forget_down.ensures.apart)
          c.requires.b w.in-Some.ensures.range c.suppress.ensures.outside
          (sym w.in-Some.ensures.value))
      | in-None w ↦ subst (λ (k : CacheView). IsCurrent k.entries (marks_of t)) (sym w.cache-is)
          (current_part c.args.cache.now.entries c.args.cache.now.entries s t c.requires.current (λ at entry cache. cache)
          (unsuppressed s t c.args.a c.args.b c.suppress.result (sym c.field_len.ensures.value ∙ w.in-None.is)
          c.suppress.ensures.outcome))
    ]

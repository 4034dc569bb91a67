-- Nothing is cached of the dividend's places.
use Rattle.std.proofs.Common.{◌∙◌, sym, subst}
use Rattle.cpu_1401.specs.DecodeCache.{CacheView, IsApart, IsCurrent, lowest_written}
use Rattle.fields_1401.specs.Places.{marks_of}
use Rattle.fields_1401.specs.Quotients.{dividend_at}
use Rattle.cpu_1401.proofs.DecodeCacheLemmas.{current_divided, current_part, undivided}
use Rattle.cpu_1401.proofs.marking.divide_there.Goals.{in-Some, in-None}
use Rattle.cpu_1401.proofs.marking.divide_there.Goals as goal

pub returns-clause-current : goal.returns-clause-current
returns-clause-current c =
    let s = c.args.core.now in
    let t = c.divide.new.core in
    elim c.match-dividend_len.branch [
      | in-Some w ↦ subst (λ (k : CacheView). IsCurrent k.entries (marks_of t)) (sym w.cache-is)
          (current_divided c.args.cache.now.entries w.forget_down.new.self.entries s t c.args.b w.in-Some.n
          c.requires.current w.forget_down.ensures.part
          (subst (λ below. IsApart w.forget_down.new.self.entries (lowest_written (dividend_at c.args.b w.in-Some.n) below)
          (dividend_at c.args.b w.in-Some.n)) w.step_down.ensures.value w.forget_down.ensures.apart)
          w.in-Some.ensures.some w.in-Some.ensures.range c.divide.ensures.marks (sym w.in-Some.ensures.value))
      | in-None w ↦ subst (λ (k : CacheView). IsCurrent k.entries (marks_of t)) (sym w.cache-is)
          (current_part c.args.cache.now.entries c.args.cache.now.entries s t c.requires.current (λ at entry cache. cache)
          (undivided s t c.args.a c.args.b c.divide.result (sym c.dividend_len.ensures.value ∙ w.in-None.is)
          c.divide.ensures.outcome))
    ]

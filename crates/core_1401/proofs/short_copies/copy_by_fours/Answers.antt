-- The first four and the last four are all of them.
use Rattle.std.proofs.Common.{ℕ, ◌+◌, ◌-◌, List, slice_index_or, inl, inr, arith, ap, ◌∙◌}
use Rattle.std.proofs.lemmas.Bool.{cases_lt}
use Rattle.core_1401.proofs.short_copies.copy_by_fours.Goals as goal

pub returns-clause-copied : goal.returns-clause-copied
returns-clause-copied c = λ i within.
    let old : List ℕ = c.args.chars.now in
    let new : List ℕ = c.write_part-2.new.chars in
    let first = c.read_part.ensures.count in
    let last = c.read_part-2.ensures.count in
    elim (cases_lt i (c.args.n - 4)) [
      | inl low ↦ c.write_part-2.ensures.below (c.args.to + i) (omega (arith, low))
          ∙ c.write_part.ensures.written i (omega (arith, low, first))
          ∙ c.read_part.ensures.read i (omega (arith, low, first))
      | inr high ↦
          let j : ℕ = i - (c.args.n - 4) in
          ap (λ (p : ℕ). slice_index_or new p 0) (omega (arith, high))
          ∙ c.write_part-2.ensures.written j (omega (arith, high, within, last))
          ∙ c.read_part-2.ensures.read j (omega (arith, high, within, last))
          ∙ ap (λ (p : ℕ). slice_index_or old p 0) (omega (arith, high))
    ]

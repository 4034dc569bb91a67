-- The first mark below either place ends the pair of fields.
use Rattle.std.proofs.Common.{arith}
use Rattle.core_1401.proofs.FieldLemmas.{ArePlaces, pair_last, pair_len_marked, pair_len_unmarked}
use Rattle.core_1401.proofs.SizeLemmas.{place_small}
use Rattle.core_1401.proofs.storage.Core.pair_len.Goals as goal
use Rattle.core_1401.proofs.storage.Core.pair_len.Goals.{else-distance-a-via-then-distance-a+else-distance-b}
use Rattle.core_1401.proofs.storage.Core.pair_len.Goals.{else-distance-a-via-else-distance-a}

pub returns-then-distance-b-clause-value : goal.returns-then-distance-b-clause-value
returns-then-distance-b-clause-value c =
    let at : ArePlaces c.args.self.now c.args.a c.args.b c.from-a.result c.from-b.result =
    record { is_a = c.from-a.ensures; is_b = c.from-b.ensures; a_in = c.requires.a_in; b_in = c.requires.b_in } in
    pair_len_marked c.self.inside.chars.items c.self.inside.words c.args.self.now c.args.a c.args.b c.from-a.result
    c.from-b.result c.first_pair-distance.result c.self.view_is at c.first_pair-distance.ensures.first
    (omega (arith, c.if-distance-a.true, c.if-distance-b.true))

pub returns-then-distance-b-clause-marked : goal.returns-then-distance-b-clause-marked
returns-then-distance-b-clause-marked c =
    let at : ArePlaces c.args.self.now c.args.a c.args.b c.from-a.result c.from-b.result =
    record { is_a = c.from-a.ensures; is_b = c.from-b.ensures; a_in = c.requires.a_in; b_in = c.requires.b_in } in
    pair_last c.self.inside.chars.items c.self.inside.words c.args.self.now c.args.a c.args.b c.from-a.result
    c.from-b.result c.first_pair-distance.result c.self.view_is at c.first_pair-distance.ensures.first
    (omega (arith, c.if-distance-a.true, c.if-distance-b.true, c.from-a.ensures, c.from-b.ensures))

pub returns-else-distance-a-clause-value : goal.returns-else-distance-a-clause-value
returns-else-distance-a-clause-value c =
    let at : ArePlaces c.args.self.now c.args.a c.args.b c.from-a.result c.from-b.result =
    record { is_a = c.from-a.ensures; is_b = c.from-b.ensures; a_in = c.requires.a_in; b_in = c.requires.b_in } in
    pair_len_unmarked c.self.inside.chars.items c.self.inside.words c.args.self.now c.args.a c.args.b c.from-a.result
    c.from-b.result c.first_pair-distance.result c.self.view_is at c.first_pair-distance.ensures.first
    (elim c.else-distance-a.branch [
      | else-distance-a-via-then-distance-a+else-distance-b w ↦ omega (arith, w.if-distance-b.false)
      | else-distance-a-via-else-distance-a w ↦ omega (arith, w.if-distance-a.false)
    ])

pub first_pair-distance-requires-clause-a_in : goal.first_pair-distance-requires-clause-a_in
first_pair-distance-requires-clause-a_in c = omega (
  arith,
  place_small c.self.inside.chars.items c.self.inside.words c.args.self.now c.args.a c.from-a.result c.self.view_is
      c.self.invariant.size c.from-a.ensures c.requires.a_in,
)

pub first_pair-distance-requires-clause-a_fits : goal.first_pair-distance-requires-clause-a_fits
first_pair-distance-requires-clause-a_fits c = omega (
  arith,
  place_small c.self.inside.chars.items c.self.inside.words c.args.self.now c.args.a c.from-a.result c.self.view_is
      c.self.invariant.size c.from-a.ensures c.requires.a_in,
)

pub first_pair-distance-requires-clause-b_in : goal.first_pair-distance-requires-clause-b_in
first_pair-distance-requires-clause-b_in c = omega (
  arith,
  place_small c.self.inside.chars.items c.self.inside.words c.args.self.now c.args.b c.from-b.result c.self.view_is
      c.self.invariant.size c.from-b.ensures c.requires.b_in,
)

pub first_pair-distance-requires-clause-b_fits : goal.first_pair-distance-requires-clause-b_fits
first_pair-distance-requires-clause-b_fits c = omega (
  arith,
  place_small c.self.inside.chars.items c.self.inside.words c.args.self.now c.args.b c.from-b.result c.self.view_is
      c.self.invariant.size c.from-b.ensures c.requires.b_in,
)

pub overflow_cast-result : goal.overflow_cast-result
overflow_cast-result c = omega (
  arith,
  place_small c.self.inside.chars.items c.self.inside.words c.args.self.now c.args.a c.from-a.result c.self.view_is
      c.self.invariant.size c.from-a.ensures c.requires.a_in,
  c.if-distance-a.true,
)

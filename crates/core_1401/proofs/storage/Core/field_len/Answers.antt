-- The first mark below the place ends the field.
use Rattle.std.proofs.Common.{arith}
use Rattle.core_1401.proofs.FieldLemmas.{field_len_marked, field_len_unmarked}
use Rattle.core_1401.proofs.SizeLemmas.{place_small}
use Rattle.core_1401.proofs.storage.Core.field_len.Goals as goal

pub returns-then-distance-from-clause-value : goal.returns-then-distance-from-clause-value
returns-then-distance-from-clause-value c =
    field_len_marked c.self.inside.chars.items c.self.inside.words c.args.self.now c.args.at c.from.result
    c.first_mark-distance.result c.self.view_is c.from.ensures c.requires c.first_mark-distance.ensures.first
    (omega (arith, c.if-distance-from.true, c.from-2.ensures))

pub returns-else-distance-from-clause-value : goal.returns-else-distance-from-clause-value
returns-else-distance-from-clause-value c =
    field_len_unmarked c.self.inside.chars.items c.self.inside.words c.args.self.now c.args.at c.from.result
    c.first_mark-distance.result c.self.view_is c.from.ensures c.requires c.first_mark-distance.ensures.first
    (omega (arith, c.if-distance-from.false, c.from-2.ensures))

pub first_mark-distance-requires-clause-within : goal.first_mark-distance-requires-clause-within
first_mark-distance-requires-clause-within c = omega (
  arith,
  place_small c.self.inside.chars.items c.self.inside.words c.args.self.now c.args.at c.from.result c.self.view_is
      c.self.invariant.size c.from.ensures c.requires,
)

pub first_mark-distance-requires-clause-fits : goal.first_mark-distance-requires-clause-fits
first_mark-distance-requires-clause-fits c = omega (
  arith,
  place_small c.self.inside.chars.items c.self.inside.words c.args.self.now c.args.at c.from.result c.self.view_is
      c.self.invariant.size c.from.ensures c.requires,
)

pub overflow_cast-result : goal.overflow_cast-result
overflow_cast-result c = omega (
  arith,
  place_small c.self.inside.chars.items c.self.inside.words c.args.self.now c.args.at c.from.result c.self.view_is
      c.self.invariant.size c.from.ensures c.requires,
  c.from.ensures,
  c.from-2.ensures,
  c.if-distance-from.true,
)

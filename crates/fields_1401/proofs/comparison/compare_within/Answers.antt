-- The pairs that there are decide.
use Rattle.std.proofs.Common.{◌||◌, rules}
use Rattle.fields_1401.specs.Compare.{comparison_at}
use Rattle.fields_1401.proofs.CompareLemmas.{comparison_is, low_or_high, not_both, tells}
use Rattle.fields_1401.proofs.comparison.compare_within.Goals as goal

pub returns-in_default : goal.returns-in_default
unfolding comparison_at
returns-in_default c = search rules

pub returns-clause-value : goal.returns-clause-value
returns-clause-value c =
    comparison_is c.args.core.now c.args.a c.args.b c.in-Some.n c.below_field.result c.below_field-2.result
    c.highest_difference-difference.result c.ends_first-ends_first.result c.is_some.result c.is_higher.result
    c.registers.result c.in-Some.ensures.value c.highest_difference-difference.ensures.value
    c.ends_first-ends_first.ensures c.is_some.ensures c.is_higher.ensures.value c.below_field.ensures.value
    c.below_field-2.ensures.value c.registers.ensures

pub returns-clause-one : goal.returns-clause-one
returns-clause-one c = record {
  unequal =
      low_or_high c.args.core.now c.args.a c.args.b c.highest_difference-difference.result c.is_some.result
      c.ends_first-ends_first.result c.is_higher.result c.is_some.ensures c.is_higher.ensures.value;
  one = not_both (c.is_some.result || c.ends_first-ends_first.result) (c.ends_first-ends_first.result || c.is_higher.result);
}

pub returns-clause-dictionary : goal.returns-clause-dictionary
returns-clause-dictionary c =
    tells c.args.core.now c.args.a c.args.b c.in-Some.n c.highest_difference-difference.result
    c.ends_first-ends_first.result c.is_some.result c.is_higher.result c.registers.result c.requires.places.0
    c.requires.places.1 c.in-Some.ensures.bounds.1 c.in-Some.ensures.bounds.2 c.in-Some.ensures.value
    c.highest_difference-difference.ensures.value c.ends_first-ends_first.ensures c.is_some.ensures
    c.is_higher.ensures.value c.is_higher.ensures.apart

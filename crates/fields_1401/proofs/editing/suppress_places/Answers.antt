-- Each step suppresses one place more.
use Rattle.std.proofs.Common.{◌≡◌, ◌+◌, length, refl, ap, ◌∙◌, arith}
use Rattle.std.proofs.lemmas.List.{length-set}
use Rattle.fields_1401.proofs.EditLemmas.{none_suppressed, one_suppressed}
use Rattle.fields_1401.proofs.LendingLemmas.{length-chars_of, length-with_all_chars}
use Rattle.fields_1401.proofs.editing.suppress_places.Goals as goal

pub loop-i-init : goal.loop-i-init
loop-i-init c =
    let s = c.args.core.now in
    record {
      size = ap length c.chars_mut-chars.ensures.value ∙ length-chars_of s;
      so_far = none_suppressed s c.chars_mut-chars.result.now c.args.word.b c.args.word.len
          c.chars_mut-chars.ensures.value;
    }

pub loop-i-preserved : goal.loop-i-preserved
loop-i-preserved c =
    let o = c.args.word in
    let before = c.loop-i.invariant in
    record {
      size = length-set _ _ _ ∙ before.size;
      so_far = one_suppressed c.args.core.now c.loop-i.chars _ o.b o.len c.loop-i.i
          (c.from-low.result + c.loop-i.i) c.index-chars-low.result c.without_zero.result c.requires.b
          (omega arith) o.b_above before.size (omega (arith, c.from-low.ensures)) c.index-chars-low.is
          c.without_zero.ensures refl before.so_far;
    }

pub returns-clause-suppressed : goal.returns-clause-suppressed
returns-clause-suppressed c =
    let last : c.loop-i.i ≡ c.args.count = omega arith in
    rw last at c.loop-i.invariant.so_far

pub returns-clause-size : goal.returns-clause-size
returns-clause-size c = length-with_all_chars c.args.core.now c.loop-i.chars

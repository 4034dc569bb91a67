-- Each lane is its place, and is put there.
use Rattle.std.proofs.Common.{◌≡◌, ℕ, ◌+◌, ◌-◌, not, Some, List, ap, drop, get_or, length, sym}
use Rattle.std.proofs.Common.{refl, ◌∙◌, arith}
use Rattle.std.specs.List.{prefix_len}
use Rattle.std.specs.Simd.Lanes.{chunk}
use Rattle.std.proofs.lemmas.List.{length-drop}
use Rattle.std.proofs.lemmas.List.Sums.{count_by-le-length}
use Rattle.fields_1401.specs.Across.{chars_across, units_unzoned, char_to}
use Rattle.fields_1401.specs.Edit.{is_replaceable, is_significant, sign_at, unsuppressed}
use Rattle.fields_1401.specs.Places.{is_within}
use Rattle.fields_1401.proofs.AcrossLemmas.{length-across}
use Rattle.fields_1401.proofs.EditLemmas.{length-unsuppressed, rules_are}
use Rattle.fields_1401.proofs.LaneLemmas.{lanes_lent}
use Rattle.fields_1401.proofs.LendingLemmas.{length-chars_of, length-with_all_chars}
use Rattle.fields_1401.proofs.SixteenLemmas.{chars_put}
use Rattle.fields_1401.proofs.SixteenPlacesLemmas.{AreLanes, chars_below, shows_at_once, significant_at_once}
use Rattle.fields_1401.proofs.sixteen_places.put_at_once.Goals as goal

-- what the lanes hold
lanes : (c : goal.After-count_insignificant) → AreLanes c.args.core.now c.chars_mut-chars.result.now
    c.codes_up-control.result c.unzoned-of_a.result c.count_beyond-beyond.result c.taken_codes-taken.result
    c.kept_codes-kept.result c.where_replaceable.result c.args.word c.args.rules
lanes c =
    let s = c.args.core.now in
    let o = c.args.word in
    let chars : List ℕ = c.chars_mut-chars.result.now in
    let control : List ℕ = c.codes_up-control.result in
    record {
      lent = c.chars_mut-chars.ensures.value;
      read = lanes_lent s control chars o.b o.b
          (c.codes_up-control.ensures.codes ∙ ap (λ (q : ℕ). chunk q 16 chars) c.from-b_low.ensures) refl
          c.chars_mut-chars.ensures.value;
      a_in = c.requires.a;
      b_in = c.requires.b;
      b_least = c.requires.b_least;
      few = c.requires.len;
      go_by = rules_are s o.a o.b o.taken o.len c.args.rules c.requires.a o.a_above c.requires.taken
          c.requires.replaceable c.requires.sign;
      of_a_is = chars_below chars c.codes_up.result c.unzoned-of_a.result c.from-a_low.result o.a
          (omega (arith, c.from-a_low.ensures, c.requires.a_least)) c.codes_up.ensures.codes
          c.unzoned-of_a.ensures.codes;
      beyond_is = c.count_beyond-beyond.ensures.beyond;
      beyond_few = λ i lt. omega (
        arith,
        c.count_beyond-beyond.ensures.beyond i lt,
        count_by-le-length is_replaceable (drop (i + 1) control),
        length-drop (i + 1) control,
        c.codes_up-control.ensures.count,
      );
      taken_is = c.taken_codes-taken.ensures.lanes;
      kept_is = c.kept_codes-kept.ensures.kept;
      shown_is = c.where_replaceable.ensures.lanes;
    }

pub codes_up-control-requires : goal.codes_up-control-requires
codes_up-control-requires c = omega (
  arith,
  ap length c.chars_mut-chars.ensures.value ∙ length-chars_of c.args.core.now,
  c.from-b_low.ensures,
  c.requires.b,
  c.requires.b_least,
)

pub codes_up-requires : goal.codes_up-requires
codes_up-requires c = omega (
  arith,
  ap length c.chars_mut-chars.ensures.value ∙ length-chars_of c.args.core.now,
  c.from-a_low.ensures,
  c.requires.a,
  c.requires.a_least,
)

pub unzoned-of_a-requires-clause-range : goal.unzoned-of_a-requires-clause-range
unzoned-of_a-requires-clause-range c = c.codes_up.ensures.range

pub taken_codes-taken-requires-clause-few : goal.taken_codes-taken-requires-clause-few
taken_codes-taken-requires-clause-few c = λ i lt. omega (
  arith,
  c.count_beyond-beyond.ensures.beyond i lt,
  count_by-le-length is_replaceable (drop (i + 1) c.codes_up-control.result),
  length-drop (i + 1) c.codes_up-control.result,
  c.codes_up-control.ensures.count,
)

pub put_last-requires-clause-inside : goal.put_last-requires-clause-inside
put_last-requires-clause-inside c = omega (
  arith,
  ap length c.chars_mut-chars.ensures.value ∙ length-chars_of c.args.core.now,
  c.from-b_low.ensures,
  c.requires.b,
  c.requires.b_least,
)

pub returns-clause-put : goal.returns-clause-put
returns-clause-put c =
    let s = c.args.core.now in
    let o = c.args.word in
    let chars : List ℕ = c.chars_mut-chars.result.now in
    let after : List ℕ = c.put_last.new.chars in
    let full : List ℕ = unsuppressed (chars_across s o.b o.len) (units_unzoned (chars_across s o.a o.taken))
    (sign_at s o.a) in
    let full_size : length full ≡ o.len =
    length-unsuppressed (chars_across s o.b o.len) (units_unzoned (chars_across s o.a o.taken)) (sign_at s o.a)
    ∙ length-across s o.b o.len c.requires.b o.b_above in
    let size : length after ≡ length s = c.put_last.ensures.count ∙ ap length c.chars_mut-chars.ensures.value
    ∙ length-chars_of s in
    let at_b : c.from-b_low.result + 15 ≡ o.b = omega (arith, c.from-b_low.ensures, c.requires.b_least) in
    chars_put s chars after o.b o.len (char_to full) c.chars_mut-chars.ensures.value size c.requires.b o.b_above
    (λ k lt. ap (λ (q : ℕ). get_or after (q - k) 0) (sym at_b)
    ∙ c.put_last.ensures.written k (omega (arith, lt, c.from-len.ensures))
    ∙ ap (λ (i : ℕ). get_or c.where_replaceable.result i 0) (omega (arith, lt, c.requires.len))
    ∙ shows_at_once s chars c.codes_up-control.result c.unzoned-of_a.result c.count_beyond-beyond.result
    c.taken_codes-taken.result c.kept_codes-kept.result c.where_replaceable.result o c.args.rules (o.len - 1 - k)
    (lanes c) (omega (arith, lt))
    ∙ ap (λ (m : ℕ). get_or full (m - 1 - k) 0) (sym full_size))
    (λ q beside. c.put_last.ensures.others q
    (ap (λ (b : ℕ). is_within b c.from-len.result q) at_b
    ∙ ap (λ (m : ℕ). is_within o.b m q) c.from-len.ensures ∙ beside))

pub returns-clause-significant : goal.returns-clause-significant
returns-clause-significant c =
    sym (significant_at_once c.args.core.now c.chars_mut-chars.result.now c.codes_up-control.result
    c.unzoned-of_a.result c.count_beyond-beyond.result c.taken_codes-taken.result c.kept_codes-kept.result
    c.where_replaceable.result c.args.word c.args.rules c.count_insignificant.result (lanes c)
    c.taken_codes-taken.ensures.count
    (c.count_insignificant.ensures.first
    ∙ ap (λ (m : ℕ). prefix_len (λ code. not (is_significant (Some code))) (drop (16 - m) c.taken_codes-taken.result)) c.from-len.ensures))

pub returns-clause-size : goal.returns-clause-size
returns-clause-size c = length-with_all_chars c.args.core.now c.put_last.new.chars

-- The first option, and those after it.
use Rattle.std.proofs.Common.{◌≡◌, ◌==◌, ◌≤◌, ◌-◌, ◌∙◌, sym, false, length, take, drop, Some, arith}
use Rattle.std.specs.Prelude.{slice_index}
use Rattle.std.proofs.lemmas.Bool.Decides.{nat_tests}
use Rattle.std.proofs.lemmas.Grind.{common_steps}
use Rattle.autocoder_statements.specs.Punctuation.{letter_x}
use Rattle.autocoder_statements.specs.WideAreas.{option_and, register_and}
use Rattle.autocoder_statements.proofs.WideAreasLemmas.{with_first, with_register}
use Rattle.autocoder_statements.proofs.wide_areas.AreaOptions.+and.Goals as goal

pub returns-then-letter-ne88 : goal.returns-then-letter-ne88
returns-then-letter-ne88 t c =
    let text = c.args.text.now in
    let one : option_and c.args.self (slice_index text 1) ≡ Some c.in_ok-these.these =
    sym c.with.ensures ∙ c.in_ok-these.was in
    let other : (slice_index text 1 == letter_x) ≡ false = grind (arith, nat_tests, c.if-letter-ne88.true) in
    let beyond : take (length text - 2) (drop 2 text) ≡ drop 2 text = grind (arith, common_steps) in
    rw (c.and.ensures, beyond)
    (with_first c.args.self c.in_ok-these.these text c.in-len2-up.len_at_least c.if-parting-ne44.false other one)

pub returns : goal.returns
returns t c =
    let text = c.args.text.now in
    let more = take (length text - 2) (drop 2 text) in
    let one : register_and c.args.self (slice_index more 0) ≡ Some c.in_ok-those.those =
    sym c.with_register.ensures ∙ c.in_ok-those.was in
    let rest : more ≡ drop 2 text = grind (arith, common_steps) in
    let beyond : take (length more - 1) (drop 1 more) ≡ drop 1 more = grind (arith, common_steps) in
    let some : 1 ≤ length more = c.in-len1-up.len_at_least in
    rw (c.and-2.ensures, beyond, rest)
    (with_register c.args.self c.in_ok-those.those text c.in-len2-up.len_at_least c.if-parting-ne44.false
    c.if-letter-ne88.false (rw rest at some) (rw rest at one))

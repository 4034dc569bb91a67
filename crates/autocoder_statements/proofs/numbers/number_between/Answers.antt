-- With a digit that makes it too great, all digits do.
use Rattle.std.proofs.Common.{◌≡◌, ◌-◌, ◌<◌, sym, get_or, arith}
use Rattle.std.proofs.lemmas.Bool.Decides.{nat_tests}
use Rattle.bcd_1401.specs.Digits.{value_of}
use Rattle.autocoder_statements.proofs.NumbersLemmas.{with_one, too_great}
use Rattle.autocoder_statements.proofs.numbers.number_between.Goals as goal

pub returns-then-number-most-clause-value : goal.returns-then-number-most-clause-value
returns-then-number-most-clause-value c =
    let word = c.args.word.now in
    let i = c.loop-byte.byte-index in
    let digit : c.in_ok-digit.digit ≡ get_or word i 0 - 48 = grind (arith, nat_tests) in
    let all = with_one c.loop-byte.number i word c.loop-byte-test.true in
    let past : c.args.most < value_of word =
    omega (arith, all, digit, c.loop-byte.invariant.value, c.if-number-most.true) in
    sym (too_great c.args.least c.args.most word past)

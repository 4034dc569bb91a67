-- The lowest bit is that of the highest pair that differs.
use Rattle.std.proofs.Common.{◌-◌, ◌/◌, ◌^◌, ℕ, sym, arith}
use Rattle.std.specs.Int.{trailing_zeros, w64}
use Rattle.core_1401.specs.Storage.{cell_at}
use Rattle.fields_1401.proofs.PairLaneLemmas.{differ_apart, pairs_told}
use Rattle.fields_1401.proofs.comparison.highest_at_once.Goals as goal

pub returns-then-differing-eq0-clause-value : goal.returns-then-differing-eq0-clause-value
returns-then-differing-eq0-clause-value c =
    let told = pairs_told c.args.core.now c.args.a c.args.b c.args.n c.requires.few c.requires.least c.requires.a.1
    c.requires.b.1 c.chars-chars.ensures c.codes_across-of_a.ensures.codes c.from.ensures
    c.codes_across-of_b.ensures.codes c.from-2.ensures c.differing_bits.ensures.bits c.from-3.ensures in
    sym (told.none c.if-differing-eq0.true)

pub overflow_sub-result-2 : goal.overflow_sub-result-2
overflow_sub-result-2 c =
    let told = pairs_told c.args.core.now c.args.a c.args.b c.args.n c.requires.few c.requires.least c.requires.a.1
    c.requires.b.1 c.chars-chars.ensures c.codes_across-of_a.ensures.codes c.from.ensures
    c.codes_across-of_b.ensures.codes c.from-2.ensures c.differing_bits.ensures.bits c.from-3.ensures in
    omega (arith, (told.some c.if-differing-eq0.false).within)

pub returns-clause-value : goal.returns-clause-value
returns-clause-value c =
    let told = pairs_told c.args.core.now c.args.a c.args.b c.args.n c.requires.few c.requires.least c.requires.a.1
    c.requires.b.1 c.chars-chars.ensures c.codes_across-of_a.ensures.codes c.from.ensures
    c.codes_across-of_b.ensures.codes c.from-2.ensures c.differing_bits.ensures.bits c.from-3.ensures in
    sym (told.some c.if-differing-eq0.false).highest

pub returns-clause-differ : goal.returns-clause-differ
returns-clause-differ c =
    let told = pairs_told c.args.core.now c.args.a c.args.b c.args.n c.requires.few c.requires.least c.requires.a.1
    c.requires.b.1 c.chars-chars.ensures c.codes_across-of_a.ensures.codes c.from.ensures
    c.codes_across-of_b.ensures.codes c.from-2.ensures c.differing_bits.ensures.bits c.from-3.ensures in
    let i : ℕ = c.args.n - 1 - trailing_zeros w64 (c.differing_bits.result / 2 ^ c.from-3.result) in
    differ_apart (cell_at c.args.core.now (c.args.a - i)).char (cell_at c.args.core.now (c.args.b - i)).char
    (told.some c.if-differing-eq0.false).differs

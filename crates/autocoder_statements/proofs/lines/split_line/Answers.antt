-- The first line ends before the first line feed, or is all that there is.
use Rattle.std.proofs.Common.{◌+◌, ◌-◌, ◌≡◌, ◌<◌, ◌∙◌, sym, length, take, drop, arith}
use Rattle.std.proofs.lemmas.Grind.{common_steps}
use Rattle.std.proofs.lemmas.Bool.Decides.{nat_tests}
use Rattle.autocoder_statements.proofs.SourceLineLemmas.{last_line, first_line}
use Rattle.autocoder_statements.proofs.lines.split_line.Goals as goal

pub returns-then-count-source : goal.returns-then-count-source
returns-then-count-source c =
    let some : 0 < length c.args.source.now = grind (arith, nat_tests) in
    (last_line c.args.source.now some (sym c.bytes_before-count.ensures.value ∙ c.if-count-source.true), some)

pub returns : goal.returns
returns c =
    let source = c.args.source.now in
    let n = c.bytes_before-count.result in
    let inside : n < length source =
    omega (arith, c.bytes_before-count.ensures.bound, c.if-count-source.false) in
    let beyond : take (length source - (n + 1)) (drop (n + 1) source)
    ≡ drop (n + 1) source = grind (arith, common_steps) in (
      rw (beyond, c.without_return.ensures) (first_line source n c.bytes_before-count.ensures.value inside),
      grind (arith, common_steps),
    )

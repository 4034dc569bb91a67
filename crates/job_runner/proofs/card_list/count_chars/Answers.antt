-- No card has characters that aren't there.
use Rattle.std.proofs.Common.{◌≡◌, ◌<◌, ◌+◌, arith, get_or, length}
use Rattle.job_runner.specs.CardList.{place_of}
use Rattle.job_runner.proofs.CardListLemmas.{place_more, place_within}
use Rattle.job_runner.proofs.card_list.count_chars.Goals as goal

pub prove-unreachable-requires : goal.prove-unreachable-requires
prove-unreachable-requires c =
    let lens = c.args.lens.now in
    let at = c.loop-at.at in
    let there : at < length lens = omega (arith, c.loop-at-test.true, c.requires.within) in
    let so_far : c.loop-at.count ≡ place_of at lens = c.loop-at.invariant in
    let len : c.from-count.result ≡ get_or lens at 0 = c.from-count.ensures in
    omega (
      arith,
      c.if-prove.true,
      len,
      so_far,
      place_more lens at there,
      place_within lens c.args.chars.now (at + 1) c.requires.cards,
    )

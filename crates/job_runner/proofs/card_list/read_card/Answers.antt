-- The card's characters are there, and they are few enough.
use Rattle.std.proofs.Common.{◌≡◌, arith, get_or}
use Rattle.job_runner.proofs.CardListLemmas.{IsCardThere, card_there}
use Rattle.job_runner.proofs.card_list.read_card.Goals as goal

pub split_at-requires : goal.split_at-requires
split_at-requires c =
    let it : IsCardThere c.args.lens.now c.args.chars.now c.args.at =
    card_there c.args.lens.now c.args.chars.now c.args.at c.requires.cards c.requires.there in
    omega (arith, it.within, c.requires.from)

pub split_at-requires-2 : goal.split_at-requires-2
split_at-requires-2 c =
    let it : IsCardThere c.args.lens.now c.args.chars.now c.args.at =
    card_there c.args.lens.now c.args.chars.now c.args.at c.requires.cards c.requires.there in
    let len : c.from.result ≡ get_or c.args.lens.now c.args.at 0 = c.from.ensures in
    omega (arith, it.within, len, c.requires.from, c.split_at.ensures.back_len)

pub card_of_chars-requires : goal.card_of_chars-requires
card_of_chars-requires c =
    let it : IsCardThere c.args.lens.now c.args.chars.now c.args.at =
    card_there c.args.lens.now c.args.chars.now c.args.at c.requires.cards c.requires.there in
    let len : c.from.result ≡ get_or c.args.lens.now c.args.at 0 = c.from.ensures in
    omega (arith, it.few, len, c.split_at-2.ensures.front_len)

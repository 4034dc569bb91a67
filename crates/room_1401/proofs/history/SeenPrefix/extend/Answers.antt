-- The exchange is over the word of this history, and adds to a copy of what was seen.
use Rattle.std.proofs.Common.{sym, ◌∙◌, ap, length}
use Rattle.room_1401.proofs.HistoryLemmas.{adds_moves}
use Rattle.room_1401.proofs.history.SeenPrefix.extend.Goals as goal

pub compare_exchange-found-requires : goal.compare_exchange-found-requires
compare_exchange-found-requires g c =
    let head = c.args.head.now.head_is in
    let offer = c.plain-offer.ensures in
    let pen = c.no_pen-pen.ensures in
    let copy = c.again-seen.ensures in
    let book = ap (λ token. token.book) copy ∙ c.self.invariant.1 in
    let len = ap (λ token. length token.log) copy ∙ sym c.self.invariant.0 in
    let moves = adds_moves c.again-seen.result.log c.args.pair c.self.inside.count len in (
      ap (λ word. word.tracked) head,
      book ∙ sym (ap (λ word. word.book) head),
      pen.0 ∙ (book ∙ sym (ap (λ word. word.book) head)),
      offer.0,
      rw (ap (λ word. word.key) head, pen.1, offer.1, offer.3) moves,
    )

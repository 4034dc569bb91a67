-- The page hears what came of the request.
use Rattle.std.proofs.Common.{rules, ◌≡◌, ℕ, List, true, subst}
use Rattle.http.specs.Request.{body_of, head_of}
use Rattle.room_alone.specs.declared.entry.SeatedCommand.{SeatedCommand}
use Rattle.serving_http.specs.Fields.{count_in, is_for_room, is_next}
use Rattle.serving_http.specs.Sites.{is_from_site}
use Rattle.serving_page.specs.SeatPage.{site_of}
use Rattle.serving_page.specs.Taking.{HasLost, IsOutcome}
use Rattle.serving_page.proofs.TakingLemmas.{outcome, taken}
use Rattle.serving_page.proofs.seat_page.SeatPage.take.Goals as goal

pub returns-clause-ok : goal.returns-clause-ok
returns-clause-ok g c =
    let lost : List SeatedCommand → Type 0 =
    HasLost g.P.Keeper.has_failed g.P.Keeper.kept g.P.Keeper.first g.P.Keeper.form g.J.RoomId.size in
    let before = c.args.self.now.seat in
    let after = c.answer-outcome.new.self.seat in
    let response = c.tell_outcome.new.response in
    let body : List ℕ = c.as_slice.result.now in
    let Told : List ℕ → Type 0 =
    λ these. IsOutcome c.args.brought g.J.RoomId.size g.G.Gate.says lost before these response after in
    let told : Told body =
    outcome c.args.brought g.J.RoomId.size g.G.Gate.says lost before body response after c.answer-outcome.result
    c.answer-outcome.ensures.ok c.answer-outcome.ensures.err c.tell_outcome.ensures.ok c.tell_outcome.ensures.err in
    let same : body ≡ body_of c.args.request.now = search rules in
    let own : is_from_site (head_of c.args.request.now) (site_of c.args.self.now) ≡ true = search rules in
    let here : is_for_room (head_of c.args.request.now) c.args.self.now.name ≡ true = search rules in
    let next : is_next (count_in (head_of c.args.request.now)) before.made ≡ true = search rules in (
      taken _ _ _ _ _ _ _ own here next (subst Told same told, c.answer-outcome.ensures.seat),
      c.answer-outcome.ensures.page,
    )

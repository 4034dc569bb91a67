-- What a seat has seen goes on over all requests at its page.
use Rattle.std.proofs.Common.{◌≡◌, ℕ, Bool, true, false, List, [], ◌∷◌, Option, None, Some}
use Rattle.std.proofs.Common.{sym, ap, ◌∙◌}
use Rattle.std.proofs.lemmas.List.{append-nil}
use Rattle.std.specs.Prelude.{nat_le, length, MatchBool}
use Rattle.http_uri.specs.Uri.{uri_path, uri_query}
use Rattle.http.specs.declared.request.Request.{Request}
use Rattle.http.specs.declared.request.Parts.{Parts}
use Rattle.http.specs.Request.{body_of, head_of}
use Rattle.http_server.specs.declared.response.Response.{Response}
use Rattle.http_server.specs.Exchange.{Call, Chain}
use Rattle.room_alone.specs.declared.entry.SeatedCommand.{SeatedCommand}
use Rattle.room_1401.specs.Seen.{SeatView}
use Rattle.serving_page.specs.declared.asked.Asked.{Asked}
use Rattle.serving_http.specs.declared.route.Route.{Route}
use Rattle.serving_http.specs.declared.route.Route.TheVariants.{Page, Picture, Line, Lines, WrongMethod, Unknown}
use Rattle.serving_page.specs.declared.showing.Sight.{Sight}
use Rattle.serving_page.specs.declared.showing.Sight.TheVariants.{Text, Same, NotInCore, Gone, NoMemory}
use Rattle.serving_http.specs.Fields.{count_in, is_ambiguous, is_for_room, is_next}
use Rattle.serving_http.specs.Exchange.{Follows}
use Rattle.serving_http.specs.Limits.{most_line_bytes}
use Rattle.serving_http.specs.Responses.{IsRefused}
use Rattle.serving_http.specs.Route.{route_of}
use Rattle.serving_http.specs.Sites.{is_from_site, SiteView}
use Rattle.serving_page.specs.Asked.{ampersand, asked_in, room_in}
use Rattle.serving_page.specs.Elsewhere.{TellsAddress}
use Rattle.serving_page.specs.ManyLines.{Saying}
use Rattle.serving_page.specs.Pieces.{pieces_in}
use Rattle.serving_page.specs.SeatPage.{Answers, AnswersRoute, PageView, site_of, with_seat}
use Rattle.room_1401.proofs.PrefixLemmas.{prefix_trans}
use Rattle.serving_page.specs.Showing.{HasLooked, Sees, ShowsAsked, ShowsPicture, asked_here, heading}
use Rattle.serving_page.specs.Taking.{GoesOn, IsOutcome, Takes}
use Rattle.serving_page.specs.declared.taking.Brought.{Brought}
use Rattle.serving_page.specs.declared.taking.Brought.TheVariants as brought

stays : (before after : SeatView) → after ≡ before → GoesOn before after
stays before after is = record {
  number_is = ap (λ (seat : SeatView). seat.number) is;
  grows = ([], append-nil before.list ∙ sym (ap (λ (seat : SeatView). seat.list) is));
}

looked : (size : ℕ) (asked : Asked) (before after : SeatView) → HasLooked size asked before after → GoesOn before after
looked size asked before after l = record { number_is = l.number_is; grows = l.grows }

sees : (size seats : ℕ) (front : List ℕ) (asked : Asked) (before : SeatView) (sight : Sight) (after : SeatView)
    → Sees size seats front asked before sight after → GoesOn before after
sees size seats front asked before (Text text) after s = looked size asked before after s.0
sees size seats front asked before Same after s = looked size asked before after s.0
sees size seats front asked before NotInCore after s = stays before after s.1
sees size seats front asked before Gone after s = stays before after s.1
sees size seats front asked before NoMemory after s = looked size asked before after s.0

shows_asked : (size seats : ℕ) (name : List ℕ) (room : Option (List ℕ)) (asked : Option Asked) (before : SeatView)
    (response : Response) (after : SeatView) → ShowsAsked size seats name room asked before response after
    → GoesOn before after
shows_asked size seats name room None before response after s = stays before after s.1
shows_asked size seats name room (Some asked) before response after s =
    sees size seats (heading room name) (asked_here room name asked) before s.0 after s.1

shows : (size seats : ℕ) (name : List ℕ) (fields : List (List ℕ)) (before : SeatView) (response : Response)
    (after : SeatView) → ShowsPicture size seats name fields before response after → GoesOn before after
shows size seats name fields before response after s =
    shows_asked size seats name (room_in fields) (asked_in fields) before response after s

either : (b : Bool) (P Q R : Type 0) → MatchBool b P Q → (P → R) → (Q → R) → R
either true P Q R m f g = f m
either false P Q R m f g = g m

-- lines that are refused unless three things hold of them
taken_if : (own here next : Bool) (Taken : Type 0) (before after : SeatView) (response : Response)
    → MatchBool own
    (MatchBool here (MatchBool next Taken (IsRefused 409 response × (after ≡ before)))
    (IsRefused 409 response × (after ≡ before)))
    (IsRefused 403 response × (after ≡ before))
    → (Taken → GoesOn before after) → GoesOn before after
taken_if false here next Taken before after response t goes_on = stays before after t.1
taken_if true false next Taken before after response t goes_on = stays before after t.1
taken_if true true false Taken before after response t goes_on = stays before after t.1
taken_if true true true Taken before after response t goes_on = goes_on t

takes : (brought : Brought) (size : ℕ) (says : Saying) (lost : List SeatedCommand → Type 0) (site : SiteView)
    (name : List ℕ) (head : Parts) (body : List ℕ) (before : SeatView) (response : Response) (after : SeatView)
    → Takes brought size says lost site name head body before response after → GoesOn before after
takes brought size says lost site name head body before response after t =
    taken_if (is_from_site head site) (is_for_room head name) (is_next (count_in head) before.made)
    (IsOutcome brought size says lost before body response after × GoesOn before after) before after response t
    (λ taken. taken.1)

route : (size : ℕ) (says : Saying) (lost : List SeatedCommand → Type 0) (to : Route) (old : PageView)
    (request : Request (List ℕ)) (response : Response) (new : PageView)
    → AnswersRoute size says lost to old request response new → GoesOn old.seat new.seat
route size says lost Page old request response new a = stays old.seat new.seat (ap (λ (page : PageView). page.seat) a.1)
route size says lost Picture old request response new a =
    shows size old.seats old.name (pieces_in ampersand (uri_query (head_of request).uri)) old.seat response new.seat a.0
route size says lost Line old request response new a =
    let bytes : List ℕ = body_of request in
    let Taken : Type 0 =
    Takes brought.Line size says lost (site_of old) old.name (head_of request) bytes old.seat response new.seat
    × (new ≡ with_seat old new.seat) in
    either (nat_le (length bytes) most_line_bytes) Taken (IsRefused 413 response × (new ≡ old))
    (GoesOn old.seat new.seat) a
    (λ taken. takes brought.Line size says lost _ old.name (head_of request) bytes old.seat response new.seat taken.0)
    (λ refused. stays old.seat new.seat (ap (λ (page : PageView). page.seat) refused.1))
route size says lost Lines old request response new a =
    takes brought.Lines size says lost _ old.name (head_of request) (body_of request) old.seat response new.seat a.0
route size says lost WrongMethod old request response new a =
    stays old.seat new.seat (ap (λ (page : PageView). page.seat) a.1)
route size says lost Unknown old request response new a =
    stays old.seat new.seat (ap (λ (page : PageView). page.seat) a.1)

answers : (size : ℕ) (says : Saying) (lost : List SeatedCommand → Type 0) (old : PageView) (request : Request (List ℕ))
    (response : Response) (new : PageView) → Answers size says lost old request response new → GoesOn old.seat new.seat
answers size says lost old request response new a =
    let head : Parts = head_of request in
    let to : Route = route_of head.method (uri_path head.uri) in
    let Refused : Type 0 = IsRefused 400 response × (new ≡ old) in
    let Elsewhere : Type 0 = TellsAddress (site_of old) response × (new ≡ old) in
    let Asked : Type 0 = AnswersRoute size says lost to old request response new in
    either _ (MatchBool (is_ambiguous head) Refused Asked) Elsewhere (GoesOn old.seat new.seat) a
    (λ own. either _ Refused Asked (GoesOn old.seat new.seat) own
    (λ refused. stays old.seat new.seat (ap (λ (page : PageView). page.seat) refused.1))
    (λ asked. route size says lost to old request response new asked))
    (λ refused. stays old.seat new.seat (ap (λ (page : PageView). page.seat) refused.1))

goes_then : (before middle after : SeatView) → GoesOn before middle → GoesOn middle after → GoesOn before after
goes_then before middle after first second = record {
  number_is = second.number_is ∙ first.number_is;
  grows = prefix_trans before.list middle.list after.list first.grows second.grows;
}

chain : (size : ℕ) (says : Saying) (lost : List SeatedCommand → Type 0) (old : PageView) (calls : List Call)
    (new : PageView) → Chain (Answers size says lost) old calls new → GoesOn old.seat new.seat
chain size says lost old [] new c = stays old.seat new.seat (ap (λ (page : PageView). page.seat) c)
chain size says lost old (call ∷ calls) new c =
    goes_then old.seat c.0.seat new.seat (answers size says lost old call.0 call.1 c.0 c.1)
    (chain size says lost c.0 calls new c.2)

-- whatever requests came
pub goes_on : (size : ℕ) (says : Saying) (lost : List SeatedCommand → Type 0) (old new : PageView)
    → Follows (Answers size says lost) old new → GoesOn old.seat new.seat
goes_on size says lost old new f = chain size says lost old f.0 new f.1

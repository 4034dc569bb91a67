-- What requests are answered at the page of a seat, and what they leave (own).
use Rattle.std.specs.Prelude.{◌≡◌, ℕ, nat_le, List, length, MatchBool, Option}
use Rattle.http_uri.specs.Uri.{uri_path, uri_query}
use Rattle.http.specs.declared.request.Request.{Request}
use Rattle.http.specs.Request.{body_of, head_of}
use Rattle.http_server.specs.declared.response.Response.{Response}
use Rattle.http_server.specs.Response.{IsResponse}
use Rattle.room_alone.specs.declared.entry.SeatedCommand.{SeatedCommand}
use Rattle.room_1401.specs.Seen.{SeatView}
use Rattle.serving_http.specs.declared.origins.Origin.{Origin}
use Rattle.serving_http.specs.declared.route.Route.{Route}
use Rattle.serving_http.specs.declared.route.Route.TheVariants.{Page, Picture, Line, Lines, WrongMethod, Unknown}
use Rattle.serving_page.specs.Asked.{ampersand}
use Rattle.serving_http.specs.Fields.{is_ambiguous}
use Rattle.serving_http.specs.Limits.{most_line_bytes}
use Rattle.serving_http.specs.Responses.{IsRefused, page_fields}
use Rattle.serving_http.specs.Route.{route_of}
use Rattle.serving_http.specs.Sites.{is_for_site, SiteView}
use Rattle.serving_page.specs.Elsewhere.{TellsAddress}
use Rattle.serving_page.specs.ManyLines.{Saying}
use Rattle.serving_page.specs.Pieces.{pieces_in}
use Rattle.serving_page.specs.Showing.{ShowsPicture}
use Rattle.serving_page.specs.Taking.{Takes}
use Rattle.serving_page.specs.declared.taking.Brought.TheVariants as brought

-- how many seats there are, the port of the loopback, the origin outside if there is one, the room's name, the page,
-- what its browser may do with it, and what the seat knows
pub record PageView : Type 0 where
  pub seats : ℕ
  pub port : ℕ
  pub outside : Option Origin
  pub name : List ℕ
  pub page : List ℕ
  pub policy : List ℕ
  pub seat : SeatView

-- where the page is
abbrev pub site_of : PageView → SiteView
site_of page = record { port = page.port; outside = page.outside }

-- the same page, and what its seat knows then
abbrev pub with_seat : PageView → SeatView → PageView
with_seat page seat = record page { seat = seat }

-- by what a request asks for: a picture or lines go to the seat, unless the one line is too long; any other leaves all
-- as it was
abbrev pub AnswersRoute : ℕ → Saying → (List SeatedCommand → Type 0) → Route → PageView → Request (List ℕ)
    → Response → PageView → Type 0
AnswersRoute size says lost Page old request response new =
    IsResponse 200 (page_fields old.policy) old.page response × (new ≡ old)
AnswersRoute size says lost Picture old request response new =
    ShowsPicture size old.seats old.name (pieces_in ampersand (uri_query (head_of request).uri)) old.seat response
    new.seat
    × (new ≡ with_seat old new.seat)
AnswersRoute size says lost Line old request response new =
    MatchBool (nat_le (length (body_of request)) most_line_bytes)
    (Takes brought.Line size says lost (site_of old) old.name (head_of request) (body_of request) old.seat response
    new.seat
    × (new ≡ with_seat old new.seat))
    (IsRefused 413 response × (new ≡ old))
AnswersRoute size says lost Lines old request response new =
    Takes brought.Lines size says lost (site_of old) old.name (head_of request) (body_of request) old.seat response
    new.seat
    × (new ≡ with_seat old new.seat)
AnswersRoute size says lost WrongMethod old request response new = IsRefused 405 response × (new ≡ old)
AnswersRoute size says lost Unknown old request response new = IsRefused 404 response × (new ≡ old)

-- a request that isn't for the page's own host and port, here or outside, is refused and hears where the page is; a
-- request that says twice where it comes from or what it goes on from is refused; both leave all as it was
abbrev pub Answers : ℕ → Saying → (List SeatedCommand → Type 0) → PageView → Request (List ℕ) → Response
    → PageView → Type 0
Answers size says lost old request response new =
    let head = head_of request in
    MatchBool (is_for_site head (site_of old))
    (MatchBool (is_ambiguous head)
    (IsRefused 400 response × (new ≡ old))
    (AnswersRoute size says lost (route_of head.method (uri_path head.uri)) old request response new))
    (TellsAddress (site_of old) response × (new ≡ old))

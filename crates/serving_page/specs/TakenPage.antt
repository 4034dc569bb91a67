-- What requests are answered at the page of a seat at which a console sits (own).
use Rattle.std.specs.Prelude.{◌≡◌, ℕ, Bool, true, false, not, ◌&&◌, List, MatchBool}
use Rattle.http_uri.specs.Uri.{uri_path}
use Rattle.http.specs.declared.request.Request.{Request}
use Rattle.http.specs.declared.request.Parts.{Parts}
use Rattle.http.specs.Request.{head_of}
use Rattle.http_server.specs.declared.response.Response.{Response}
use Rattle.http_server.specs.Response.{IsResponse}
use Rattle.serving_http.specs.declared.route.Route.{Route}
use Rattle.serving_http.specs.declared.route.Route.TheVariants.{Page, Picture, Line, Lines, WrongMethod, Unknown}
use Rattle.serving_http.specs.Fields.{is_ambiguous}
use Rattle.serving_http.specs.Responses.{page_fields, TellsTaken}
use Rattle.serving_http.specs.Route.{route_of}
use Rattle.serving_http.specs.Sites.{is_for_site, SiteView}

-- where the page is, its text, and what its browser may do with it
pub record TakenPageView : Type 0 where
  pub site : SiteView
  pub page : List ℕ
  pub policy : List ℕ

-- the route of the page's text
abbrev pub is_page : Route → Bool
is_page Page = true
is_page Picture = false
is_page Line = false
is_page Lines = false
is_page WrongMethod = false
is_page Unknown = false

-- a request asks for the text of the page of this site, and says nothing twice
abbrev pub asks_for_page : Parts → SiteView → Bool
asks_for_page head site =
    is_for_site head site && (not (is_ambiguous head) && is_page (route_of head.method (uri_path head.uri)))

-- the page's text is served, each other request hears that a console sits at the seat, and all stays as it was
abbrev pub AnswersTaken : TakenPageView → Request (List ℕ) → Response → TakenPageView → Type 0
AnswersTaken old request response new =
    MatchBool (asks_for_page (head_of request) old.site)
    (IsResponse 200 (page_fields old.policy) old.page response × (new ≡ old))
    (TellsTaken old request response new)

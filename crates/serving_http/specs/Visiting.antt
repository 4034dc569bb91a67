-- Requests by which a page takes its seat (own).
use Rattle.std.specs.Prelude.{◌≡◌, ◌==◌, ℕ, Bool, true, false, ◌&&◌, ◌||◌, List, codes, slice_get, Option, None, Some}
use Rattle.http_uri.specs.Uri.{uri_path}
use Rattle.http.specs.declared.request.Request.{Request}
use Rattle.http.specs.declared.request.Parts.{Parts}
use Rattle.http.specs.Request.{head_of}
use Rattle.serving_http.specs.declared.route.Route.{Route}
use Rattle.serving_http.specs.declared.route.Route.TheVariants.{Page, Picture, Line, Lines, WrongMethod, Unknown}
use Rattle.serving_http.specs.Fields.{has_field}
use Rattle.serving_http.specs.Route.{route_of}
use Rattle.serving_http.specs.Sites.{is_from_site, SiteView}

-- a picture and lines need the seat
abbrev pub needs_seat : Route → Bool
needs_seat Page = false
needs_seat Picture = true
needs_seat Line = true
needs_seat Lines = true
needs_seat WrongMethod = false
needs_seat Unknown = false

-- a request comes from the page itself: its Origin says so, or the browser that sends it
abbrev pub is_own : Parts → SiteView → Bool
is_own head site = is_from_site head site || has_field head (codes "sec-fetch-site") (codes "same-origin")

-- it asks for a picture or brings lines, and comes from the page
abbrev pub is_visit : Parts → SiteView → Bool
is_visit head site = needs_seat (route_of head.method (uri_path head.uri)) && is_own head site

-- what is noted of a request
abbrev pub Notices : SiteView → Request (List ℕ) → Bool → Bool → Type 0
Notices site request whole visit = (whole ≡ true) × (visit ≡ is_visit (head_of request) site)

-- a byte is the digit 2
abbrev pub is_two : Option ℕ → Bool
is_two None = false
is_two (Some byte) = byte == 50

-- an answer has a status from 200 to 299: its first digit comes after `HTTP/1.1 `
abbrev pub is_accepted : List ℕ → Bool
is_accepted answer = is_two (slice_get answer 9)

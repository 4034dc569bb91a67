-- What a request about a room comes to, and what it is answered: it is about a new room, or about a hold of the machine
-- (own).
use Rattle.std.specs.Prelude.{◌≡◌, ℕ, ◌⊎◌, Bool, true, false, ◌&&◌, if◌then◌else◌, List, [], ◌++◌, codes, Option, None}
use Rattle.std.specs.Prelude.{Some}
use Rattle.std.specs.Str.{bytes_eq}
use Rattle.http_uri.specs.Uri.{uri_path}
use Rattle.http.specs.declared.request.Parts.{Parts}
use Rattle.http_server.specs.declared.response.Response.{Response}
use Rattle.http_server.specs.Response.{IsResponse}
use Rattle.serving_http.specs.declared.route.Route.{Route}
use Rattle.serving_http.specs.declared.route.Route.TheVariants.{Page, Picture, Line, Lines, WrongMethod as WrongRoute}
use Rattle.serving_http.specs.declared.route.Route.TheVariants.{Unknown}
use Rattle.serving_http.specs.Fields.{is_ambiguous, is_for_room}
use Rattle.serving_http.specs.Responses.{IsRefused, IsText, text_fields}
use Rattle.serving_http.specs.Route.{route_of}
use Rattle.serving_http.specs.Sites.{is_for_site, is_from_site, SiteView}
use Rattle.serving_http.specs.Visiting.{is_visit}
use Rattle.serving_page.specs.Elsewhere.{TellsAddress}
use Rattle.serving_room.specs.declared.errand.Errand.{Errand}
use Rattle.serving_room.specs.declared.errand.Errand.TheVariants.{Look, Ask, LookForHold, TakeHold, EndHold, KeptOff}
use Rattle.serving_room.specs.declared.errand.Errand.TheVariants.{AtSeat}
use Rattle.serving_room.specs.declared.errand.Errand.TheVariants.{Elsewhere, Foreign, OtherRoom, Doubtful, WrongMethod}
use Rattle.serving_room.specs.declared.hold.Hold.{Hold}
use Rattle.serving_room.specs.declared.room_state.RoomState.{RoomState}
use Rattle.serving_room.specs.Holds.{beginning_line, ended_by, going_on, held_by, hold_line, is_kept_off, last_line}
use Rattle.serving_room.specs.Holds.{seen_by, taken_line}

-- a method
abbrev pub is_by : Parts → List ℕ → Bool
is_by head method = bytes_eq head.method method

-- what wants a change has to be a POST, to come from the page, and to be for this room if it names one
abbrev pub posted : Parts → SiteView → List ℕ → Errand → Errand
posted head site name errand =
    if is_by head (codes "POST") then (if is_from_site head site
    then (if is_for_room head name then errand else OtherRoom)
    else Foreign)
    else WrongMethod

-- a new room is asked for, unless another page holds the machine
abbrev pub about_renewal : Parts → SiteView → List ℕ → ℕ → Option Hold → Errand
about_renewal head site name seat hold =
    if is_by head (codes "GET") then Look
    else posted head site name (if is_kept_off hold seat then KeptOff else Ask)

abbrev pub about_hold : Parts → SiteView → List ℕ → Errand
about_hold head site name =
    if is_by head (codes "GET") then LookForHold else posted head site name TakeHold

-- the routes of lines
abbrev pub brings_lines : Route → Bool
brings_lines Page = false
brings_lines Picture = false
brings_lines Line = true
brings_lines Lines = true
brings_lines WrongRoute = false
brings_lines Unknown = false

-- a request about the room is for this site, and says nothing twice
abbrev pub for_page : Parts → SiteView → Errand → Errand
for_page head site errand =
    if is_for_site head site then (if is_ambiguous head then Doubtful else errand) else Elsewhere

-- by its path, a request is about the room; or it brings lines while another page holds the machine; any other goes to
-- the seat
abbrev pub errand_of : Parts → SiteView → List ℕ → ℕ → Option Hold → Errand
errand_of head site name seat hold =
    let path = uri_path head.uri in
    if bytes_eq path (codes "/renewal") then for_page head site (about_renewal head site name seat hold)
    else (if bytes_eq path (codes "/hold") then for_page head site (about_hold head site name)
    else (if bytes_eq path (codes "/release") then for_page head site (posted head site name EndHold)
    else (if is_kept_off hold seat && brings_lines (route_of head.method path)
    then for_page head site (posted head site name KeptOff)
    else AtSeat)))

-- the same with another hold
abbrev pub with_hold : RoomState → Option Hold → RoomState
with_hold room hold = record room { hold = hold }

-- the room when a request has come: its hold goes on, unless it is over; a visit of the page that holds is seen
abbrev pub seen_at : RoomState → Bool → RoomState
seen_at room visit =
    let hold = going_on room.hold room.time in
    with_hold room (if visit then seen_by hold room.seat room.time else hold)

-- what a request comes to in a room
abbrev pub errand_in : Parts → SiteView → List ℕ → RoomState → Errand
errand_in head site name room =
    errand_of head site name room.seat (seen_at room (is_visit head site)).hold

-- The room after it. A hold begins only by a request for one, and before its time only its page ends it; a new room is
-- asked for only by a request for it.
abbrev pub after_errand : Errand → RoomState → RoomState
after_errand Look room = room
after_errand Ask room = record room { asks = true }
after_errand LookForHold room = room
after_errand TakeHold room = with_hold room (held_by room.hold room.seat room.time)
after_errand EndHold room = with_hold room (ended_by room.hold room.seat)
after_errand KeptOff room = room
after_errand AtSeat room = record room { passes = true }
after_errand Elsewhere room = room
after_errand Foreign room = room
after_errand OtherRoom room = room
after_errand Doubtful room = room
after_errand WrongMethod room = room

-- the room when a line would be carried out, if it is held off
abbrev pub held_off : RoomState → Option RoomState
held_off room =
    let now = seen_at room false in
    if is_kept_off now.hold now.seat then Some now else None

-- who holds the machine, what was last done at it, at which seats somebody sits, and how the room was begun
abbrev pub said_of : RoomState → List ℕ → List ℕ
said_of room taken =
    hold_line room.hold room.time ++ last_line room.last ++ taken_line taken ++ beginning_line room.is_prepared

-- what is said of lines: why they are held off, since another page holds the machine, or nothing if memory is refused
abbrev pub HoldSays : List (List ℕ) → Option (List ℕ) → Type 0
HoldSays lines None = Unit {0}
HoldSays lines (Some text) =
    ((room : RoomState) × (taken : List ℕ) × (is_kept_off room.hold room.seat ≡ true) × (text ≡ said_of room taken))
    ⊎ (text ≡ [])

-- the answer to it, in the room after it
abbrev pub AnswersErrand : Errand → SiteView → List ℕ → RoomState → Response → Type 0
AnswersErrand Look site taken room response = (text : List ℕ) × IsText text response
AnswersErrand Ask site taken room response = (text : List ℕ) × IsText text response
AnswersErrand LookForHold site taken room response = IsText (said_of room taken) response
AnswersErrand TakeHold site taken room response = IsText (said_of room taken) response
AnswersErrand EndHold site taken room response = IsText (said_of room taken) response
AnswersErrand KeptOff site taken room response = IsResponse 423 text_fields (said_of room taken) response
AnswersErrand AtSeat site taken room response = Unit {0}
AnswersErrand Elsewhere site taken room response = TellsAddress site response
AnswersErrand Foreign site taken room response = IsRefused 403 response
AnswersErrand OtherRoom site taken room response = IsRefused 409 response
AnswersErrand Doubtful site taken room response = IsRefused 400 response
AnswersErrand WrongMethod site taken room response = IsRefused 405 response

-- what a request comes to in a room, at the page of a site, and its answer
abbrev pub AnswersInRoom : Parts → SiteView → List ℕ → List ℕ → RoomState → Response → RoomState → Type 0
AnswersInRoom head site name taken old response new =
    let errand = errand_in head site name old in
    (new ≡ after_errand errand (seen_at old (is_visit head site))) × AnswersErrand errand site taken new response

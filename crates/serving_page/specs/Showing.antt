-- A picture of the machine, as a request asks for one (own).
use Rattle.std.specs.Prelude.{◌≡◌, ℕ, ◌+◌, ◌<◌, ◌≤◌, ◌==◌, Bool, true, false, List, [], ◌++◌, length}
use Rattle.std.specs.Prelude.{Option, None, Some, if◌then◌else◌}
use mathlib.Core.List.{IsPrefix}
use Rattle.std.specs.Str.{bytes_eq}
use Rattle.http_server.specs.declared.response.Response.{Response}
use Rattle.http_server.specs.Response.{IsResponse}
use Rattle.room_1401.specs.Picture.{picture_after, window_cells}
use Rattle.room_1401.specs.Seen.{SeatView}
use Rattle.serving_page.specs.declared.asked.Asked.{Asked}
use Rattle.serving_page.specs.declared.showing.Sight.{Sight}
use Rattle.serving_page.specs.declared.showing.Sight.TheVariants.{Text, Same, NotInCore, Gone, NoMemory}
use Rattle.serving_page.specs.Asked.{asked_in, room_in}
use Rattle.serving_page.specs.PictureLines.{picture_text, room_line}
use Rattle.serving_http.specs.Responses.{IsRefused, IsText, text_fields}

-- whether the picture that a page has is after this number of commands
abbrev pub has_seen : Option ℕ → ℕ → Bool
has_seen None count = false
has_seen (Some after) count = after == count

-- what the text begins with: the name of the room, if the page has named one
abbrev pub heading : Option (List ℕ) → List ℕ → List ℕ
heading None name = []
heading (Some room) name = room_line name

-- a picture of another room is none that the page has
abbrev pub asked_here : Option (List ℕ) → List ℕ → Asked → Asked
asked_here None name asked = asked
asked_here (Some room) name asked = if bytes_eq room name then asked else record asked { after = None }

-- The window is in core storage; the seat made nothing, and has seen no less.
pub record HasLooked (size : ℕ) (asked : Asked) (before after : SeatView) : Type 0 where
  pub fits : asked.window.core + window_cells ≤ size
  pub number_is : after.number ≡ before.number
  pub made_is : after.made ≡ before.made
  pub grows : IsPrefix before.list after.list

-- what looking came to: the text of the picture after the commands that the seat has then seen, if the page hasn't the
-- picture after as many commands; that it has it; that the window isn't in core; that nothing is published any more; or
-- that memory was refused for the text
abbrev pub Sees : ℕ → ℕ → List ℕ → Asked → SeatView → Sight → SeatView → Type 0
Sees size seats front asked before (Text text) after =
    HasLooked size asked before after × (has_seen asked.after (length after.list) ≡ false)
    × (text.items ≡ front ++ picture_text before.number seats before.made (picture_after size after.list asked.window))
Sees size seats front asked before Same after =
    HasLooked size asked before after × (has_seen asked.after (length after.list) ≡ true)
Sees size seats front asked before NotInCore after = (size < asked.window.core + window_cells) × (after ≡ before)
Sees size seats front asked before Gone after = (asked.window.core + window_cells ≤ size) × (after ≡ before)
Sees size seats front asked before NoMemory after =
    HasLooked size asked before after × (has_seen asked.after (length after.list) ≡ false)

-- what is answered then
abbrev pub IsSightTold : Sight → Response → Type 0
IsSightTold (Text text) response = IsText text.items response
IsSightTold Same response = IsResponse 204 text_fields [] response
IsSightTold NotInCore response = IsResponse 404 text_fields [] response
IsSightTold Gone response = IsResponse 410 text_fields [] response
IsSightTold NoMemory response = IsResponse 507 text_fields [] response

-- a request for a picture is answered by what looking came to; a query that asks for none is refused
abbrev pub ShowsAsked : ℕ → ℕ → List ℕ → Option (List ℕ) → Option Asked → SeatView → Response → SeatView → Type 0
ShowsAsked size seats name room None before response after = IsRefused 400 response × (after ≡ before)
ShowsAsked size seats name room (Some asked) before response after =
    (sight : Sight) × Sees size seats (heading room name) (asked_here room name asked) before sight after
    × IsSightTold sight response

-- the same by the fields of its query; the room has this name
abbrev pub ShowsPicture : ℕ → ℕ → List ℕ → List (List ℕ) → SeatView → Response → SeatView → Type 0
ShowsPicture size seats name fields before response after =
    ShowsAsked size seats name (room_in fields) (asked_in fields) before response after

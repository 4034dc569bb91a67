-- Which picture a query asks for (own).
use Rattle.std.specs.Prelude.{ℕ, ◌==◌, nat_le, nat_lt, ◌&&◌, if◌then◌else◌, List, [], ◌∷◌, length, take}
use Rattle.std.specs.Prelude.{drop, codes, Option, None, Some}
use Rattle.std.specs.List.{starts_with}
use Rattle.std.specs.Str.{bytes_eq}
use Rattle.core_1401.specs.Address.{addresses}
use Rattle.devices_1401.specs.Devices.{most_held}
use Rattle.serving_http.specs.Numbers.{number_of}
use Rattle.room_1401.specs.declared.picture.Window.{Window}
use Rattle.serving_page.specs.declared.asked.Asked.{Asked}
use Rattle.serving_page.specs.Pieces.{pieces_of}

-- the number after a name, if the field begins with the name
unfoldable pub number_beyond : List ℕ → List ℕ → Option ℕ
number_beyond name field =
    if nat_lt (length field) (length name) then None
    else (if bytes_eq (take (length name) field) name then number_of (drop (length name) field) else None)

-- it parts the fields of a query
abbrev pub ampersand : ℕ
ampersand = 38

-- the fields of a query
abbrev pub fields_of : List ℕ → List (List ℕ)
fields_of query = pieces_of ampersand query

-- the window at an address of core and a line of the paper, which has no more than 500
abbrev pub window_of : Option ℕ → Option ℕ → Option Window
window_of None paper = None
window_of (Some core) None = None
window_of (Some core) (Some paper) =
    if nat_lt core addresses && nat_le paper most_held then Some (record { core = core; paper = paper }) else None

-- `core=` and an address, then `paper=` and the index of a line
abbrev pub window_by : List ℕ → List ℕ → Option Window
window_by core paper = window_of (number_beyond (codes "core=") core) (number_beyond (codes "paper=") paper)

-- a picture of the window, whatever the page has
abbrev pub asked_at : Option Window → Option Asked
asked_at None = None
asked_at (Some window) = Some (record { window = window; after = None })

-- a picture of the window, if it is after another number of commands than the one that the page has
abbrev pub asked_after : Option Window → Option ℕ → Option Asked
asked_after None after = None
asked_after (Some window) None = None
asked_after (Some window) (Some after) = Some (record { window = window; after = Some after })

-- the window, then perhaps `after=` and a count; nothing else
abbrev pub asked_by_fields : List (List ℕ) → Option Asked
asked_by_fields [] = None
asked_by_fields (core ∷ []) = None
asked_by_fields (core ∷ paper ∷ []) = asked_at (window_by core paper)
asked_by_fields (core ∷ paper ∷ after ∷ []) = asked_after (window_by core paper) (number_beyond (codes "after=") after)
asked_by_fields (core ∷ paper ∷ after ∷ more ∷ fields) = None

-- the picture that a query asks for
unfoldable pub asked_by : List ℕ → Option Asked
asked_by query = asked_by_fields (fields_of query)

-- what comes after a name, if the field begins with the name
abbrev pub text_beyond : List ℕ → List ℕ → Option (List ℕ)
text_beyond name field = if starts_with (λ a b. a == b) field name then Some (drop (length name) field) else None

-- the room that a query names in its first field, if it does
abbrev pub room_in : List (List ℕ) → Option (List ℕ)
room_in [] = None
room_in (field ∷ fields) = text_beyond (codes "room=") field

-- the picture that the fields ask for: those after the room, if one is named
abbrev pub asked_with : Option (List ℕ) → List (List ℕ) → Option Asked
asked_with None fields = asked_by_fields fields
asked_with (Some room) [] = None
asked_with (Some room) (field ∷ fields) = asked_by_fields fields

abbrev pub asked_in : List (List ℕ) → Option Asked
asked_in fields = asked_with (room_in fields) fields

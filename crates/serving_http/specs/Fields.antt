-- The fields of a request that say where it comes from, and what it goes on from (own).
use Rattle.std.specs.Prelude.{ℕ, ◌==◌, nat_lt, Bool, true, false, ◌||◌, if◌then◌else◌, List, ◌++◌, codes, length}
use Rattle.std.specs.Prelude.{Option, None, Some, is_some}
use Rattle.std.specs.Str.{bytes_eq}
use Rattle.http_header.specs.FieldValue.{FieldValue}
use Rattle.http_header.specs.HeaderMap.{get, get_all}
use Rattle.http_header.specs.Token.{lowercase}
use Rattle.http_uri.specs.Uri.{uri_authority}
use Rattle.http.specs.declared.request.Parts.{Parts}
use Rattle.machine_notation.specs.Digits.{digits_in}
use Rattle.serving_http.specs.Numbers.{number_of}

-- there is a field, and it has this value
abbrev pub is_value : Option FieldValue → List ℕ → Bool
is_value None value = false
is_value (Some found) value = bytes_eq found.bytes value

-- the first value of a field is this one, byte for byte
abbrev pub has_field : Parts → List ℕ → List ℕ → Bool
has_field head name value = is_value (get head.headers (lowercase name)) value

-- a field stands more than once
abbrev pub is_doubled : Parts → List ℕ → Bool
is_doubled head name = nat_lt 1 (length (get_all head.headers (lowercase name)))

-- a request says twice where it comes from, or what it goes on from
abbrev pub is_ambiguous : Parts → Bool
is_ambiguous head =
    is_doubled head (codes "origin") || is_doubled head (codes "x-1401-line") || is_doubled head (codes "x-1401-room")

-- a request is for this host and port: its target has none of its own, and its Host names it
abbrev pub is_for : Parts → List ℕ → Bool
is_for head host = if is_some (uri_authority head.uri) then false else has_field head (codes "host") host

-- the number in a field, if there is one
abbrev pub number_in_field : Option FieldValue → Option ℕ
number_in_field None = None
number_in_field (Some found) = number_of found.bytes

-- how many of the seat's commands were carried out before a line, as its sender knows
abbrev pub count_in : Parts → Option ℕ
count_in head = number_in_field (get head.headers (lowercase (codes "x-1401-line")))

-- whether a line goes on from this number of commands
abbrev pub is_next : Option ℕ → ℕ → Bool
is_next None made = false
is_next (Some count) made = count == made

-- a line that names a room is for the room of this name; without a name it is for any
abbrev pub is_name : Option FieldValue → List ℕ → Bool
is_name None name = true
is_name (Some found) name = bytes_eq found.bytes name

abbrev pub is_for_room : Parts → List ℕ → Bool
is_for_room head name = is_name (get head.headers (lowercase (codes "x-1401-room"))) name

-- the only host and port that a seat's page is served at
abbrev pub host_of : ℕ → List ℕ
host_of port = codes "127.0.0.1:" ++ digits_in 1 port

-- where a request of that page's script comes from
abbrev pub origin_of : ℕ → List ℕ
origin_of port = codes "http://" ++ host_of port

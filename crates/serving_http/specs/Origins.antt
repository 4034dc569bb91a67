-- Origins, as browsers write them (RFC 6454, and own).
use Rattle.std.specs.Prelude.{◌≡◌, ℕ, ◌+◌, ◌≤◌, ◌==◌, ◌^◌, Bool, ◌||◌, if◌then◌else◌, List, ◌++◌, codes, string_bytes}
use Rattle.std.specs.Prelude.{Option, None, Some}
use Rattle.std.specs.Str.{bytes_eq}
use Rattle.machine_notation.specs.Digits.{digits_in}
use Rattle.serving_http.specs.declared.origins.Origin.{Origin}
use Rattle.serving_http.specs.declared.origins.Scheme.{Scheme}
use Rattle.serving_http.specs.declared.origins.Scheme.TheVariants.{Http, Https}

-- the port that a browser leaves out
abbrev pub usual_port : Scheme → ℕ
usual_port Http = 80
usual_port Https = 443

abbrev pub scheme_text : Scheme → List ℕ
scheme_text Http = codes "http://"
scheme_text Https = codes "https://"

-- a port after its host
abbrev pub port_text : ℕ → List ℕ
port_text port = codes ":" ++ digits_in 1 port

-- the Host of a request to a host and a port
abbrev pub host_text : Scheme → List ℕ → ℕ → List ℕ
host_text scheme host port = if port == usual_port scheme then host else host ++ port_text port

-- the Origin of a request of a page there
abbrev pub origin_text : Scheme → List ℕ → ℕ → List ℕ
origin_text scheme host port = scheme_text scheme ++ host_text scheme host port

abbrev pub host_at : Origin → List ℕ
host_at origin = host_text origin.scheme (string_bytes origin.host) origin.port

abbrev pub origin_at : Origin → List ℕ
origin_at origin = origin_text origin.scheme (string_bytes origin.host) origin.port

-- the same with its port, whichever it is
abbrev pub whole_origin_at : Origin → List ℕ
whole_origin_at origin = (scheme_text origin.scheme ++ string_bytes origin.host) ++ port_text origin.port

-- a text is that of an origin: as browsers write it, or with its port
abbrev pub is_text_of : List ℕ → Origin → Bool
is_text_of text origin = bytes_eq text (origin_at origin) || bytes_eq text (whole_origin_at origin)

-- An origin is another one's, some ports further on.
pub record IsFurther (origin : Origin) (places : ℕ) (further : Origin) : Type 0 where
  pub scheme : further.scheme ≡ origin.scheme
  pub host : string_bytes further.host ≡ string_bytes origin.host
  pub port : further.port ≡ origin.port + places

-- the same, if there is a port so far on
abbrev pub IsFurtherIf : Origin → ℕ → Option Origin → Type 0
IsFurtherIf origin places None = 2 ^ 16 ≤ origin.port + places
IsFurtherIf origin places (Some further) = IsFurther origin places further

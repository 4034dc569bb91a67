-- Which requests are for a page and from it, computed.
use Rattle.std.proofs.Common.{◌≡◌, ℕ, Bool, true, false, List, [], ◌∷◌, refl}
use Rattle.std.specs.Fmt.{digits}
use Rattle.std.specs.Prelude.{codes, is_some, None}
use Rattle.http.specs.declared.request.Parts.{Parts}
use Rattle.http_header.specs.FieldValue.{plain_value}
use Rattle.http_uri.specs.Uri.{uri_authority}
use Rattle.serving_http.specs.declared.origins.Scheme.TheVariants.{Https}
use Rattle.serving_http.specs.Origins.{host_text, origin_text}
use Rattle.serving_http.specs.Sites.{is_from_either, is_within}

-- a head with this Host and this Origin
abbrev saying : Parts → List ℕ → List ℕ → Parts
saying head host origin = record head {
  headers = (codes "host", plain_value host ∷ []) ∷ (codes "origin", plain_value origin ∷ []) ∷ [];
}

-- whether a request with this Host and this Origin is within the origin outside of seat 1
abbrev is_within_museum : Parts → List ℕ → List ℕ → Bool
is_within_museum head host origin =
    is_within (saying head host origin) (host_text Https (codes "1401.museum.example") 8443)
    (origin_text Https (codes "1401.museum.example") 8443)

-- a target without a host of its own
abbrev IsBare : Parts → Type 0
IsBare head = is_some (uri_authority head.uri) ≡ false

its_own : (head : Parts) → IsBare head
    → is_within_museum head (codes "1401.museum.example:8443") (codes "https://1401.museum.example:8443") ≡ true
unfolding digits
its_own head bare = rw bare refl

another_seat_s_port : (head : Parts) → IsBare head
    → is_within_museum head (codes "1401.museum.example:8443") (codes "https://1401.museum.example:8444") ≡ false
unfolding digits
another_seat_s_port head bare = rw bare refl

a_foreign_origin : (head : Parts) → IsBare head
    → is_within_museum head (codes "1401.museum.example:8443") (codes "https://other.example:8443") ≡ false
unfolding digits
a_foreign_origin head bare = rw bare refl

without_tls : (head : Parts) → IsBare head
    → is_within_museum head (codes "1401.museum.example:8443") (codes "http://1401.museum.example:8443") ≡ false
unfolding digits
without_tls head bare = rw bare refl

a_foreign_host : (head : Parts) → IsBare head
    → is_within_museum head (codes "other.example:8443") (codes "https://1401.museum.example:8443") ≡ false
unfolding digits
a_foreign_host head bare = rw bare refl

the_loopback_s_host : (head : Parts) → IsBare head
    → is_within_museum head (codes "127.0.0.1:8080") (codes "https://1401.museum.example:8443") ≡ false
unfolding digits
the_loopback_s_host head bare = rw bare refl

-- without an origin outside, as at the loopback alone
the_loopback_alone : (head : Parts)
    → is_from_either (saying head (codes "127.0.0.1:8080") (codes "http://127.0.0.1:8080")) 8080 None ≡ true
unfolding digits
the_loopback_alone head = refl

the_loopback_s_next_port : (head : Parts)
    → is_from_either (saying head (codes "127.0.0.1:8080") (codes "http://127.0.0.1:8081")) 8080 None ≡ false
unfolding digits
the_loopback_s_next_port head = refl

-- Where a page is, and which requests are for it and from it (own).
use Rattle.std.specs.Prelude.{ℕ, Bool, ◌&&◌, ◌||◌, List, codes, Option, None, Some}
use Rattle.http.specs.declared.request.Parts.{Parts}
use Rattle.serving_http.specs.declared.origins.Origin.{Origin}
use Rattle.serving_http.specs.Fields.{has_field, host_of, is_for, origin_of}
use Rattle.serving_http.specs.Origins.{host_at, origin_at}

-- a port of the loopback, and the origin by which a proxy brings the page there to others
pub record SiteView : Type 0 where
  pub port : ℕ
  pub outside : Option Origin

-- a request is for a page: its Host is that of the loopback's port, or that of the outside origin
abbrev pub is_for_either : Parts → ℕ → Option Origin → Bool
is_for_either head port None = is_for head (host_of port)
is_for_either head port (Some outside) = is_for head (host_of port) || is_for head (host_at outside)

abbrev pub is_for_site : Parts → SiteView → Bool
is_for_site head site = is_for_either head site.port site.outside

-- Host and Origin name the same
abbrev pub is_within : Parts → List ℕ → List ℕ → Bool
is_within head host origin = is_for head host && has_field head (codes "origin") origin

-- a request comes from the page itself: its Origin is that of the loopback's port; with an outside origin its Host and
-- its Origin both name the one, or both the other
abbrev pub is_from_either : Parts → ℕ → Option Origin → Bool
is_from_either head port None = has_field head (codes "origin") (origin_of port)
is_from_either head port (Some outside) =
    is_within head (host_of port) (origin_of port) || is_within head (host_at outside) (origin_at outside)

abbrev pub is_from_site : Parts → SiteView → Bool
is_from_site head site = is_from_either head site.port site.outside

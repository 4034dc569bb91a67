-- What a request is answered that is for another host than the page's (own).
use Rattle.std.specs.Prelude.{ℕ, List, [], ◌++◌, codes, Option, None, Some}
use Rattle.http_server.specs.declared.response.Response.{Response}
use Rattle.http_server.specs.Response.{IsResponse}
use Rattle.serving_http.specs.declared.origins.Origin.{Origin}
use Rattle.serving_http.specs.Origins.{origin_at}
use Rattle.serving_http.specs.Responses.{text_fields}
use Rattle.serving_http.specs.Sites.{SiteView}
use Rattle.machine_notation.specs.Digits.{digits_in}

-- the origin outside, if there is one
abbrev pub outside_part : Option Origin → List ℕ
outside_part None = []
outside_part (Some outside) = codes " or " ++ (origin_at outside ++ codes "/")

-- where the page is
abbrev pub address_text : SiteView → List ℕ
address_text site =
    codes "this page is at http://127.0.0.1:"
    ++ (digits_in 1 site.port ++ (codes "/" ++ (outside_part site.outside ++ codes "\n")))

-- the request is refused, and hears where the page is
abbrev pub TellsAddress : SiteView → Response → Type 0
TellsAddress site response = IsResponse 403 text_fields (address_text site) response

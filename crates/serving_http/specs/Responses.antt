-- What a response has: its status, its fields and its body (own).
use Rattle.std.specs.Prelude.{◌≡◌, ℕ, ◌⊎◌, List, [], ◌∷◌, codes}
use Rattle.http1.specs.Fields.{Header}
use Rattle.http.specs.declared.request.Request.{Request}
use Rattle.http_server.specs.declared.response.Response.{Response}
use Rattle.http_server.specs.Response.{IsResponse}

-- a field by its name and its value
abbrev pub field : List ℕ → List ℕ → Header
field name value = (name, value)

-- each response isn't kept, has a type that isn't guessed, isn't named to other pages, and ends its connection
abbrev pub common_fields : List Header
common_fields =
    field (codes "cache-control") (codes "no-store")
    ∷ field (codes "x-content-type-options") (codes "nosniff")
    ∷ field (codes "referrer-policy") (codes "no-referrer")
    ∷ field (codes "connection") (codes "close")
    ∷ []

-- the page, and what its browser may do with it
abbrev pub page_fields : List ℕ → List Header
page_fields policy =
    field (codes "content-type") (codes "text/html; charset=utf-8")
    ∷ field (codes "content-security-policy") policy
    ∷ common_fields

-- a text
abbrev pub text_fields : List Header
text_fields = field (codes "content-type") (codes "text/plain; charset=utf-8") ∷ common_fields

-- a request is refused by a status
abbrev pub IsRefused : ℕ → Response → Type 0
IsRefused status response = IsResponse status common_fields [] response

-- a text; or 507 and none, if the memory for it was refused
abbrev pub IsText : List ℕ → Response → Type 0
IsText text response = IsResponse 200 text_fields text response ⊎ IsResponse 507 text_fields [] response

-- a request is refused, since a console sits at the seat
abbrev pub IsTaken : Response → Type 0
IsTaken response = IsResponse 503 text_fields (codes "a console sits at this seat\n") response

-- while a console sits at the seat, each request is told so, and leaves all as it was
abbrev pub TellsTaken : {S : Type 0} → S → Request (List ℕ) → Response → S → Type 0
TellsTaken old request response new = IsTaken response × (new ≡ old)

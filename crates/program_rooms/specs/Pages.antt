-- Where the consoles and the pages of a room's seats are (own).
use Rattle.std.specs.Prelude.{◌≡◌, ℕ, ◌+◌, List, [], ◌∷◌, length, Option, None, Some}
use Rattle.program_arguments.specs.declared.call.Operators.{Operators}
use Rattle.serving_http.specs.declared.origins.Origin.{Origin}
use Rattle.serving_http.specs.Origins.{IsFurther}
use Rattle.serving_http.specs.Sites.{SiteView}
use Rattle.serving_room.specs.declared.paging.PagePort.{PagePort}
use Rattle.serving_room.specs.Ports.{Address, IsAt}
use Rattle.program_rooms.specs.declared.entrances.Entrances.{Entrances}

-- a listener is at this port of the loopback
abbrev pub IsAtLoopback : ℕ → Address → Type 0
IsAtLoopback port address = IsAt (127 ∷ 0 ∷ 0 ∷ 1 ∷ []) port address

-- so many seats after the first, a proxy brings the page to others as many ports further on, if it does at all
abbrev pub IsOutsideAt : Option Origin → ℕ → Option Origin → Type 0
IsOutsideAt None places outside = outside ≡ None
IsOutsideAt (Some origin) places None = ⊥
IsOutsideAt (Some origin) places (Some outside) = IsFurther origin places outside

-- and here it is as many ports further on
abbrev pub IsPageAt : ℕ → Option Origin → ℕ → SiteView → Type 0
IsPageAt first origin places site = (site.port ≡ first + places) × IsOutsideAt origin places site.outside

-- this is the page of the seat that is so many places after the first, which is served at the loopback alone
abbrev pub IsPagePort : ℕ → Option Origin → ℕ → PagePort → Type 0
IsPagePort first origin places page =
    (page.seat ≡ places + 1) × IsPageAt first origin places page.site × IsAtLoopback (first + places) page.listening

-- these are the pages of the seats from that one on, in their order
abbrev pub ArePages : ℕ → Option Origin → ℕ → List PagePort → Type 0
ArePages first origin places [] = Unit {0}
ArePages first origin places (page ∷ pages) =
    IsPagePort first origin places page × ArePages first origin (places + 1) pages

-- consoles come where they were asked for
abbrev pub AreConsolesAt : Option ℕ → Option Address → Type 0
AreConsolesAt None consoles = consoles ≡ None
AreConsolesAt (Some port) None = ⊥
AreConsolesAt (Some port) (Some consoles) = IsAtLoopback port consoles

-- each seat has its page, from this port on, or none has
abbrev pub ArePagesFrom : Option ℕ → ℕ → Option Origin → List PagePort → Type 0
ArePagesFrom None seats origin pages = pages ≡ []
ArePagesFrom (Some first) seats origin pages = ArePages first origin 0 pages × (length pages ≡ seats)

-- the listeners are those that were asked for
abbrev pub IsOpenFor : Operators → Option Origin → Entrances → Type 0
IsOpenFor operators origin entrances =
    AreConsolesAt operators.port entrances.consoles
    × ArePagesFrom operators.page operators.seats origin entrances.pages.items

-- What a request asks for, by its method and its path (own).
use Rattle.std.specs.Prelude.{ℕ, List, codes, if◌then◌else◌}
use Rattle.std.specs.Str.{bytes_eq}
use Rattle.serving_http.specs.declared.route.Route.{Route}
use Rattle.serving_http.specs.declared.route.Route.TheVariants.{Page, Picture, Line, Lines, WrongMethod, Unknown}

-- the route, if its one method is the one that was used
abbrev pub by_method : List ℕ → List ℕ → Route → Route
by_method method wanted route = if bytes_eq method wanted then route else WrongMethod

-- each path has one method
abbrev pub route_of : List ℕ → List ℕ → Route
route_of method path =
    if bytes_eq path (codes "/") then by_method method (codes "GET") Page
    else (if bytes_eq path (codes "/picture") then by_method method (codes "GET") Picture
    else (if bytes_eq path (codes "/line") then by_method method (codes "POST") Line
    else (if bytes_eq path (codes "/lines") then by_method method (codes "POST") Lines
    else Unknown)))

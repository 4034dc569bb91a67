-- What requests ask for, computed.
use Rattle.std.proofs.Common.{◌≡◌, refl}
use Rattle.std.specs.Prelude.{codes}
use Rattle.serving_http.specs.declared.route.Route.TheVariants.{Page, Picture, Line, Lines, WrongMethod, Unknown}
use Rattle.serving_http.specs.Route.{route_of}

the_page : route_of (codes "GET") (codes "/") ≡ Page
the_page = refl

a_picture : route_of (codes "GET") (codes "/picture") ≡ Picture
a_picture = refl

a_line : route_of (codes "POST") (codes "/line") ≡ Line
a_line = refl

a_line_by_get : route_of (codes "GET") (codes "/line") ≡ WrongMethod
a_line_by_get = refl

several_lines : route_of (codes "POST") (codes "/lines") ≡ Lines
several_lines = refl

several_lines_by_get : route_of (codes "GET") (codes "/lines") ≡ WrongMethod
several_lines_by_get = refl

another_path : route_of (codes "POST") (codes "/line/") ≡ Unknown
another_path = refl

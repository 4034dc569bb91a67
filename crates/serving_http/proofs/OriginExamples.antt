-- What browsers send of an origin, computed.
use Rattle.std.proofs.Common.{◌≡◌, refl}
use Rattle.std.specs.Fmt.{digits}
use Rattle.std.specs.Prelude.{codes}
use Rattle.serving_http.specs.declared.origins.Scheme.TheVariants.{Http, Https}
use Rattle.serving_http.specs.Origins.{host_text, origin_text}

a_host_and_its_port : host_text Https (codes "1401.museum.example") 8443 ≡ codes "1401.museum.example:8443"
unfolding digits
a_host_and_its_port = refl

the_usual_port_is_left_out : host_text Https (codes "1401.museum.example") 443 ≡ codes "1401.museum.example"
unfolding digits
the_usual_port_is_left_out = refl

the_other_scheme_s_port_is_not : host_text Http (codes "1401.museum.example") 443 ≡ codes "1401.museum.example:443"
unfolding digits
the_other_scheme_s_port_is_not = refl

an_origin_has_its_scheme :
    origin_text Https (codes "1401.museum.example") 8443 ≡ codes "https://1401.museum.example:8443"
unfolding digits
an_origin_has_its_scheme = refl

without_tls : origin_text Http (codes "[2001:db8::1]") 80 ≡ codes "http://[2001:db8::1]"
unfolding digits
without_tls = refl

-- Names that are looked for among the values of an option.
use Rattle.std.proofs.Common.{◌≡◌, ℕ, List, Bor, map, sym}
use Rattle.std.specs.List.{list_any}
use Rattle.std.specs.Str.{bytes_eq}
use Rattle.clap.proofs.WalkLemmas.{list_any-map}

pub named : (names : List (Bor (List ℕ))) (name : List ℕ)
    → list_any (λ each. bytes_eq each name) (map (λ each. each.now) names)
    ≡ list_any (λ each. bytes_eq each.now name) names
named names name = sym (list_any-map (λ each. bytes_eq each name) (λ each. each.now) names)

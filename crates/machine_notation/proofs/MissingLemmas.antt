-- Values each of which may be missing: all of them, the first that is missed, and those beyond a limit.
use Rattle.std.proofs.Common.{◌≡◌, ℕ, ◌<◌, ◌≤◌, true, false, List, [], ◌∷◌, ◌++◌, length, take, get_or, map, Option}
use Rattle.std.proofs.Common.{Some, None, is_some, refl, ap, ◌∙◌, arith, length-append}
use Rattle.std.specs.Prelude.{filter_map}
use Rattle.std.specs.List.{list_all}
use Rattle.std.proofs.lemmas.List.{get_or-take, get_or_at, length-map, length-take, take_all, take_at}
use Rattle.std.proofs.lemmas.List.Folds.{list_all_at}

module _ {A : Type 0} where
  pub all_there : (values : List A) → list_all is_some (map Some values) ≡ true
  all_there [] = refl
  all_there (value ∷ values) = all_there values

  pub the_values : (values : List A) → filter_map (λ value. value) (map Some values) ≡ values
  the_values [] = refl
  the_values (value ∷ values) = ap (λ more. value ∷ more) (the_values values)

  -- up to the limit
  pub taken_all : (limit : ℕ) (values : List A) → length values ≤ limit → take limit (map Some values) ≡ map Some values
  taken_all limit values few =
      let many = length-map values Some in take_all limit (map Some values) (omega arith)

  -- one is missed before the limit
  pub missed : (limit : ℕ) (values : List A) (more : List (Option A)) → length values < limit
      → list_all is_some (take limit (map Some values ++ None ∷ more)) ≡ false
  missed limit values more few =
      let all : List (Option A) = map Some values ++ None ∷ more in
      let many = length-map values Some in
      let there : get_or (take limit all) (length values) None ≡ None =
      get_or-take limit all (length values) None few
      ∙ get_or_at (map Some values) None more None (length values) many in
      list_all_at is_some (take limit all) (length values) None
      (omega (arith, length-take limit all, length-append (map Some values) (None ∷ more))) (ap is_some there)

  -- those up to the limit are there
  pub taken_first : (limit : ℕ) (values : List A) (more : List (Option A)) → length values ≡ limit
      → take limit (map Some values ++ more) ≡ map Some values
  taken_first limit values more full = take_at (map Some values) more limit (length-map values Some ∙ full)

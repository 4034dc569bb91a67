-- Features by their names, computed.
use Rattle.std.proofs.Common.{◌≡◌, true, false, [], ◌∷◌, None, Some, refl}
use Rattle.std.specs.Prelude.{codes, map}
use Rattle.machine_tables.specs.declared.features.Feature.TheVariants.{BitTest, Lengths}
use Rattle.machine_tables.specs.Features.{feature_list, feature_name, feature_named, has_feature, no_features}
use Rattle.machine_tables.specs.Features.{with_feature}

-- each feature is the one of its name
each_name_is_its_own : map (λ feature. feature_named (feature_name feature)) feature_list ≡ map Some feature_list
unfolding feature_named
each_name_is_its_own = refl

a_name_is_in_small_letters : feature_named (codes "BIT-TEST") ≡ None
unfolding feature_named
a_name_is_in_small_letters = refl

one_more_is_one_more : map (has_feature (with_feature no_features Lengths)) (BitTest ∷ Lengths ∷ [])
    ≡ false ∷ true ∷ []
one_more_is_one_more = refl

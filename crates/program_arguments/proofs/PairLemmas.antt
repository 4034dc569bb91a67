-- What is known of both halves of a pair that there may be.
use Rattle.std.proofs.Common.{◌≡◌, Bool, true, false, Option, Some, None, option_map, refl, sym}
use Rattle.std.specs.Prelude.{not}

-- of the first half by one way, and of the second by another
pub both_halves : {X A B : Type 0} (f : X → A) (g : X → B) (x : Option X) (a : A) (b : B)
    → Some a ≡ option_map f x
    → Some b ≡ option_map (λ (p : A × B). p.1) (option_map {U = A × B} (λ y. (f y, g y)) x)
    → option_map {U = A × B} (λ y. (f y, g y)) x ≡ Some (a, b)
both_halves f g None a b first second = cc
both_halves f g (Some y) a b first second = cc

-- what is so if its opposite isn't
pub not_true : (is : Bool) → not is ≡ true → is ≡ false
not_true false e = refl
not_true true e = sym e

-- Two calls that are both made, whether or not the first is good.
use Rattle.std.proofs.Common.{◌≡◌, Result, Ok, Err, OnOk, subst, sym}
use Rattle.std.proofs.lemmas.Result.{on_ok_weaker}
use Rattle.std.specs.Result.{result_and}

both_of : {E : Type 0} (first second : Result (Unit {0}) E) (P Q : Type 0) → OnOk first P → OnOk second Q
    → OnOk (result_and first second) (P × Q)
both_of (Ok x) second P Q p q = on_ok_weaker second (λ holds. (p, holds)) q
both_of (Err e) second P Q p q = tt

-- where both are good, what each of them says holds
pub both : {E : Type 0} (first second all : Result (Unit {0}) E) (P Q : Type 0) → all ≡ result_and first second
    → OnOk first P → OnOk second Q → OnOk all (P × Q)
both {E} first second all P Q is p q =
    subst (λ (these : Result (Unit {0}) E). OnOk these (P × Q)) (sym is) (both_of first second P Q p q)

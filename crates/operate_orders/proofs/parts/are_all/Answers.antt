-- All bytes are of a kind if as many are in front as there are.
use Rattle.std.proofs.Common.{◌≡◌, ℕ, ◌+◌, Bool, true, false, ◌&&◌, cond, nat_eq, List, [], ◌∷◌, length, refl, arith}
use Rattle.std.specs.List.{prefix_len, list_all}
use Rattle.std.proofs.lemmas.Bool.Decides.{nat_tests}
use Rattle.operate_orders.specs.Kind.{is_of}
use Rattle.operate_orders.proofs.parts.are_all.Goals as goal

all_in_front : (p : ℕ → Bool) (xs : List ℕ) → nat_eq (prefix_len p xs) (length xs) ≡ list_all p xs
all_in_front p [] = refl
all_in_front p (x ∷ xs) =
    let more = all_in_front p xs in
    elim (p x) as (λ b. nat_eq (cond b (1 + prefix_len p xs) 0) (length (x ∷ xs)) ≡ (b && list_all p xs))
    [ true ↦ grind (arith, nat_tests, more) | false ↦ grind (arith, nat_tests) ]

pub returns : goal.returns
returns c = rw c.bytes_in_front.ensures.value (all_in_front (is_of c.args.kind) c.args.text.now)

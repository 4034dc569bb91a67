-- Operands one after another.
use Rattle.std.proofs.Common.{◌≡◌, ℕ, suc, true, false, List, [], ◌∷◌, ◌++◌, refl, ap, sym, append_assoc, append-nil}
use Rattle.std.specs.Prelude.{Option, Result, Ok, Err}
use Rattle.operate_orders.specs.List.{listed}
use Rattle.operate_orders.specs.Operands.{◌>>=◌}
use Rattle.operate_orders.specs.Parts.{operand_in, beyond_operand, is_end}
use Rattle.operate_orders.specs.declared.fault.OrderFault.{OrderFault}
use Rattle.operate_orders.specs.declared.fault.OrderFault.TheVariants.{Usage}
use Rattle.operate_orders.specs.declared.words.Keyword.{Keyword}

-- what was read so far, in front of what is left
abbrev pub with_front : {X : Type 0} → List X → Result (List X) OrderFault → Result (List X) OrderFault
with_front front (Ok more) = Ok (front ++ more)
with_front front (Err why) = Err why

pub front_nil : {X : Type 0} (read : Result (List X) OrderFault) → with_front [] read ≡ read
front_nil (Ok more) = refl
front_nil (Err why) = refl

more_front : {X : Type 0} (front : List X) (x : X) (read : Result (List X) OrderFault)
    → with_front front (read >>= λ more. Ok (x ∷ more)) ≡ with_front (front ++ x ∷ []) read
more_front front x (Ok more) = ap Ok (sym (append_assoc front (x ∷ []) more))
more_front front x (Err why) = refl

-- one more operand
pub one_listed : {A : Type 0} (keyword : Keyword) (one : List ℕ → Result (Option A) OrderFault) (n : ℕ) (rest : List ℕ)
    (x : Option A) (front : List (Option A)) → one (operand_in rest) ≡ Ok x
    → with_front front (listed keyword one (suc n) rest)
    ≡ with_front (front ++ x ∷ []) (listed keyword one n (beyond_operand rest))
unfolding listed
one_listed keyword one n rest x front read = rw read (more_front front x (listed keyword one n (beyond_operand rest)))

-- an operand with a fault
pub none_listed : {A : Type 0} (keyword : Keyword) (one : List ℕ → Result (Option A) OrderFault) (n : ℕ) (rest : List ℕ)
    (why : OrderFault) (front : List (Option A)) → one (operand_in rest) ≡ Err why
    → with_front front (listed keyword one (suc n) rest) ≡ Err why
unfolding listed
none_listed keyword one n rest why front read = rw read refl

-- nothing follows the last operand
pub listed_end : {A : Type 0} (keyword : Keyword) (one : List ℕ → Result (Option A) OrderFault) (n : ℕ) (rest : List ℕ)
    (front : List (Option A)) → n ≡ 0 → is_end rest ≡ true
    → with_front front (listed keyword one n rest) ≡ Ok front
unfolding listed
listed_end keyword one n rest front none ends = rw (none, ends) (ap Ok (append-nil front))

-- more follows it
pub listed_more : {A : Type 0} (keyword : Keyword) (one : List ℕ → Result (Option A) OrderFault) (n : ℕ) (rest : List ℕ)
    (front : List (Option A)) → n ≡ 0 → is_end rest ≡ false
    → with_front front (listed keyword one n rest) ≡ Err (Usage keyword)
unfolding listed
listed_more keyword one n rest front none more = rw (none, more) refl

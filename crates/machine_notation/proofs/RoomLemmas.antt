-- Room in a text for bytes that are added in parts.
use Rattle.std.proofs.Common.{◌≡◌, ℕ, ◌<◌, ◌≤◌, List, ◌++◌, length, take, get_or, vec_capacity, ap}
use Rattle.std.proofs.Common.{arith, length-append, Result, Ok, Err}
use Rattle.std.proofs.lemmas.List.Folds.{length-flat_map-take}
use Rattle.std.specs.List.{flat_map}
use Rattle.std.specs.Prelude.{OnErr}
use Rattle.std.specs.declared.vec.Vec.{Vec}
use Rattle.machine_notation.specs.Room.{LacksRoomFor}

-- what holds is so of an error
pub if_so : {T E P : Type 0} (result : Result T E) → P → OnErr result P
if_so (Ok value) so = tt
if_so (Err why) so = so

module _ {Z : Type 0} where
  -- all before this one were added, and there is none for it
  pub lacks_for_one : {X : Type 0} (text_of : X → List ℕ) (all : List X) (i : ℕ) (one : X) (old new : Vec ℕ Z)
      → i < length all → one ≡ get_or all i one → new.items ≡ old.items ++ flat_map text_of (take i all)
      → vec_capacity old ≤ vec_capacity new → LacksRoomFor new (text_of one)
      → LacksRoomFor old (flat_map text_of all)
  lacks_for_one text_of all i one old new there is added capacity full =
      let so_far : List ℕ = flat_map text_of (take i all) in
      let same : length (text_of one) ≡ length (text_of (get_or all i one)) = ap (λ each. length (text_of each)) is in
      omega (arith, length-flat_map-take text_of all i one there, length-append old.items so_far, ap length added, same)

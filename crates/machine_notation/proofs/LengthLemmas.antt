-- How many bytes the digits of an address take.
use Rattle.std.proofs.Common.{◌≡◌, ℕ, ◌+◌, ◌-◌, ◌^◌, ◌<◌, ◌≤◌, List, ◌++◌, length, replicate, ap, arith}
use Rattle.std.proofs.Common.{length-append, vec_capacity}
use Rattle.std.specs.declared.vec.Vec.{Vec}
use Rattle.std.specs.Fmt.{decimal}
use Rattle.std.proofs.lemmas.Fmt.{length-decimal-le}
use Rattle.std.proofs.lemmas.List.{length-replicate}
use Rattle.machine_notation.specs.Digits.{digits_in}
use Rattle.machine_notation.specs.Room.{LacksRoomFor}

-- they are five at most
five_digits : (width number : ℕ) → width ≤ 5 → number < 2 ^ 16 → length (digits_in width number) ≤ 5
five_digits width number narrow small =
    let few : length (decimal number) ≤ 5 = length-decimal-le 5 number (omega arith) (omega arith) (omega arith) in
    let zeros : List ℕ = replicate (width - length (decimal number)) 48 in
    let many : length zeros ≡ width - length (decimal number) =
    length-replicate {A = ℕ} (width - length (decimal number)) 48 in
    omega (arith, few, length-append zeros (decimal number), many)

-- a text grows by no more than five bytes
pub digits_added : (old new : List ℕ) (width number : ℕ) → new ≡ old ++ digits_in width number → width ≤ 5
    → number < 2 ^ 16
    → length new ≤ length old + 5
digits_added old new width number added narrow small =
    omega (arith, ap length added, length-append old (digits_in width number), five_digits width number narrow small)

-- and there is no room for five if there is none for them
pub digits_full : {Z : Type 0} (text : Vec ℕ Z) (width number : ℕ) → LacksRoomFor text (digits_in width number)
    → width ≤ 5 → number < 2 ^ 16 → vec_capacity text < length text.items + 5
digits_full text width number full narrow small = omega (arith, five_digits width number narrow small)

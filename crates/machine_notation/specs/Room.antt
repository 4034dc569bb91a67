-- Room for bytes in a text: they are added to it without more memory if there is (own).
use Rattle.std.specs.Prelude.{ℕ, ◌+◌, ◌<◌, List, length, vec_capacity}
use Rattle.std.specs.declared.vec.Vec.{Vec}

-- the text has less room than these bytes take
abbrev pub LacksRoomFor : {Z : Type 0} → Vec ℕ Z → List ℕ → Type 0
LacksRoomFor text bytes = vec_capacity text < length text.items + length bytes

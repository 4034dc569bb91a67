-- The texts and the numbers of refusals, as the console replies them (own).
use Rattle.std.specs.Prelude.{ℕ, List, codes}
use Rattle.machine_commands.specs.declared.answer.Refusal.{Refusal}
use Rattle.machine_commands.specs.declared.answer.Refusal.TheVariants.{Address, Hopper, Reader, Empty, Limit, Count}

-- a refusal by number and name
abbrev pub refusal_text : Refusal → List ℕ
refusal_text Address = codes "REFUSED 1 ADDRESS"
refusal_text Hopper = codes "REFUSED 2 HOPPER"
refusal_text Reader = codes "REFUSED 3 READER"
refusal_text Empty = codes "REFUSED 4 EMPTY"
refusal_text Limit = codes "REFUSED 5 LIMIT"
refusal_text Count = codes "REFUSED 6 COUNT"

-- its number
abbrev pub refusal_number : Refusal → ℕ
refusal_number Address = 1
refusal_number Hopper = 2
refusal_number Reader = 3
refusal_number Empty = 4
refusal_number Limit = 5
refusal_number Count = 6

-- What calls return that may want memory (own).
use Rattle.std.specs.Prelude.{◌≡◌, ◌⊎◌, Result, Ok, Err}
use Rattle.operate_answers.specs.declared.fault.LookFault.{LookFault}
use Rattle.operate_answers.specs.declared.fault.LookFault.TheVariants.{Memory}

-- what a call returned, seen by view, is the answer, unless memory was refused
abbrev pub Gives : {X Y : Type 0} → (X → Y) → Result X LookFault → Result Y LookFault → Type 0
Gives view (Ok value) answer = answer ≡ Ok (view value)
Gives view (Err why) answer = (why ≡ Memory) ⊎ (answer ≡ Err why)

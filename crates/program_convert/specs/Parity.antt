-- Characters on tape (A24-1403, "Magnetic Tape", from memory): in even parity a blank would have no bit, so bit A alone
-- stands for it.
use Rattle.std.specs.Prelude.{ℕ, ◌==◌, if◌then◌else◌}
use Rattle.program_arguments.specs.declared.call.Parity.{Parity}
use Rattle.program_arguments.specs.declared.call.Parity.TheVariants.{Even, Odd}

-- the character with bit A alone
abbrev pub a_alone : ℕ
a_alone = 16

-- the character that is on tape for one in core storage
abbrev pub taped : Parity → ℕ → ℕ
taped Odd char = char
taped Even char = if char == 0 then a_alone else char

-- the character as which one on tape is read
abbrev pub read_as : Parity → ℕ → ℕ
read_as Odd char = char
read_as Even char = if char == a_alone then 0 else char

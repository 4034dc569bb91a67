-- The sense switches by their letters (A24-1403, "Sense Switches").
use Rattle.std.specs.Prelude.{ℕ}
use Rattle.machine_tables.specs.declared.switch_name.SwitchName.{SwitchName}
use Rattle.machine_tables.specs.declared.switch_name.SwitchName.TheVariants.{A, B, C, D, E, F, G}

-- which of the machine's switches it is
abbrev pub switch_number : SwitchName → ℕ
switch_number A = 0
switch_number B = 1
switch_number C = 2
switch_number D = 3
switch_number E = 4
switch_number F = 5
switch_number G = 6

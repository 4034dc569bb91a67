-- Worked values: the commands of acts, and the lines of a statement.
use Rattle.std.proofs.Common.{◌≡◌, true, [], ◌∷◌, replicate, refl}
use Rattle.std.specs.Prelude.{codes, Ok}
use Rattle.core_1401.specs.Storage.{blank}
use Rattle.machine_commands.specs.declared.command.Command.TheVariants.{Deposit, SetI}
use Rattle.operate_orders.specs.declared.orders.Act.TheVariants as act
use Rattle.operate_program.specs.Act.{commands_of, mark_commands, pieces, start_commands}
use Rattle.operate_program.specs.Source.{columns, operands_in}
use Rattle.operate_program.specs.Statement.{statement_line}
use Rattle.operate_program.specs.Value.{address_of, adjusted, in_core, label_value, place_of, value_of}
use Rattle.operate_program.proofs.ExampleProgram.{label, machine, number, plain, program}

a_mark_is_one_cell : commands_of program machine (act.Mark (plain (number 1)))
    ≡ Ok (Deposit 1 (record { char = 0; mark = true } ∷ []) ∷ [])
unfolding mark_commands address_of value_of adjusted in_core
a_mark_is_one_cell = refl

go_is_its_start : commands_of program machine (act.Go (plain (label (codes "START")))) ≡ Ok (SetI 20 ∷ [])
unfolding start_commands address_of value_of label_value place_of adjusted in_core
go_is_its_start = refl

a_run_is_none : commands_of program machine (act.Step 3) ≡ Ok []
a_run_is_none = refl

forty_one_cells_are_two_deposits : pieces 100 (replicate 41 blank)
    ≡ Deposit 100 (replicate 40 blank) ∷ Deposit 140 (blank ∷ []) ∷ []
forty_one_cells_are_two_deposits = refl

a_statement_has_its_columns : statement_line (codes "MLC TAG,AREA") ≡ codes "               MLC  TAG,AREA"
unfolding statement_line
a_statement_has_its_columns = refl

a_remark_is_no_operand : operands_in (codes "               CC   S                   TWO SPACES") ≡ codes "S"
unfolding operands_in columns
a_remark_is_no_operand = refl

-- The line is that of the statement.
use Rattle.std.proofs.Common.{ℕ, List, Vec, Global, subst, ap, ◌∙◌}
use Rattle.machine_commands.specs.declared.command.Command.{Command}
use Rattle.operate_program.specs.Act.{Gives}
use Rattle.operate_program.specs.Statement.{placed_commands, statement_line}
use Rattle.operate_program.proofs.statements.statement_commands.Goals as goal

pub returns : goal.returns
returns c =
    subst
    (λ (line : List ℕ).
    Gives (λ (commands : Vec Command Global). commands.items) c.placed_commands.result
    (placed_commands c.args.program.now c.args.size c.args.at c.args.statement.now line))
    (c.as_slice-2.ensures.value ∙ c.in_ok-line.ensures ∙ ap statement_line c.as_slice.ensures.value)
    c.placed_commands.ensures

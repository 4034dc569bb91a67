-- The image of the source, or its fault.
use Rattle.std.proofs.Common.{List, Result, Err, Vec, Global, sym, ap, subst, ◌∙◌, inl, inr}
use Rattle.machine_commands.specs.declared.command.Command.{Command}
use Rattle.operate_program.specs.Act.{Gives}
use Rattle.operate_program.specs.declared.fault.ActFault.{ActFault}
use Rattle.operate_program.proofs.StatementLemmas.{assembled, refused}
use Rattle.operate_program.proofs.statements.assembled_commands.Goals as goal

pub returns-in-Ok : goal.returns-in-Ok
returns-in-Ok c =
    subst
    (λ (answer : Result (List Command) ActFault).
    Gives (λ (commands : Vec Command Global). commands.items) c.image_commands.result answer)
    (sym
    (assembled c.args.program.now c.args.size c.args.at c.args.statement.now c.args.line.now c.as_slice.result.now
    c.language.result c.in-Ok.image c.language.ensures (c.as_slice.ensures.value ∙ c.in_ok-source.ensures)
    c.in-Ok.ensures.exact))
    c.image_commands.ensures

pub returns : goal.returns
returns c =
    elim (c.in-Err.ensures.exact) [
      | inl memory ↦ inl (c.statement_fault.ensures.memory memory)
      | inr is ↦
          elim (c.statement_fault.ensures.either) [
            | inl refused_memory ↦ inl refused_memory
            | inr fault_is ↦
                inr
                (refused c.args.program.now c.args.size c.args.at c.args.statement.now c.args.line.now
                c.as_slice.result.now c.language.result c.in-Err.fault c.language.ensures
                (c.as_slice.ensures.value ∙ c.in_ok-source.ensures) is
                ∙ ap (λ (why : ActFault). Err why) (sym fault_is))
          ]
    ]

-- The command that is refused isn't the last but all.
use Rattle.std.proofs.Common.{rules, ◌≡◌, ◌∷◌}
use Rattle.std.proofs.lemmas.Result.{err_from_is_err_and}
use Rattle.console_1401.proofs.ImageLoadingLemmas.{stopped_at}
use Rattle.console_1401.proofs.image_loading.put_commands.Goals as goal

pub returns-in_err-put_command-clause-stopped : goal.returns-in_err-put_command-clause-stopped
returns-in_err-put_command-clause-stopped c =
    let p = err_from_is_err_and c.from_residual.result c.from_residual.ensures.1 in
    let left : c.loop-command.command-iterator ≡ c.in-Some.command ∷ c.next.new.self = search rules in
    rw p.1 (stopped_at c.args.room.now.journal c.loop-command.room.journal c.put_command.new.room.journal
    c.args.commands c.loop-command.command-iterator c.next.new.self c.in-Some.command c.loop-command.invariant.journal
    c.loop-command.invariant.fewer left c.in_err-put_command.ensures.err)

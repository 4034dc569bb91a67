-- One command more was given by this seat.
use Rattle.std.proofs.Common.{rules, ◌≡◌, ◌∷◌, ◌++◌, [], List, ap, sym, append_assoc, ◌∙◌}
use Rattle.machine_commands.specs.declared.command.Command.{Command}
use Rattle.program_rooms.specs.Beginning.{Gave}
use Rattle.program_rooms.proofs.BeginningLemmas.{gave_more}
use Rattle.program_rooms.proofs.beginning.put_image_by.Goals as goal

pub loop-command-preserved : goal.loop-command-preserved
loop-command-preserved g c =
    let size = g.J.RoomId.size in
    let so_far = c.loop-command.yielded in
    let command = c.in-Some.command in
    let seat = c.loop-command.seat in
    let new = c.give.new.seat in
    let given = c.in_default.ensures in
    let left : c.loop-command.command-iterator ≡ command ∷ c.next.new.self = search rules in
    let last : Gave size command seat new = record {
      number = given.number;
      made = given.made;
      answer = given.carried.0;
      carried = given.carried.1;
    } in
    record {
      can = tt;
      ends = tt;
      number = given.number ∙ c.loop-command.invariant.number;
      all = append_assoc so_far (command ∷ []) c.next.new.self ∙ ap (λ (rest : List Command). so_far ++ rest) (sym left)
          ∙ c.loop-command.invariant.all;
      gave = gave_more size so_far command c.args.seat.now seat new c.loop-command.invariant.gave last;
    }

-- The commands so far are in the journal, and those that are left lie in core storage.
use Rattle.std.proofs.Common.{◌≡◌, ◌≤◌, ◌++◌, true, length, map}
use Rattle.std.specs.List.{list_all}
use Rattle.console_1401.specs.ImageLoading.{done_entry, is_within}
use Rattle.console_1401.proofs.image_loading.put_commands.Given as goal

abbrev pub invariant-loop-command : goal.invariant-loop-command
invariant-loop-command l = record {
  can : (goal.iterator-loop-command).can_next l.command-iterator;
  ends : (goal.iterator-loop-command).is_finite l.command-iterator;
  journal : l.room.journal ++ map done_entry l.command-iterator ≡ l.fn.room.journal ++ map done_entry l.fn.commands;
  fewer : length l.command-iterator ≤ length l.fn.commands;
  within : list_all (is_within l.room.size) l.command-iterator ≡ true;
  size : l.room.size ≡ l.fn.room.size;
}

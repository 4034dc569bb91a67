-- The segments so far are in the journal, and those that are left lie in core storage.
use Rattle.std.proofs.Common.{◌≡◌, ◌++◌, true, length}
use Rattle.std.specs.List.{list_all}
use Rattle.machine_image.specs.Image.{is_inside}
use Rattle.console_1401.specs.ImageLoading.{load_entries}
use Rattle.program_operate.proofs.opening.put_packed.Given as goal

abbrev pub invariant-loop-segment : goal.invariant-loop-segment
invariant-loop-segment l = record {
  journal : l.room.journal
      ++ load_entries (record { size = l.image.size; segments = l.rest; start = l.image.start })
      ≡ l.fn.room.journal ++ load_entries l.image;
  inside : list_all (is_inside l.image.size) l.rest ≡ true;
  size : l.room.size ≡ l.fn.room.size;
}

abbrev pub decreases-loop-segment : goal.decreases-loop-segment
decreases-loop-segment l = length l.rest

-- The lines of the segments so far are added, and each of them is one of the machine's.
use Rattle.std.proofs.Common.{◌≡◌, ◌++◌, true, take}
use Rattle.std.specs.List.{flat_map, list_all}
use Rattle.machine_image.specs.ImageText.{line_of, segment_text, is_segment}
use Rattle.machine_image.proofs.writing.put_segments.Given as goal

abbrev pub invariant-loop-segment : goal.invariant-loop-segment
invariant-loop-segment l = record {
  text : l.text.items ≡ l.initial.text.items
      ++ flat_map (λ segment. line_of (segment_text l.version segment)) (take l.segment-index l.segments);
  cells : list_all is_segment (take l.segment-index l.segments) ≡ true;
}

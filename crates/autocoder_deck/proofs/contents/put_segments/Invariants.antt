-- Storage with the segments that are left is that with all of them.
use Rattle.std.proofs.Common.{◌≡◌, true, length, drop}
use Rattle.std.specs.List.{list_all}
use Rattle.machine_image.specs.Image.{is_inside}
use Rattle.autocoder_deck.specs.Contents.{with_segments}
use Rattle.autocoder_deck.proofs.contents.put_segments.Given as goal

abbrev pub invariant-loop-segment : goal.invariant-loop-segment
invariant-loop-segment l = record {
  storage : with_segments l.storage (drop l.segment-index l.segments) ≡ with_segments l.initial.storage l.segments;
  size : length l.storage ≡ length l.initial.storage;
  inside : list_all (is_inside (length l.storage)) (drop l.segment-index l.segments) ≡ true;
}

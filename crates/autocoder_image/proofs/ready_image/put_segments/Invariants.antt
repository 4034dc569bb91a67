-- What was written, what isn't written yet, and the lines of the segments that are left, are those of all segments.
use Rattle.std.proofs.Common.{◌++◌, length}
use Rattle.bytes_streams.specs.Page.{Sent}
use Rattle.machine_image.specs.ImageText.{segments_text}
use Rattle.machine_image.specs.declared.version.Version.TheVariants.{Two}
use Rattle.autocoder_image.specs.Pages.{unwritten, HasRoom}
use Rattle.autocoder_image.proofs.ready_image.put_segments.Given as goal

abbrev pub invariant-loop-segment : goal.invariant-loop-segment
invariant-loop-segment g l = record {
  sent : Sent (g.W.Sink.received l.initial.writer) (g.W.Sink.received l.writer)
      (unwritten l.initial.pages ++ segments_text Two l.image.segments)
      (unwritten l.pages ++ segments_text Two l.rest);
  room : HasRoom l.pages;
}

abbrev pub decreases-loop-segment : goal.decreases-loop-segment
decreases-loop-segment g l = length l.rest

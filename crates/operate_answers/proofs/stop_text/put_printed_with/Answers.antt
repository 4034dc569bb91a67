-- A printed line, and then its text.
use Rattle.bytes_text.proofs.AddsLemmas.{adds}
use Rattle.operate_answers.specs.StopText.{printed_with_text}
use Rattle.operate_answers.proofs.stop_text.put_printed_with.Goals as goal

pub returns : goal.returns
unfolding printed_with_text
returns c = adds _ _ _ _ _ c.put.ensures c.put_quoted.ensures

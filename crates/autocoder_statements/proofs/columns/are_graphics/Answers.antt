-- One more byte passes the test, or doesn't.
use Rattle.std.proofs.Common.{arith}
use Rattle.std.proofs.lemmas.List.Folds.{list_all_more}
use Rattle.autocoder_statements.specs.SourceLine.{is_graphic}
use Rattle.autocoder_statements.proofs.columns.are_graphics.Goals as goal

pub loop-byte-preserved : goal.loop-byte-preserved
loop-byte-preserved c =
    let more = list_all_more is_graphic c.args.text.now c.loop-byte.byte-index 0 (omega (arith, c.loop-byte-test.true)) in
    cc

-- Blanks follow the text.
use Rattle.std.proofs.Common.{rules}
use Rattle.bytes_text.specs.Written.{Adds}
use Rattle.bytes_text.proofs.AddsLemmas.{adds_padded}
use Rattle.machine_notation.specs.ShownText.{shown_text}
use Rattle.job_steps.proofs.fetched.put_text_columns.Goals as goal

pub returns : goal.returns
returns c =
    let shown : Adds c.args.text.now c.put_back.new.self (shown_text c.args.cells.now) = search rules in
    adds_padded c.args.text.now c.put_back.new.self c.pad.new.self (shown_text c.args.cells.now) c.len-from.result 20
    c.len-from.ensures shown c.pad.ensures

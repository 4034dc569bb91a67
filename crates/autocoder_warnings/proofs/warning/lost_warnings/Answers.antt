-- They are those of the source's lines, wherever these are placed.
use Rattle.std.proofs.Common.{List, ◌∙◌, sym, ap, replicate}
use Rattle.autocoder_placing.specs.Filling.{filled}
use Rattle.autocoder_placing.specs.Placement.{placed, unplaced}
use Rattle.autocoder_statements.specs.declared.statement.Line.{Line}
use Rattle.autocoder_symbols.specs.Reading.{lines_in}
use Rattle.autocoder_warnings.specs.FittedNotes.{known_with}
use Rattle.autocoder_warnings.specs.Loss.{losses_of}
use Rattle.autocoder_warnings.specs.Lost.{lost_from}
use Rattle.autocoder_warnings.proofs.LostLemmas.{lines_lost}
use Rattle.autocoder_warnings.proofs.warning.lost_warnings.Goals as goal

pub returns-clause-ok : goal.returns-clause-ok
returns-clause-ok c features size =
    let source = c.args.source.now in
    let lines = lines_in c.args.language source in
    let all = placed lines in
    c.in_ok-warnings.ensures.ok
    ∙ ap (λ (read : List Line). lost_from 1 (losses_of source) read) (c.lend.ensures ∙ c.in_ok-lines.ensures.lines)
    ∙ sym (lines_lost features (known_with features lines) (filled size lines) 1 all (unplaced all) lines
    (replicate size 0) 0 (losses_of source) lines)

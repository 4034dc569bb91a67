-- What is written by the heads of all lines is their listing.
use Rattle.autocoder_placing.specs.Placement.{unplaced}
use Rattle.autocoder_placing.specs.View.{places_of}
use Rattle.autocoder_statements.specs.SourceLine.{lines_of}
use Rattle.autocoder_listing.proofs.HeadsLemmas.{text_is}
use Rattle.autocoder_listing.proofs.writing.ready_listing.Goals as goal

pub returns-clause-text : goal.returns-clause-text
returns-clause-text c =
    let all = places_of c.args.all.now in
    let made = c.in_ok-heads.heads in
    text_is all (unplaced all) c.args.lines.now (lines_of c.args.source.now) made.heads.items made.literals.items
    c.requires.as_many c.in_ok-heads.ensures.heads c.in_ok-heads.ensures.literals

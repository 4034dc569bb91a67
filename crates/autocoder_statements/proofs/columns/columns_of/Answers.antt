-- The first 80 bytes, or all of them if there are fewer.
use Rattle.std.proofs.Common.{◌≡◌, ◌∙◌, refl, length, take, min, arith}
use Rattle.std.proofs.lemmas.List.{take_min}
use Rattle.autocoder_statements.specs.SourceLine.{columns_of}
use Rattle.autocoder_statements.proofs.columns.columns_of.Goals as goal

pub returns : goal.returns
unfolding columns_of
returns c =
    let line = c.args.line.now in
    let count : c.min.result ≡ min 80 (length line) = omega (arith, c.min.ensures) in
    let front : take c.min.result line ≡ take 80 line = rw count (take_min 80 line) in
    c.padded.ensures ∙ rw front refl

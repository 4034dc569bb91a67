-- The lines that are left ask for what the source asks for.
use Rattle.std.proofs.Common.{◌≡◌, map, length}
use Rattle.autocoder_statements.specs.Context.{first_size}
use Rattle.autocoder_statements.specs.Language.{line_in}
use Rattle.autocoder_statements.specs.SourceLine.{lines_of}
use Rattle.autocoder_statements.specs.declared.language.Language.TheVariants as languages
use Rattle.autocoder_statements.proofs.context.first_size.Given as goal

abbrev pub invariant-loop-line : goal.invariant-loop-line
invariant-loop-line l =
    first_size (map (line_in languages.Ibm) (lines_of l.rest))
    ≡ first_size (map (line_in languages.Ibm) (lines_of l.source))

abbrev pub decreases-loop-line : goal.decreases-loop-line
decreases-loop-line l = length l.rest

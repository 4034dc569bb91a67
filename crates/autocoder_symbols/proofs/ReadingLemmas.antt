-- A source has as many lines as its text, in each language.
use Rattle.std.proofs.Common.{◌≡◌, ℕ, suc, List, [], ◌∷◌, map, length, refl, ap, ◌∙◌}
use Rattle.std.proofs.lemmas.List.{length-map}
use Rattle.autocoder_statements.specs.Context.{nothing_above, below, with_context, with_registers, registers_of}
use Rattle.autocoder_statements.specs.Context.{lines_said}
use Rattle.autocoder_statements.specs.Language.{line_in}
use Rattle.autocoder_statements.specs.Statement.{line_of}
use Rattle.autocoder_statements.specs.declared.context.Context.{Context}
use Rattle.autocoder_statements.specs.declared.language.Language.{Language}
use Rattle.autocoder_statements.specs.declared.language.Language.TheVariants.{Plain, Ibm}
use Rattle.autocoder_statements.specs.declared.statement.Line.{Line}

as_many_in_context : (this : Context) (lines : List Line) → length (with_context this lines) ≡ length lines
as_many_in_context this [] = refl
as_many_in_context this (line ∷ lines) = ap suc (as_many_in_context (below this line) lines)

pub as_many_said : (language : Language) (texts : List (List ℕ)) → length (lines_said language texts) ≡ length texts
as_many_said Plain texts = length-map texts line_of
as_many_said Ibm texts =
    let lines = with_context nothing_above (map (line_in Ibm) texts) in
    length-map lines (with_registers (registers_of lines)) ∙ as_many_in_context nothing_above (map (line_in Ibm) texts)
    ∙ length-map texts (line_in Ibm)

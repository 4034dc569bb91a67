-- All faults of a source, each with what is wrong (own).
use Rattle.std.specs.Prelude.{ℕ, List, [], ◌∷◌, Option, None, Some}
use Rattle.autocoder_statements.specs.Context.{lines_said}
use Rattle.autocoder_statements.specs.declared.language.Language.{Language}
use Rattle.autocoder_symbols.specs.declared.fault.AsmFault.{AsmFault}
use Rattle.autocoder_diagnostics.specs.Explanation.{whole_line, explained_lines}
use Rattle.autocoder_diagnostics.specs.declared.explanation.Cause.TheVariants as causes
use Rattle.autocoder_diagnostics.specs.declared.explanation.Explanation.{Explanation}
use Rattle.autocoder_placing.specs.Values.{first_outside}

-- the faults of lines; of lines without any, the first of which something isn't in core
abbrev pub or_outside_explained : List Explanation → Option AsmFault → List Explanation
or_outside_explained [] None = []
or_outside_explained [] (Some outside) = whole_line causes.OutOfCore outside ∷ []
or_outside_explained (first ∷ more) outside = first ∷ more

-- all faults of a source's lines, each with what is wrong
abbrev pub all_explained : Language → ℕ → List (List ℕ) → List Explanation
all_explained language size sources =
    or_outside_explained (explained_lines language sources) (first_outside size (lines_said language sources))

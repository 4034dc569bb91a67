-- What is explained of a source is what is told.
use Rattle.std.proofs.Common.{◌≡◌, ℕ, List, [], ◌∷◌, ◌++◌, Option, None, Some, refl, sym, ap, ◌∙◌}
use Rattle.autocoder_statements.specs.Context.{lines_said}
use Rattle.autocoder_statements.specs.declared.language.Language.{Language}
use Rattle.autocoder_symbols.specs.declared.fault.AsmFault.{AsmFault}
use Rattle.autocoder_diagnostics.specs.Explanation.{whole_line, explained_lines, faults_of}
use Rattle.autocoder_diagnostics.specs.OwnFault.{told}
use Rattle.autocoder_diagnostics.specs.declared.explanation.Cause.TheVariants as causes
use Rattle.autocoder_diagnostics.specs.declared.explanation.Explanation.{Explanation}
use Rattle.autocoder_diagnostics.proofs.ExplanationLemmas.{told_lines, none_told}
use Rattle.autocoder_placing.specs.Values.{first_outside}
use Rattle.autocoder_1401.specs.AllFaults.{or_outside, all_faults, fault_in}
use Rattle.autocoder_1401.specs.Assembly.{unless_fault}
use Rattle.autocoder_1401.specs.Explaining.{or_outside_explained, all_explained}
use Rattle.autocoder_1401.proofs.AllFaultsLemmas.{only_outside}

with_outside : (explanations : List Explanation) (outside : Option AsmFault)
    → faults_of (or_outside_explained explanations outside) ≡ or_outside (faults_of explanations) outside
with_outside [] None = refl
with_outside [] (Some outside) = refl
with_outside (first ∷ more) outside = refl

pub told_all : (language : Language) (size : ℕ) (sources : List (List ℕ))
    → faults_of (all_explained language size sources)
    ≡ all_faults language size (lines_said language sources)
told_all language size sources =
    with_outside (explained_lines language sources) (first_outside size (lines_said language sources))
    ∙ ap (λ faults. or_outside faults (first_outside size (lines_said language sources)))
    (told_lines language sources)

-- of a source whose lines have no fault, what the assembler tells
pub outside_explained : {X : Type 0} (language : Language) (size : ℕ) (sources : List (List ℕ)) (answer : X)
    (told : List Explanation) (fault : AsmFault) → told ≡ explained_lines language sources → told ≡ []
    → Some fault ≡ fault_in (unless_fault language size (lines_said language sources) answer)
    → told ++ whole_line causes.OutOfCore fault ∷ [] ≡ all_explained language size sources
outside_explained {X} language size sources answer told fault same empty tells =
    let none : explained_lines language sources ≡ [] = sym same ∙ empty in
    let outside : first_outside size (lines_said language sources) ≡ Some fault =
    sym (only_outside language size (lines_said language sources) answer (none_told language sources none)) ∙ sym tells in
    rw (empty, none, outside) refl

-- What is explained is what is told.
use Rattle.std.proofs.Common.{◌≡◌, ℕ, ◌≤◌, List, [], ◌∷◌, ◌++◌, length, map, Option, None, Some, refl, sym, ap, ◌∙◌, arith}
use Rattle.std.proofs.lemmas.List.{at_drop_all, map-append}
use Rattle.autocoder_statements.specs.Context.{lines_said}
use Rattle.autocoder_statements.specs.SourceLine.{columns_of, lines_of}
use Rattle.autocoder_statements.specs.declared.language.Language.{Language}
use Rattle.autocoder_statements.specs.declared.statement.Line.{Line}
use Rattle.autocoder_statements.proofs.SourceLineLemmas
use Rattle.autocoder_symbols.specs.Known.{Declared, declared_at}
use Rattle.autocoder_symbols.specs.Symbols.{Sites, sites_anywhere}
use Rattle.autocoder_symbols.specs.declared.fault.AsmFault.{AsmFault}
use Rattle.autocoder_symbols.specs.declared.fault.AsmKind.{AsmKind}
use Rattle.autocoder_symbols.proofs.ReadingLemmas.{as_many_said}
use Rattle.autocoder_diagnostics.specs.ToldFaults.{told_faults, told_end, faults_from, line_faults}
use Rattle.autocoder_diagnostics.specs.Explanation.{explained, whole_line, explained_from, explained_lines, faults_of}
use Rattle.autocoder_diagnostics.specs.Explanation.{explained_beyond}
use Rattle.autocoder_diagnostics.specs.OwnFault.{before_next, nothing_before, told}
use Rattle.autocoder_diagnostics.specs.declared.explanation.Cause.{Cause}
use Rattle.autocoder_diagnostics.specs.declared.explanation.Cause.TheVariants as causes
use Rattle.autocoder_diagnostics.specs.declared.explained_lines.Reached.{Reached}
use Rattle.autocoder_diagnostics.specs.declared.explanation.Explanation.{Explanation}
use Rattle.autocoder_diagnostics.specs.declared.own_fault.Before.{Before}

-- what has 80 columns already is as it stands
pub columns_stay : (columns : List ℕ) → length columns ≡ 80 → columns_of columns ≡ columns
columns_stay columns full = SourceLineLemmas.columns_stay columns full

one_told : (language : Language) (declared : Declared) (anywhere : Sites) (lines : List Line) (number : ℕ) (source : List ℕ)
    (line : Line) (kind : Option AsmKind)
    → faults_of (explained language declared anywhere lines number source line kind) ≡ told_faults number kind
one_told language declared anywhere lines number source line None = refl
one_told language declared anywhere lines number source line (Some kind) = refl

faults_alone : (cause : Cause) (faults : List AsmFault) → faults_of (map (whole_line cause) faults) ≡ faults
faults_alone cause [] = refl
faults_alone cause (fault ∷ faults) = ap (λ more. fault ∷ more) (faults_alone cause faults)

told_from : (language : Language) (declared : Declared) (anywhere : Sites) (all : List Line) (this : Before) (lines : List Line)
    (sources : List (List ℕ)) → length lines ≡ length sources
    → faults_of (explained_from language declared anywhere all this lines sources)
    ≡ faults_from declared anywhere this lines
told_from language declared anywhere all this [] sources as_many = faults_alone causes.NoEnd (told_end this)
told_from language declared anywhere all this (line ∷ lines) [] as_many = absurd (omega (arith, as_many))
told_from language declared anywhere all this (line ∷ lines) (source ∷ sources) as_many =
    let kind = told declared anywhere this line in
    let beyond = explained_from language declared anywhere all (before_next declared this line) lines sources in
    map-append (λ (each : Explanation). each.fault)
    (explained language declared anywhere all this.at.number source line kind) beyond
    ∙ ap (λ first. first ++ faults_of beyond) (one_told language declared anywhere all this.at.number source line kind)
    ∙ ap (λ more. told_faults this.at.number kind ++ more)
    (told_from language declared anywhere all (before_next declared this line) lines sources (omega (arith, as_many)))

pub told_lines : (language : Language) (sources : List (List ℕ)) → faults_of (explained_lines language sources)
    ≡ line_faults language (lines_said language sources)
told_lines language sources =
    let lines = lines_said language sources in
    told_from language (declared_at language lines) (sites_anywhere lines) lines nothing_before lines sources
    (as_many_said language sources)

-- if no line has a fault, none is told
pub none_told : (language : Language) (sources : List (List ℕ)) → explained_lines language sources ≡ []
    → line_faults language (lines_said language sources) ≡ []
none_told language sources none = sym (told_lines language sources) ∙ ap faults_of none

-- beyond the last line there is only that no END was found
pub none_beyond : (language : Language) (declared : Declared) (anywhere : Sites) (lines : List Line) (reached : Reached)
    → length lines ≤ reached.above
    → explained_beyond language declared anywhere lines reached
    ≡ map (whole_line causes.NoEnd) (told_end reached.before)
none_beyond language declared anywhere lines reached few =
    at_drop_all (λ (left : List Line). explained_from language declared anywhere lines reached.before left
    (lines_of reached.rest.now)) lines reached.above few

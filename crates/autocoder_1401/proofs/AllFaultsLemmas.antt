-- What is told of a source: first the fault that the assembler tells; and nothing that isn't there.
use Rattle.std.proofs.Common.{◌≡◌, ℕ, List, [], ◌∷◌, ◌++◌, Option, None, Some, refl, sym, ap, ◌∙◌, arith, Ok, inl}
use Rattle.std.proofs.Common.{inr, All}
use Rattle.std.proofs.lemmas.List.Elements.{All-nil, All-cons, All-weaker}
use Rattle.autocoder_statements.specs.declared.language.Language.{Language}
use Rattle.autocoder_statements.specs.declared.statement.Line.{Line}
use Rattle.autocoder_symbols.specs.Known.{declared_at}
use Rattle.autocoder_symbols.specs.Symbols.{sites_anywhere}
use Rattle.autocoder_symbols.specs.declared.fault.AsmFault.{AsmFault}
use Rattle.autocoder_diagnostics.specs.ToldFaults.{line_faults, first_in, IsThere}
use Rattle.autocoder_diagnostics.specs.OwnFault.{told, nothing_before}
use Rattle.autocoder_diagnostics.specs.FirstFault.{first_fault}
use Rattle.autocoder_diagnostics.proofs.ToldFaultsLemmas.{first_of_lines, each_from}
use Rattle.autocoder_placing.specs.Values.{first_outside}
use Rattle.autocoder_placing.proofs.LawLemmas.{found_outside}
use Rattle.autocoder_1401.specs.AllFaults.{or_outside, all_faults, fault_in, IsTold}
use Rattle.autocoder_1401.specs.Assembly.{fault_or, unless_fault}

-- if no fault of a line is told, the assembler has no other than what isn't in core
pub only_outside : {X : Type 0} (language : Language) (size : ℕ) (lines : List Line) (answer : X)
    → line_faults language lines ≡ []
    → fault_in (unless_fault language size lines answer) ≡ first_outside size lines
only_outside {X} language size lines answer none =
    let clean : first_fault language lines ≡ None = sym (first_of_lines language lines) ∙ ap first_in none in
    ap (λ first. fault_in (fault_or first (fault_or (first_outside size lines) (Ok answer)))) clean
    ∙ by (first_outside size lines)
  where
    by : (outside : Option AsmFault) → fault_in (fault_or outside (Ok answer)) ≡ outside
    by None = refl
    by (Some fault) = refl

-- what the assembler tells if no fault of a line is told
pub one_outside : {X : Type 0} (language : Language) (size : ℕ) (lines : List Line) (answer : X) (told : List AsmFault) (fault : AsmFault)
    → told ≡ line_faults language lines → told ≡ [] → Some fault ≡ fault_in (unless_fault language size lines answer)
    → told ++ fault ∷ [] ≡ all_faults language size lines
one_outside {X} language size lines answer told fault same empty tells =
    let none : line_faults language lines ≡ [] = sym same ∙ empty in
    let outside : first_outside size lines ≡ Some fault = sym (only_outside language size lines answer none) ∙ sym tells in
    rw (empty, none, outside) refl

-- the first of all is what the assembler tells
pub first_of_all : {X : Type 0} (language : Language) (size : ℕ) (lines : List Line) (answer : X)
    → first_in (all_faults language size lines) ≡ fault_in (unless_fault language size lines answer)
first_of_all {X} language size lines answer = by (line_faults language lines) refl
  where
    outside : (found : Option AsmFault) → first_in (or_outside [] found) ≡ found
    outside None = refl
    outside (Some fault) = refl

    by : (told : List AsmFault) → line_faults language lines ≡ told
        → first_in (or_outside told (first_outside size lines)) ≡ fault_in (unless_fault language size lines answer)
    by [] is = outside (first_outside size lines) ∙ sym (only_outside language size lines answer is)
    by (fault ∷ faults) is =
        let first : first_fault language lines ≡ Some fault = sym (first_of_lines language lines) ∙ ap first_in is in
        sym (ap (λ found. fault_in (fault_or found (fault_or (first_outside size lines) (Ok answer)))) first)

-- each that is told is there
pub each_of_all : (language : Language) (size : ℕ) (lines : List Line)
    → All (IsTold language size lines) (all_faults language size lines)
each_of_all language size lines =
    by (line_faults language lines) refl
    (each_from (declared_at language lines) (sites_anywhere lines) lines lines 0 nothing_before refl (omega arith) refl)
  where
    outside : (clean : first_fault language lines ≡ None) → (found : Option AsmFault) → first_outside size lines ≡ found
        → All (IsTold language size lines) (or_outside [] found)
    outside clean None e = All-nil (IsTold language size lines)
    outside clean (Some fault) e =
        All-cons (IsTold language size lines) fault [] (inr (clean, found_outside size lines (Some fault) (sym e)))
        (All-nil (IsTold language size lines))

    by : (told : List AsmFault) → line_faults language lines ≡ told → All (IsThere (declared_at language lines) lines) told
        → All (IsTold language size lines) (or_outside told (first_outside size lines))
    by [] is each =
        outside (sym (first_of_lines language lines) ∙ ap first_in is) (first_outside size lines) refl
    by (fault ∷ faults) is each =
        All-weaker (IsThere (declared_at language lines) lines) (IsTold language size lines) (λ told. inl) (fault ∷ faults) each

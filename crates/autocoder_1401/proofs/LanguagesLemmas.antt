-- A source that the plain language takes means the same in each language.
use Rattle.std.proofs.Common.{◌≡◌, ℕ, List, Option, None, Some, Result, Ok, Err, IfOk, refl, sym, ap, ◌∙◌}
use Rattle.autocoder_statements.specs.declared.language.Language.{Language}
use Rattle.autocoder_statements.specs.declared.language.Language.TheVariants.{Plain}
use Rattle.autocoder_statements.specs.declared.statement.Line.{Line}
use Rattle.autocoder_symbols.specs.Reading.{lines_in}
use Rattle.autocoder_symbols.specs.declared.fault.AsmFault.{AsmFault}
use Rattle.autocoder_diagnostics.specs.FirstFault.{first_fault}
use Rattle.autocoder_diagnostics.proofs.SoundLemmas.{lines_alike, clean_in_each}
use Rattle.autocoder_placing.specs.Values.{first_outside}
use Rattle.autocoder_1401.specs.Assembly.{assembly_with, assembly_in, fault_or, unless_fault}
use Rattle.autocoder_1401.specs.Languages.{MeansTheSame, AgreesWithPlain}
use Rattle.autocoder_1401.specs.declared.assembly.Assembly.{Assembly}

-- lines that stand for anything have no fault
none_found : {X : Type 0} (language : Language) (size : ℕ) (lines : List Line) (answer value : X)
    → unless_fault language size lines answer ≡ Ok value → first_fault language lines ≡ None
none_found {X} language size lines answer value e = by (first_fault language lines) refl e
  where
    by : (found : Option AsmFault) → first_fault language lines ≡ found
        → fault_or found (fault_or (first_outside size lines) (Ok answer)) ≡ Ok value
        → first_fault language lines ≡ None
    by None none rest = none
    by (Some fault) some rest = cc

-- the law of the languages
pub agrees_with_plain : (language : Language) (size : ℕ) (source : List ℕ) → AgreesWithPlain language size source
agrees_with_plain language size source uncut = by (assembly_in Plain size source) refl
  where
    by : (answer : Result Assembly AsmFault) → assembly_in Plain size source ≡ answer
        → IfOk answer (MeansTheSame language size source)
    by (Err fault) e = tt
    by (Ok plain) e =
        let said = lines_in Plain source in
        let answer = assembly_with size said source in
        let none = none_found Plain size said answer plain e in
        let alike = lines_alike language source none uncut in
        let same_fault : first_fault language said ≡ first_fault Plain said =
        clean_in_each language said none ∙ sym none in
        record {
          lines = alike;
          assembly =
              ap (λ (lines : List Line). unless_fault language size lines (assembly_with size lines source)) alike
              ∙ ap (λ first. fault_or first (fault_or (first_outside size said) (Ok answer))) same_fault ∙ e;
        }

-- What is told of all lines: first the fault that the assembler tells; and nothing that isn't there.
use Rattle.std.proofs.Common.{◌≡◌, ℕ, suc, ◌+◌, ◌<◌, ◌≤◌, Bool, true, false, cond, List, [], ◌∷◌, ◌++◌, length, take}
use Rattle.std.proofs.Common.{drop, slice_get, get_or, Option, None, Some, refl, sym, ap, subst, ◌∙◌, arith, add-one}
use Rattle.std.proofs.Common.{drop-cons, All}
use Rattle.std.specs.Prelude.{not, ◌&&◌}
use Rattle.std.specs.List.{list_any}
use Rattle.std.specs.Option.{option_map_or}
use Rattle.std.proofs.lemmas.Bool.{and_parts, and_from}
use Rattle.std.proofs.lemmas.List.{take_all, length-drop}
use Rattle.std.proofs.lemmas.List.Elements.{All-nil, All-cons, All-append}
use Rattle.std.proofs.lemmas.Option.{slice_get_past, slice_get-get_or}
use Rattle.autocoder_statements.specs.Statement.{is_end}
use Rattle.autocoder_statements.specs.declared.language.Language.{Language}
use Rattle.autocoder_statements.specs.declared.statement.Line.{Line}
use Rattle.autocoder_statements.specs.declared.statement.Statement.{Statement}
use Rattle.autocoder_symbols.specs.Known.{Declared, declared_at}
use Rattle.autocoder_symbols.specs.Symbols.{Sites, sites_anywhere}
use Rattle.autocoder_symbols.specs.declared.fault.AsmFault.{AsmFault}
use Rattle.autocoder_symbols.specs.declared.fault.AsmKind.{AsmKind}
use Rattle.autocoder_symbols.specs.declared.fault.AsmKind.TheVariants as kinds
use Rattle.autocoder_diagnostics.specs.ToldFaults.{told_faults, told_end, faults_from, line_faults, first_in}
use Rattle.autocoder_diagnostics.specs.ToldFaults.{IsFaultThere}
use Rattle.autocoder_diagnostics.specs.ToldFaults.{IsThere}
use Rattle.autocoder_diagnostics.specs.OwnFault.{before_next, is_own, told, nothing_before, own_bad_operation}
use Rattle.autocoder_diagnostics.specs.OwnFault.{own_undefined}
use Rattle.autocoder_diagnostics.specs.FirstFault.{place_beyond, place_at, has_fault, scanned, lowest, or_beyond, first_of}
use Rattle.autocoder_diagnostics.specs.FirstFault.{first_fault_from, first_fault, up_to_end_has, bad_operation, undefined}
use Rattle.autocoder_diagnostics.specs.declared.own_fault.Before.{Before}
use Rattle.autocoder_diagnostics.specs.declared.first_fault.LineContext.{LineContext}
use Rattle.autocoder_diagnostics.proofs.FirstFaultLemmas.{next_place_is}
use Rattle.autocoder_diagnostics.proofs.LowestLemmas.{found}

-- of one line, and of those after it
first_of_two : (number : ℕ) (told low : Option AsmKind) (rest : List AsmFault) (beyond : Option AsmFault) → told ≡ low
    → (low ≡ None → first_in rest ≡ beyond) → first_in (told_faults number told ++ rest) ≡ or_beyond number low beyond
first_of_two number told None rest beyond same later = rw same (later refl)
first_of_two number told (Some kind) rest beyond same later = rw same refl

-- what is told first is the first fault
first_told : (declared : Declared) (anywhere : Sites) (this : Before) (lines : List Line) → this.is_clean ≡ true
    → first_in (faults_from declared anywhere this lines) ≡ first_fault_from declared this.at lines
first_told declared anywhere this [] clean = by this.at.is_ended refl
  where
    by : (ended : Bool) → this.at.is_ended ≡ ended → first_in (told_end this) ≡ first_fault_from declared this.at []
    by true is = rw is refl
    by false is = rw (is, clean) refl
first_told declared anywhere this (line ∷ lines) clean =
    first_of_two this.at.number (told declared anywhere this line) (lowest declared this.at line) _ _ same
    (λ none. first_told declared anywhere (before_next declared this line) lines (rw (clean, none) refl))
  where
    same : told declared anywhere this line ≡ lowest declared this.at line
    same = rw clean refl

pub first_of_lines : (language : Language) (lines : List Line)
    → first_in (line_faults language lines) ≡ first_fault language lines
first_of_lines language lines =
    first_told (declared_at language lines) (sites_anywhere lines) nothing_before lines refl

-- a test that holds of no more statements
looser : (at : LineContext) (line : Line) (less more : Statement → Bool)
    → ((of : Statement) → less of ≡ true → more of ≡ true) → up_to_end_has at line less ≡ true
    → up_to_end_has at line more ≡ true
looser at line less more wider holds =
    let both = and_parts (not at.is_ended) (option_map_or less line.statement false) holds in
    and_from (not at.is_ended) (option_map_or more line.statement false) both.0 (by line.statement both.1)
  where
    by : (said : Option Statement) → option_map_or less said false ≡ true → option_map_or more said false ≡ true
    by None e = e
    by (Some of) e = wider of e

-- a fault of its own is one
own_is_there : (declared : Declared) (anywhere : Sites) (this : Before) (line : Line) (kind : AsmKind)
    → is_own declared anywhere this line kind ≡ true → has_fault declared this.at line kind ≡ true
own_is_there declared anywhere this line kinds.Memory own = own
own_is_there declared anywhere this line kinds.LongLine own = own
own_is_there declared anywhere this line kinds.Graphic own = own
own_is_there declared anywhere this line kinds.Label own = own
own_is_there declared anywhere this line kinds.DoubleLabel own = own
own_is_there declared anywhere this line kinds.Operation own =
    looser this.at line (λ (of : Statement). own_bad_operation this of.body)
    (λ (of : Statement). bad_operation this.at.areas of.body)
    (λ (of : Statement) e. (and_parts (bad_operation this.at.areas of.body) _ e).0) own
own_is_there declared anywhere this line kinds.Undefined own =
    looser this.at line (λ (of : Statement). own_undefined declared anywhere this.at.number of.body)
    (λ (of : Statement). undefined declared this.at.number of.body)
    (λ (of : Statement) e. (and_parts (undefined declared this.at.number of.body) _ e).0) own
own_is_there declared anywhere this line kinds.Operand own = own
own_is_there declared anywhere this line kinds.OutOfCore own = own
own_is_there declared anywhere this line kinds.NoEnd own = own
own_is_there declared anywhere this line kinds.AfterEnd own =
    (and_parts (has_fault declared this.at line kinds.AfterEnd) (not this.is_past_end) own).0

-- what is told of a line is a fault of it
told_is_there : (declared : Declared) (anywhere : Sites) (this : Before) (line : Line) (kind : AsmKind)
    → told declared anywhere this line ≡ Some kind → has_fault declared this.at line kind ≡ true
told_is_there declared anywhere this line kind = by this.is_clean
  where
    by : (clean : Bool)
        → cond clean (lowest declared this.at line) (first_of (is_own declared anywhere this line) scanned) ≡ Some kind
        → has_fault declared this.at line kind ≡ true
    by true e = found (has_fault declared this.at line) scanned kind e
    by false e =
        own_is_there declared anywhere this line kind (found (is_own declared anywhere this line) scanned kind e)

-- after the last line
end_is_there : (declared : Declared) (lines : List Line) (i : ℕ) (this : Before) → i ≡ length lines
    → this.at ≡ place_at lines i → All (IsThere declared lines) (told_end this)
end_is_there declared lines i this whole here = by this.at.is_ended refl
  where
    lost : (b : Bool) → this.at.is_ended ≡ false
        → All (IsThere declared lines) (cond b [] (told_faults this.at.number (Some kinds.NoEnd)))
    lost true is = All-nil (IsThere declared lines)
    lost false is =
        let past : slice_get lines i ≡ None = slice_get_past lines i (omega (arith, whole)) in
        let taken : take i lines ≡ lines = take_all i lines (omega (arith, whole)) in
        let none : list_any is_end lines ≡ false =
        sym (ap (list_any is_end) taken) ∙ sym (ap (λ (at : LineContext). at.is_ended) here) ∙ is in
        All-cons (IsThere declared lines) (record { line = this.at.number; kind = kinds.NoEnd }) []
        (record {
          index = i;
          numbered = ap (λ (at : LineContext). at.number) here;
          there = subst (λ said. IsFaultThere declared lines i said kinds.NoEnd) (sym past) (whole, refl, none);
        }) (All-nil (IsThere declared lines))

    by : (ended : Bool) → this.at.is_ended ≡ ended → All (IsThere declared lines) (told_end this)
    by true is = rw is (All-nil (IsThere declared lines))
    by false is = rw is (lost (not this.is_clean && this.lost_end) is)

pub each_from : (declared : Declared) (anywhere : Sites) (lines rest : List Line) (i : ℕ) (this : Before)
    → rest ≡ drop i lines
    → i ≤ length lines → this.at ≡ place_at lines i
    → All (IsThere declared lines) (faults_from declared anywhere this rest)
each_from declared anywhere lines [] i this left inside here =
    let none : 0 ≡ length (drop i lines) = ap length left in
    end_is_there declared lines i this (omega (arith, none, length-drop i lines, inside)) here
each_from declared anywhere lines (line ∷ rest) i this left inside here =
    let some : suc (length rest) ≡ length (drop i lines) = ap length left in
    let within : i < length lines = omega (arith, some, length-drop i lines) in
    let split : drop i lines ≡ get_or lines i line ∷ drop (i + 1) lines = rw add-one (drop-cons lines i line within) in
    let both : line ∷ rest ≡ get_or lines i line ∷ drop (i + 1) lines = left ∙ split in
    let same_line : line ≡ get_or lines i line = cc in
    let same_rest : rest ≡ drop (i + 1) lines = cc in
    All-append (IsThere declared lines) (told_faults this.at.number (told declared anywhere this line)) _
    (here_told within same_line (told declared anywhere this line) refl)
    (each_from declared anywhere lines rest (i + 1) (before_next declared this line) same_rest
    (omega (arith, within)) (next_place_is lines i line this.at (place_beyond this.at line) within here
    (ap (place_beyond this.at) same_line)))
  where
    here_told : i < length lines → line ≡ get_or lines i line → (kind : Option AsmKind)
        → told declared anywhere this line ≡ kind → All (IsThere declared lines) (told_faults this.at.number kind)
    here_told within is None e = All-nil (IsThere declared lines)
    here_told within is (Some kind) e =
        let said : slice_get lines i ≡ Some line = slice_get-get_or lines i line within ∙ ap Some (sym is) in
        All-cons (IsThere declared lines) (record { line = this.at.number; kind = kind }) []
        (record {
          index = i;
          numbered = ap (λ (at : LineContext). at.number) here;
          there = subst (λ said. IsFaultThere declared lines i said kind) (sym said)
              (subst (λ (at : LineContext). has_fault declared at line kind ≡ true) here
              (told_is_there declared anywhere this line kind e));
        }) (All-nil (IsThere declared lines))

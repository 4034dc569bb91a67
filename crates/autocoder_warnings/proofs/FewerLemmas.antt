-- Features add no warning: each that there is on a machine with features is one on a machine without.
use Rattle.std.proofs.Common.{◌≡◌, ℕ, ◌+◌, ◌==◌, Bool, true, false, not, ◌&&◌, ◌||◌, List, [], ◌∷◌, ◌++◌, Option}
use Rattle.std.proofs.Common.{None, Some, refl, sym, ◌∙◌, ap, cond, inl, inr, subst}
use Rattle.std.proofs.lemmas.Bool.{and_parts, and_right, or_cases, true≢false}
use Rattle.std.proofs.lemmas.List.Elements.{All-append, All-contains_itself, All-nil, All-weaker}
use Rattle.std.proofs.lemmas.List.Elements.{Contains-append_left, Contains-append_right}
use Rattle.std.specs.Prelude.{All, Contains, codes}
use Rattle.std.specs.Option.{option_map, option_map_or}
use Rattle.std.specs.Str.{byte}
use Rattle.bcd_1401.specs.declared.cell.Cell.{Cell}
use Rattle.machine_tables.specs.Fitted.{FittedRow, fitted_rows, is_fitted_with, is_for_tape}
use Rattle.machine_tables.specs.Features.{no_features}
use Rattle.machine_tables.specs.declared.features.Features.{Features}
use Rattle.autocoder_statements.specs.Description.{describe}
use Rattle.autocoder_statements.specs.LoneAddress.{is_unit}
use Rattle.autocoder_statements.specs.Operands.{count_of}
use Rattle.autocoder_statements.specs.Statement.{well_formed}
use Rattle.autocoder_statements.specs.declared.description.Contents.{Contents}
use Rattle.autocoder_statements.specs.declared.description.Contents.TheVariants as contents
use Rattle.autocoder_statements.specs.declared.label.Label.{Label}
use Rattle.autocoder_statements.specs.declared.mnemonic.Instruction.{Instruction}
use Rattle.autocoder_statements.specs.declared.operands.OperandField.{OperandField}
use Rattle.autocoder_statements.specs.declared.operands.Operands.{Operands}
use Rattle.autocoder_statements.specs.declared.statement.Line.{Line}
use Rattle.autocoder_statements.specs.declared.statement.Statement.{Statement}
use Rattle.autocoder_diagnostics.specs.Notes.{Known, known_in}
use Rattle.autocoder_placing.specs.Filling.{addresses_of, filled}
use Rattle.autocoder_placing.specs.Placement.{instruction_length}
use Rattle.autocoder_warnings.specs.FittedNotes.{known_with, with_divisions, with_stores}
use Rattle.autocoder_warnings.specs.Loss.{losses_of}
use Rattle.autocoder_warnings.specs.Overlap.{overlaps_of}
use Rattle.autocoder_warnings.specs.Warnings.{all_warnings, are_unlike, branches_unset, card_lost, compares_unlike}
use Rattle.autocoder_warnings.specs.Warnings.{facts_of, is_not_fitted, is_of_areas, is_signed_literal, is_unset}
use Rattle.autocoder_warnings.specs.Warnings.{is_condition, is_idle, is_one_of, is_tape, takes_tape}
use Rattle.autocoder_warnings.specs.Warnings.{is_unused, line_warnings, lone_symbol, loss_warned, never_branches}
use Rattle.autocoder_warnings.specs.Warnings.{own_warnings, place_warnings, starts_nothing, statement_warnings}
use Rattle.autocoder_warnings.specs.Warnings.{stays_unsigned, tests_comparison, warned_if, warnings_from, warnings_with}
use Rattle.autocoder_warnings.specs.declared.loss.Loss.{Loss}
use Rattle.autocoder_warnings.specs.declared.overlap.Overlap.{Overlap}
use Rattle.autocoder_warnings.specs.declared.warning.LineFacts.{LineFacts}
use Rattle.autocoder_warnings.specs.declared.warning.Warning.{Warning}
use Rattle.autocoder_warnings.specs.declared.warning.WarningKind.{WarningKind}
use Rattle.autocoder_warnings.specs.declared.warning.WarningKind.TheVariants as kinds
use Rattle.autocoder_warnings.proofs.FeaturesLemmas.{nothing_claimed, plain_fitted, stays_fitted}

-- tests that imply others
abbrev Implies : Bool → Bool → Type 0
Implies a b = a ≡ true → b ≡ true

both : (a b c d : Bool) → Implies a c → Implies b d → Implies (a && b) (c && d)
both a b c d first second e = let parts = and_parts a b e in rw (first parts.0, second parts.1) refl

or_right : (a b : Bool) → b ≡ true → (a || b) ≡ true
or_right true b e = refl
or_right false b e = e

or_left : (a b : Bool) → a ≡ true → (a || b) ≡ true
or_left true b e = refl
or_left false b e = absurd (true≢false (sym e))

either : (a b c d : Bool) → Implies a c → Implies b d → Implies (a || b) (c || d)
either a b c d first second e =
    elim (or_cases a b e) [
      | inl x ↦ or_left c d (first x)
      | inr y ↦ or_right c d (second y)
    ]

opposite : (a b : Bool) → Implies a b → Implies (not b) (not a)
opposite true true implied e = absurd (true≢false (sym e))
opposite true false implied e = absurd (true≢false (sym (implied refl)))
opposite false b implied e = refl

optional : {X : Type 0} (test other : X → Bool) (value : Option X) → ((x : X) → Implies (test x) (other x))
    → Implies (option_map_or test value false) (option_map_or other value false)
optional {X} test other None implied e = e
optional {X} test other (Some x) implied e = implied x e

-- warnings that are among others
abbrev AreAmong : List Warning → List Warning → Type 0
AreAmong more some = All (Contains more) some

among_both : (more some others those : List Warning) → AreAmong more some → AreAmong others those
    → AreAmong (more ++ others) (some ++ those)
among_both more some others those first second =
    All-append (Contains (more ++ others)) some those
    (All-weaker (Contains more) (Contains (more ++ others)) (Contains-append_left more others) some first)
    (All-weaker (Contains others) (Contains (more ++ others)) (Contains-append_right more others) those second)

among_if : (is are : Bool) (number : ℕ) (kind : WarningKind) → Implies is are
    → AreAmong (warned_if are number kind) (warned_if is number kind)
among_if false are number kind implied = All-nil (Contains (warned_if are number kind))
among_if true are number kind implied = rw (implied refl) (All-contains_itself (warned_if true number kind))

-- what is known of lines, with more that sets an indicator and more that brings a sign
record KnowsMore (known more : Known) : Type 0 where
  named : (label : Label) → more.is_named label ≡ known.is_named label
  numbers : (label : Label) → more.is_number label ≡ known.is_number label
  signed : (label : Label) → Implies (known.is_signed label) (more.is_signed label)
  compares : more.compares ≡ known.compares
  adds : Implies known.adds more.adds

divisions_add : (features : Features) (lines : List Line) (known : Known)
    → KnowsMore known (with_divisions features lines known)
divisions_add features lines known = by features.multiply
  where
    by : (fitted : Bool)
        → KnowsMore known (with_divisions (record no_features { multiply = fitted }) lines known)
    by true = record {
      named = λ label. refl;
      numbers = λ label. refl;
      signed = λ label e. e;
      compares = refl;
      adds = λ e. or_left known.adds _ e;
    }
    by false = record {
      named = λ label. refl;
      numbers = λ label. refl;
      signed = λ label e. e;
      compares = refl;
      adds = λ e. e;
    }

stores_add : (features : Features) (lines : List Line) (known : Known)
    → KnowsMore known (with_stores features lines known)
stores_add features lines known = by features.lengths
  where
    by : (fitted : Bool) → KnowsMore known (with_stores (record no_features { lengths = fitted }) lines known)
    by true = record {
      named = λ label. refl;
      numbers = λ label. refl;
      signed = λ label e. or_left (known.is_signed label) _ e;
      compares = refl;
      adds = λ e. e;
    }
    by false = record {
      named = λ label. refl;
      numbers = λ label. refl;
      signed = λ label e. e;
      compares = refl;
      adds = λ e. e;
    }

features_add : (features : Features) (lines : List Line) → KnowsMore (known_in lines) (known_with features lines)
features_add features lines =
    let divided = with_divisions features lines (known_in lines) in
    let first = divisions_add features lines (known_in lines) in
    let second = stores_add features lines divided in
    record {
      named = λ label. second.named label ∙ first.named label;
      numbers = λ label. second.numbers label ∙ first.numbers label;
      signed = λ label e. second.signed label (first.signed label e);
      compares = second.compares ∙ first.compares;
      adds = λ e. second.adds (first.adds e);
    }

-- what isn't fitted with features isn't without them
unfitted_at : (features : Features) (graphic len : ℕ)
    → Implies (not (is_fitted_with features graphic len)) (not (is_fitted_with no_features graphic len))
unfitted_at features graphic len =
    opposite (is_fitted_with no_features graphic len) (is_fitted_with features graphic len)
    (λ e. stays_fitted features graphic len (sym (plain_fitted graphic len) ∙ e))

-- nothing is for a tape unit without features
nothing_for_tape : (instruction : Instruction) (of : Operands) → takes_tape no_features instruction of ≡ false
nothing_for_tape instruction of =
    ap (λ (found : Option FittedRow). is_tape of.a
    && option_map_or is_for_tape (option_map (λ (row : FittedRow). row.3) found) false)
    (nothing_claimed instruction.operation (instruction_length of) fitted_rows)
    ∙ and_right (is_tape of.a) false refl

-- a unit that no feature takes isn't taken without them
still_unit : (features : Features) (instruction : Instruction) (of : Operands)
    → Implies (is_unit of.a && not (takes_tape features instruction of))
    (is_unit of.a && not (takes_tape no_features instruction of))
still_unit features instruction of e =
    let parts = and_parts (is_unit of.a) (not (takes_tape features instruction of)) e in
    rw (parts.0, nothing_for_tape instruction of) refl

not_fitted : (features : Features) (this : Contents)
    → Implies (is_not_fitted features this) (is_not_fitted no_features this)
not_fitted features contents.Nothing e = e
not_fitted features (contents.Instruction instruction of) e =
    let len = instruction_length of in
    let without : Bool = is_unit of.a && not (takes_tape no_features instruction of) in
    either ((is_unit of.a && not (takes_tape features instruction of)) || is_unit of.b)
    (not (is_fitted_with features instruction.operation len)) (without || is_unit of.b)
    (not (is_fitted_with no_features instruction.operation len))
    (λ unit. either (is_unit of.a && not (takes_tape features instruction of)) (is_unit of.b) without (is_unit of.b)
    (λ first. still_unit features instruction of first) (λ second. second) unit)
    (unfitted_at features instruction.operation len) e
not_fitted features (contents.MarkedConstant constant) e = e
not_fitted features (contents.Constant constant) e = e
not_fitted features (contents.Space places) e = e
not_fitted features (contents.Areas areas) e = e
not_fitted features (contents.Chain chain) e =
    optional (λ operation. not (is_fitted_with features operation 1))
    (λ operation. not (is_fitted_with no_features operation 1)) chain.operation
    (λ operation. unfitted_at features operation 1) e
not_fitted features (contents.AddressConstant constant) e = e

-- labels that no operand names are the same
unused : (known more : Known) → KnowsMore known more → (label : Option Label)
    → is_unused more label ≡ is_unused known label
unused known more knows None = refl
unused known more knows (Some label) = rw (knows.named label) refl

-- an indicator that something sets is set with features too
unset_by : (known more : Known) → KnowsMore known more → (d : ℕ) → Implies (is_unset more d) (is_unset known d)
unset_by known more knows d =
    either (tests_comparison d && not more.compares) ((d == byte "Z") && not more.adds)
    (tests_comparison d && not known.compares) ((d == byte "Z") && not known.adds)
    (λ e. subst (λ (compares : Bool). (tests_comparison d && not compares) ≡ true) knows.compares e)
    (both (d == byte "Z") (not more.adds) (d == byte "Z") (not known.adds) (λ e. e)
    (opposite known.adds more.adds knows.adds))

unset : (known more : Known) → KnowsMore known more → (this : Contents)
    → Implies (branches_unset more this) (branches_unset known this)
unset known more knows contents.Nothing e = e
unset known more knows (contents.Instruction instruction of) e =
    both ((instruction.operation == byte "B") && (count_of of.b == 0)) (option_map_or (is_unset more) of.d false)
    ((instruction.operation == byte "B") && (count_of of.b == 0)) (option_map_or (is_unset known) of.d false)
    (λ same. same) (optional (is_unset more) (is_unset known) of.d (unset_by known more knows)) e
unset known more knows (contents.MarkedConstant constant) e = e
unset known more knows (contents.Constant constant) e = e
unset known more knows (contents.Space places) e = e
unset known more knows (contents.Areas areas) e = e
unset known more knows (contents.Chain chain) e = e
unset known more knows (contents.AddressConstant constant) e = e

-- a number into which a line brings a sign gets one with features too
unsigned : (known more : Known) → KnowsMore known more → (label : Label)
    → Implies (stays_unsigned more label) (stays_unsigned known label)
unsigned known more knows label =
    both (more.is_number label) (not (more.is_signed label)) (known.is_number label) (not (known.is_signed label))
    (λ e. sym (knows.numbers label) ∙ e)
    (opposite (known.is_signed label) (more.is_signed label) (knows.signed label))

unlike_fields : (known more : Known) → KnowsMore known more → (literal field : OperandField)
    → Implies (are_unlike more literal field) (are_unlike known literal field)
unlike_fields known more knows literal field =
    both (is_signed_literal literal) (option_map_or (stays_unsigned more) (lone_symbol field) false)
    (is_signed_literal literal) (option_map_or (stays_unsigned known) (lone_symbol field) false) (λ e. e)
    (optional (stays_unsigned more) (stays_unsigned known) (lone_symbol field) (unsigned known more knows))

unlike : (known more : Known) → KnowsMore known more → (this : Contents)
    → Implies (compares_unlike more this) (compares_unlike known this)
unlike known more knows contents.Nothing e = e
unlike known more knows (contents.Instruction instruction of) e =
    both (instruction.operation == byte "C") (are_unlike more of.a of.b || are_unlike more of.b of.a)
    (instruction.operation == byte "C") (are_unlike known of.a of.b || are_unlike known of.b of.a) (λ same. same)
    (either (are_unlike more of.a of.b) (are_unlike more of.b of.a) (are_unlike known of.a of.b)
    (are_unlike known of.b of.a) (unlike_fields known more knows of.a of.b)
    (unlike_fields known more knows of.b of.a)) e
unlike known more knows (contents.MarkedConstant constant) e = e
unlike known more knows (contents.Constant constant) e = e
unlike known more knows (contents.Space places) e = e
unlike known more knows (contents.Areas areas) e = e
unlike known more knows (contents.Chain chain) e = e
unlike known more knows (contents.AddressConstant constant) e = e

-- a branch that never branches with features doesn't without them
no_condition : (features : Features) (d : ℕ)
    → Implies (not (is_condition features d)) (not (is_condition no_features d))
no_condition features d =
    opposite (is_condition no_features d) (is_condition features d)
    (λ e. elim (or_cases (is_one_of (codes "/STUZABCDEFG9@") d) false e) [
      | inl x ↦ or_left (is_one_of (codes "/STUZABCDEFG9@") d) (features.tapes && (d == byte "K")) x
      | inr y ↦ absurd (true≢false (sym y))
    ])

idle_d : (features : Features) (operation : ℕ) (has_second : Bool) (d : ℕ)
    → Implies (is_idle features operation has_second d) (is_idle no_features operation has_second d)
idle_d features operation has_second d = by (operation == byte "V")
  where
    by : (is_v : Bool)
        → Implies
        (cond is_v (not (is_one_of (codes "12BKS3CLT") d))
        ((operation == byte "B") && not has_second && not (is_condition features d)))
        (cond is_v (not (is_one_of (codes "12BKS3CLT") d))
        ((operation == byte "B") && not has_second && not (is_condition no_features d)))
    by true e = e
    by false e =
        both ((operation == byte "B") && not has_second) (not (is_condition features d))
        ((operation == byte "B") && not has_second) (not (is_condition no_features d)) (λ x. x)
        (no_condition features d) e

idle : (features : Features) (this : Contents)
    → Implies (never_branches features this) (never_branches no_features this)
idle features contents.Nothing e = e
idle features (contents.Instruction instruction of) e =
    optional (is_idle features instruction.operation (count_of of.b == 1))
    (is_idle no_features instruction.operation (count_of of.b == 1)) of.d
    (λ d. idle_d features instruction.operation (count_of of.b == 1) d) e
idle features (contents.MarkedConstant constant) e = e
idle features (contents.Constant constant) e = e
idle features (contents.Space places) e = e
idle features (contents.Areas areas) e = e
idle features (contents.Chain chain) e = e
idle features (contents.AddressConstant constant) e = e

-- the warnings of a statement by what it says
of_own : (features : Features) (known more : Known) → KnowsMore known more → (number : ℕ) (this : Statement)
    → AreAmong (own_warnings no_features known number this) (own_warnings features more number this)
of_own features known more knows number this =
    let row = describe this.body in
    let label = well_formed this.label in
    let areas = not (is_of_areas row.areas) in
    search (
      among_both,
      among_if (is_not_fitted features row.contents) (is_not_fitted no_features row.contents) number kinds.NotFitted
          (not_fitted features row.contents),
      among_if (is_unused more label && areas) (is_unused known label && areas) number kinds.UnusedLabel
          (λ e. subst (λ (is : Bool). (is && areas) ≡ true) (unused known more knows label) e),
      among_if (branches_unset more row.contents) (branches_unset known row.contents) number kinds.UnsetIndicator
          (unset known more knows row.contents),
      among_if (compares_unlike more row.contents) (compares_unlike known row.contents) number kinds.UnlikeSigns
          (unlike known more knows row.contents),
      among_if (never_branches features row.contents) (never_branches no_features row.contents) number
          kinds.NeverBranches (idle features row.contents),
      among_if (starts_nothing row.addressing) (starts_nothing row.addressing) number kinds.StartsNothing (λ e. e),
    )

-- and all of it
of_statement : (features : Features) (known more : Known) → KnowsMore known more → (storage : List Cell) (number : ℕ)
    (facts : LineFacts) (this : Statement)
    → AreAmong (statement_warnings no_features known storage number facts this)
    (statement_warnings features more storage number facts this)
of_statement features known more knows storage number facts this =
    let place = place_warnings storage number facts this in
    among_both (own_warnings no_features known number this) (own_warnings features more number this) place place
    (of_own features known more knows number this) (All-contains_itself place)

-- those of a line
of_line : (features : Features) (known more : Known) → KnowsMore known more → (storage : List Cell) (number : ℕ)
    (facts : LineFacts) (this : Option Statement)
    → AreAmong (warnings_with no_features known storage number facts this)
    (warnings_with features more storage number facts this)
of_line features known more knows storage number facts None =
    All-contains_itself (loss_warned (card_lost facts.loss) number)
of_line features known more knows storage number facts (Some this) =
    of_statement features known more knows storage number facts this

-- those of lines
of_lines : (features : Features) (known more : Known) → KnowsMore known more → (storage : List Cell) (number : ℕ)
    (addresses : List ℕ) (overlaps : List (Option Overlap)) (losses : List (Option Loss)) (lines : List Line)
    → AreAmong (warnings_from no_features known storage number addresses overlaps losses lines)
    (warnings_from features more storage number addresses overlaps losses lines)
of_lines features known more knows storage number addresses overlaps losses [] = All-contains_itself []
of_lines features known more knows storage number [] overlaps losses (line ∷ lines) = All-contains_itself []
of_lines features known more knows storage number (address ∷ addresses) [] losses (line ∷ lines) =
    All-contains_itself []
of_lines features known more knows storage number (address ∷ addresses) (overlap ∷ overlaps) [] (line ∷ lines) =
    All-contains_itself []
of_lines features known more knows storage number (address ∷ addresses) (overlap ∷ overlaps) (loss ∷ losses)
    (line ∷ lines) =
    let facts = facts_of address overlap loss in
    among_both (line_warnings no_features known storage number facts line)
    (line_warnings features more storage number facts line)
    (warnings_from no_features known storage (number + 1) addresses overlaps losses lines)
    (warnings_from features more storage (number + 1) addresses overlaps losses lines)
    (of_line features known more knows storage number facts line.statement)
    (of_lines features known more knows storage (number + 1) addresses overlaps losses lines)

-- the law of features and warnings
pub features_warn_less : (features : Features) (size : ℕ) (source : List ℕ) (lines : List Line)
    → AreAmong (all_warnings no_features size source lines) (all_warnings features size source lines)
features_warn_less features size source lines =
    of_lines features (known_in lines) (known_with features lines) (features_add features lines) (filled size lines) 1
    (addresses_of lines) (overlaps_of size lines) (losses_of source) lines

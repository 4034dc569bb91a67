-- Each machine carries out each instruction that the plain language takes, and so no warning says otherwise.
use Rattle.std.proofs.Common.{◌≡◌, ◌≢◌, ℕ, ◌+◌, Bool, true, false, cond, not, ◌&&◌, List, [], ◌∷◌, map, Option, None}
use Rattle.std.proofs.Common.{Some}
use Rattle.std.specs.List.{list_all}
use Rattle.std.proofs.lemmas.Bool.{and_parts, not-true, true≢false}
use Rattle.std.proofs.lemmas.List.Elements.{All-append, All-cons, All-nil}
use Rattle.bcd_1401.specs.declared.cell.Cell.{Cell}
use Rattle.machine_tables.specs.declared.features.Features.{Features}
use Rattle.autocoder_statements.specs.Description.{describe}
use Rattle.autocoder_statements.specs.Language.{are_good, is_sound, is_sound_statement}
use Rattle.autocoder_statements.specs.SourceLine.{columns_in, columns_of, is_comment, lines_of}
use Rattle.autocoder_statements.specs.Statement.{has_bad_label, has_bad_operands, lacks_field_label, line_of}
use Rattle.autocoder_statements.specs.Statement.{statement_of}
use Rattle.autocoder_statements.specs.Statement.{well_formed}
use Rattle.autocoder_statements.specs.declared.language.Language.{Language}
use Rattle.autocoder_statements.specs.declared.language.Language.TheVariants.{Plain}
use Rattle.autocoder_statements.specs.declared.statement.Statement.{Statement}
use Rattle.autocoder_symbols.specs.Reading.{lines_in}
use Rattle.autocoder_symbols.specs.Known.{declared_at}
use Rattle.autocoder_diagnostics.specs.FirstFault.{first_place}
use Rattle.autocoder_diagnostics.specs.Notes.{Known}
use Rattle.autocoder_diagnostics.proofs.SoundLemmas.{all_sound, lines_alike}
use Rattle.autocoder_placing.specs.Filling.{addresses_of, filled}
use Rattle.autocoder_warnings.specs.FittedNotes.{known_with}
use Rattle.autocoder_warnings.specs.Loss.{losses_of}
use Rattle.autocoder_warnings.specs.Overlap.{overlaps_of}
use Rattle.autocoder_warnings.specs.Warnings.{is_not_fitted, is_unused, branches_unset, compares_unlike, read_on}
use Rattle.autocoder_warnings.specs.Warnings.{warned_if}
use Rattle.autocoder_warnings.specs.Warnings.{warned_of, statement_warnings, line_warnings, warnings_from, all_warnings}
use Rattle.autocoder_warnings.specs.Warnings.{card_lost, has_whole_text, loss_left, warnings_with}
use Rattle.autocoder_warnings.specs.Warnings.{is_of_areas, never_branches, starts_nothing, overlap_warned, loss_warned}
use Rattle.autocoder_warnings.specs.Warnings.{own_warnings, place_warnings, facts_of, AllFitted, PlainIsCarriedOut}
use Rattle.autocoder_warnings.specs.declared.loss.Loss.{Loss}
use Rattle.autocoder_warnings.specs.declared.overlap.Overlap.{Overlap}
use Rattle.autocoder_warnings.specs.declared.warning.LineFacts.{LineFacts}
use Rattle.autocoder_warnings.specs.declared.warning.Warning.{Warning}
use Rattle.autocoder_warnings.specs.declared.warning.WarningKind.{WarningKind}
use Rattle.autocoder_warnings.specs.declared.warning.WarningKind.TheVariants as kinds
use Rattle.autocoder_warnings.proofs.FittedLemmas.{plain_is_fitted}

-- a warning of another kind
abbrev IsOther : Warning → Type 0
IsOther this = this.kind ≢ kinds.NotFitted

-- nothing is said of what is fitted
fitted_is_not_told : (is : Bool) (number : ℕ) → is ≡ false → AllFitted (warned_if is number kinds.NotFitted)
fitted_is_not_told true number e = absurd (true≢false e)
fitted_is_not_told false number e = All-nil IsOther

-- a warning of another kind doesn't tell that an instruction isn't fitted
other_warning : (is : Bool) (number : ℕ) (kind : WarningKind) → kind ≢ kinds.NotFitted
    → AllFitted (warned_if is number kind)
other_warning true number kind other =
    All-cons IsOther (record { line = number; kind = kind }) [] other (All-nil IsOther)
other_warning false number kind other = All-nil IsOther

-- nor does one that an instruction is read on
read_on_warning : (place : Option ℕ) (number : ℕ) → AllFitted (warned_of place number)
read_on_warning None number = All-nil IsOther
read_on_warning (Some place) number =
    All-cons IsOther (record { line = number; kind = kinds.ReadOn place }) [] (λ same. cc) (All-nil IsOther)

-- nor one of an overlap or a loss
overlap_warning : (overlap : Option Overlap) (number : ℕ) → AllFitted (overlap_warned overlap number)
overlap_warning None number = All-nil IsOther
overlap_warning (Some overlap) number =
    All-cons IsOther (record { line = number; kind = kinds.Overlaps overlap }) [] (λ same. cc) (All-nil IsOther)

loss_warning : (loss : Option Loss) (number : ℕ) → AllFitted (loss_warned loss number)
loss_warning None number = All-nil IsOther
loss_warning (Some loss) number =
    All-cons IsOther (record { line = number; kind = kinds.Loses loss }) [] (λ same. cc) (All-nil IsOther)

loss_unless : (is_remark : Bool) (loss : Option Loss) (number : ℕ)
    → AllFitted (cond is_remark [] (loss_warned loss number))
loss_unless true loss number = All-nil IsOther
loss_unless false loss number = loss_warning loss number

-- the warnings of a statement that is fitted, by what it says
by_own : (features : Features) (known : Known) (number : ℕ) (this : Statement)
    → is_not_fitted features (describe this.body).contents ≡ false → AllFitted (own_warnings features known number this)
by_own features known number this fitted =
    let row = describe this.body in
    search (
      All-append IsOther,
      fitted_is_not_told (is_not_fitted features row.contents) number fitted,
      other_warning (is_unused known (well_formed this.label) && not (is_of_areas row.areas)) number kinds.UnusedLabel
          (λ same. cc),
      other_warning (branches_unset known row.contents) number kinds.UnsetIndicator (λ same. cc),
      other_warning (compares_unlike known row.contents) number kinds.UnlikeSigns (λ same. cc),
      other_warning (never_branches features row.contents) number kinds.NeverBranches (λ same. cc),
      other_warning (starts_nothing row.addressing) number kinds.StartsNothing (λ same. cc),
    )

-- and by where it is and what its line has
by_place : (storage : List Cell) (number : ℕ) (facts : LineFacts) (this : Statement)
    → AllFitted (place_warnings storage number facts this)
by_place storage number facts this =
    let row = describe this.body in
    search (
      All-append IsOther,
      read_on_warning (read_on storage facts.address row.contents) number,
      overlap_warning facts.overlap number,
      loss_unless row.is_remark (loss_left (has_whole_text row.contents) facts.loss) number,
    )

-- the warnings of a statement that is fitted
of_statement : (features : Features) (known : Known) (storage : List Cell) (number : ℕ) (facts : LineFacts)
    (this : Statement) → is_not_fitted features (describe this.body).contents ≡ false
    → AllFitted (statement_warnings features known storage number facts this)
of_statement features known storage number facts this fitted =
    All-append IsOther (own_warnings features known number this) (place_warnings storage number facts this)
    (by_own features known number this fitted) (by_place storage number facts this)

-- a sound statement has the operands that its operation asks for
has_good_operands : (this : Statement) → is_sound_statement (Some this) ≡ true → has_bad_operands this.body ≡ false
has_good_operands this sound =
    not-true (has_bad_operands this.body)
    (and_parts (not (has_bad_label this) && not (lacks_field_label this) && (describe this.body).is_known)
    (not (has_bad_operands this.body)) sound).1

-- the warnings of a sound line of the plain language
of_line : (features : Features) (known : Known) (storage : List Cell) (number : ℕ) (facts : LineFacts) (text : List ℕ)
    → is_sound (line_of text) ≡ true → AllFitted (line_warnings features known storage number facts (line_of text))
of_line features known storage number facts text sound =
    by (is_comment (columns_of text))
    (and_parts (are_good (line_of text).bytes) (is_sound_statement (line_of text).statement) sound).1
  where
    by : (b : Bool) → is_sound_statement (cond b None (Some (statement_of (columns_of text)))) ≡ true
        → AllFitted (warnings_with features known storage number facts (cond b None (Some (statement_of (columns_of text)))))
    by true sound = loss_warning (card_lost facts.loss) number
    by false sound =
        of_statement features known storage number facts (statement_of (columns_of text))
        (plain_is_fitted features (columns_in 16 20 (columns_of text)) (columns_in 21 72 (columns_of text))
        (has_good_operands (statement_of (columns_of text)) sound))

-- the warnings of sound lines of the plain language
of_lines : (features : Features) (known : Known) (storage : List Cell) (number : ℕ) (addresses : List ℕ)
    (overlaps : List (Option Overlap)) (losses : List (Option Loss)) (texts : List (List ℕ)) → list_all is_sound (map line_of texts) ≡ true
    → AllFitted (warnings_from features known storage number addresses overlaps losses (map line_of texts))
of_lines features known storage number addresses overlaps losses [] sound = All-nil IsOther
of_lines features known storage number [] overlaps losses (text ∷ texts) sound = All-nil IsOther
of_lines features known storage number (address ∷ addresses) [] losses (text ∷ texts) sound = All-nil IsOther
of_lines features known storage number (address ∷ addresses) (overlap ∷ overlaps) [] (text ∷ texts) sound = All-nil IsOther
of_lines features known storage number (address ∷ addresses) (overlap ∷ overlaps) (loss ∷ losses) (text ∷ texts) sound =
    let parts = and_parts (is_sound (line_of text)) (list_all is_sound (map line_of texts)) sound in
    let facts = facts_of address overlap loss in
    All-append IsOther (line_warnings features known storage number facts (line_of text))
    (warnings_from features known storage (number + 1) addresses overlaps losses (map line_of texts))
    (of_line features known storage number facts text parts.0)
    (of_lines features known storage (number + 1) addresses overlaps losses texts parts.1)

-- the warnings of all lines
of_all : (features : Features) (size : ℕ) (source : List ℕ) (texts : List (List ℕ))
    → list_all is_sound (map line_of texts) ≡ true
    → AllFitted (all_warnings features size source (map line_of texts))
of_all features size source texts sound =
    let lines = map line_of texts in
    of_lines features (known_with features lines) (filled size lines) 1 (addresses_of lines) (overlaps_of size lines) (losses_of source)
    texts sound

-- the law of what the plain language takes
pub plain_is_carried_out : (features : Features) (language : Language) (size : ℕ) (source : List ℕ)
    → PlainIsCarriedOut source (all_warnings features size source (lines_in language source))
plain_is_carried_out features language size source uncut none =
    rw (lines_alike language source none uncut)
    (of_all features size source (lines_of source)
    (all_sound (declared_at Plain (lines_in Plain source)) first_place (lines_in Plain source) none))

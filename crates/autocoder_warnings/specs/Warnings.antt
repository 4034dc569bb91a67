-- What a source without a fault says and hardly means (own).
use Rattle.std.specs.Prelude.{◌≡◌, ◌≢◌, ℕ, ◌+◌, ◌==◌, Bool, true, false, not, ◌&&◌, ◌||◌, if◌then◌else◌, List, [], ◌∷◌}
use Rattle.std.specs.Prelude.{◌++◌, codes, pos, nat_le, slice_get, slice_index, All, Option, Some, None, is_some, unwrap_or}
use Rattle.std.specs.List.{list_any}
use Rattle.std.specs.Option.{option_map_or, option_and_then}
use Rattle.std.specs.Ordering.{int_eq}
use Rattle.std.specs.Str.{byte}
use Rattle.bcd_1401.specs.declared.cell.Cell.{Cell}
use Rattle.machine_tables.specs.Fitted.{fitted_in, is_fitted_with, is_for_tape}
use Rattle.machine_tables.specs.Operation.{longest_at}
use Rattle.machine_tables.specs.TapeUnit.{unit_named}
use Rattle.machine_tables.specs.declared.features.Features.{Features}
use Rattle.autocoder_statements.specs.Constant.{bytes_of, is_at_sign}
use Rattle.autocoder_statements.specs.Description.{describe}
use Rattle.autocoder_statements.specs.Language.{cuts_no_text}
use Rattle.autocoder_statements.specs.LoneAddress.{is_unit}
use Rattle.autocoder_statements.specs.Operands.{count_of}
use Rattle.autocoder_statements.specs.Statement.{well_formed}
use Rattle.autocoder_statements.specs.declared.address.Address.{Address}
use Rattle.autocoder_statements.specs.declared.address.Base.{Base}
use Rattle.autocoder_statements.specs.declared.address.Base.TheVariants as bases
use Rattle.autocoder_statements.specs.declared.constant.Constant.{Constant}
use Rattle.autocoder_statements.specs.declared.constant.Constant.TheVariants as constants
use Rattle.autocoder_statements.specs.declared.description.AreaRole.{AreaRole}
use Rattle.autocoder_statements.specs.declared.description.AreaRole.TheVariants as areas
use Rattle.autocoder_statements.specs.declared.description.Addressing.{Addressing}
use Rattle.autocoder_statements.specs.declared.description.Addressing.TheVariants as addressing
use Rattle.autocoder_statements.specs.declared.description.Contents.{Contents}
use Rattle.autocoder_statements.specs.declared.description.Contents.TheVariants as contents
use Rattle.autocoder_statements.specs.declared.label.Label.{Label}
use Rattle.autocoder_statements.specs.declared.language.Language.TheVariants.{Plain}
use Rattle.autocoder_statements.specs.declared.literal.Literal.{Literal}
use Rattle.autocoder_statements.specs.declared.literal.Literal.TheVariants as literals
use Rattle.autocoder_statements.specs.declared.mnemonic.Instruction.{Instruction}
use Rattle.autocoder_statements.specs.declared.operands.Operand.TheVariants as operands
use Rattle.autocoder_statements.specs.declared.operands.OperandField.{OperandField}
use Rattle.autocoder_statements.specs.declared.operands.OperandField.TheVariants as fields
use Rattle.autocoder_statements.specs.declared.operands.Operands.{Operands}
use Rattle.autocoder_statements.specs.declared.statement.Chain.{Chain}
use Rattle.autocoder_statements.specs.declared.statement.Line.{Line}
use Rattle.autocoder_statements.specs.declared.statement.Statement.{Statement}
use Rattle.autocoder_symbols.specs.Reading.{lines_in}
use Rattle.autocoder_diagnostics.specs.FirstFault.{first_fault, symbol_in_base}
use Rattle.autocoder_diagnostics.specs.Notes.{Known}
use Rattle.autocoder_placing.specs.Filling.{filled, addresses_of}
use Rattle.autocoder_placing.specs.Placement.{instruction_length, chain_length}
use Rattle.autocoder_warnings.specs.FittedNotes.{known_with}
use Rattle.autocoder_warnings.specs.Loss.{losses_of}
use Rattle.autocoder_warnings.specs.Overlap.{overlaps_of}
use Rattle.autocoder_warnings.specs.declared.loss.Loss.{Loss}
use Rattle.autocoder_warnings.specs.declared.loss.Loss.TheVariants as losses
use Rattle.autocoder_warnings.specs.declared.overlap.Overlap.{Overlap}
use Rattle.autocoder_warnings.specs.declared.warning.LineFacts.{LineFacts}
use Rattle.autocoder_warnings.specs.declared.warning.Warning.{Warning}
use Rattle.autocoder_warnings.specs.declared.warning.WarningKind.{WarningKind}
use Rattle.autocoder_warnings.specs.declared.warning.WarningKind.TheVariants as warnings

-- whether an operand names a tape unit
abbrev pub is_tape : OperandField → Bool
is_tape fields.Absent = false
is_tape fields.Malformed = false
is_tape (fields.Operand (operands.Address address)) = false
is_tape (fields.Operand (operands.Literal literal)) = false
is_tape (fields.Operand (operands.Unit unit)) =
    is_some (unit_named (slice_index unit.graphics 0) (slice_index unit.graphics 1) (slice_index unit.graphics 2))

-- whether an instruction is one for the tape unit that it names, on a machine with these features
abbrev pub takes_tape : Features → Instruction → Operands → Bool
takes_tape features instruction of =
    is_tape of.a
    && option_map_or is_for_tape (fitted_in features instruction.operation (instruction_length of)) false

-- an instruction that a machine with these features never carries out: one of an operation or a length that it hasn't
-- got, or one with a unit, but for tape units in instructions for them
abbrev pub is_unfitted : Features → Instruction → Operands → Bool
is_unfitted features instruction of =
    (is_unit of.a && not (takes_tape features instruction of))
    || is_unit of.b
    || not (is_fitted_with features instruction.operation (instruction_length of))

-- a chain of instructions that can't be one character alone on such a machine
abbrev pub is_unfitted_chain : Features → Chain → Bool
is_unfitted_chain features chain =
    option_map_or (λ operation. not (is_fitted_with features operation 1)) chain.operation false

-- an instruction, or a chain of such, that a machine with these features never carries out
abbrev pub is_not_fitted : Features → Contents → Bool
is_not_fitted features contents.Nothing = false
is_not_fitted features (contents.Instruction instruction of) = is_unfitted features instruction of
is_not_fitted features (contents.MarkedConstant constant) = false
is_not_fitted features (contents.Constant constant) = false
is_not_fitted features (contents.Space places) = false
is_not_fitted features (contents.Areas areas) = false
is_not_fitted features (contents.Chain chain) = is_unfitted_chain features chain
is_not_fitted features (contents.AddressConstant constant) = false

-- a label that no operand names
abbrev pub is_unused : Known → Option Label → Bool
is_unused known None = false
is_unused known (Some label) = not (known.is_named label)

-- a field of areas, which only describes a record
abbrev pub is_of_areas : AreaRole → Bool
is_of_areas areas.Ends = false
is_of_areas areas.Keeps = false
is_of_areas (areas.Makes made) = false
is_of_areas (areas.Divides span) = true

-- the d-characters of a branch by the last comparison: unequal, equal, low, high
abbrev pub tests_comparison : ℕ → Bool
tests_comparison d = (d == byte "/") || (d == byte "S") || (d == byte "T") || (d == byte "U")

-- the d-character of a branch by an indicator that nothing sets; Z is that of an overflow
abbrev pub is_unset : Known → ℕ → Bool
is_unset known d = (tests_comparison d && not known.compares) || ((d == byte "Z") && not known.adds)

-- a branch by such an indicator; one with two addresses tests a character
abbrev pub branches_unset : Known → Contents → Bool
branches_unset known contents.Nothing = false
branches_unset known (contents.Instruction instruction of) =
    (instruction.operation == byte "B") && (count_of of.b == 0) && option_map_or (is_unset known) of.d false
branches_unset known (contents.MarkedConstant constant) = false
branches_unset known (contents.Constant constant) = false
branches_unset known (contents.Space places) = false
branches_unset known (contents.Areas areas) = false
branches_unset known (contents.Chain chain) = false
branches_unset known (contents.AddressConstant constant) = false

-- a number with a sign, as a literal
abbrev pub has_sign : Constant → Bool
has_sign (constants.Text text) = false
has_sign (constants.Number digits) = false
has_sign (constants.Plus digits) = true
has_sign (constants.Minus digits) = true
has_sign (constants.Blanks count) = false

abbrev pub has_sign_in : Literal → Bool
has_sign_in (literals.Constant constant) = has_sign constant
has_sign_in (literals.Address literal) = false
has_sign_in (literals.Area literal) = false

abbrev pub is_signed_literal : OperandField → Bool
is_signed_literal fields.Absent = false
is_signed_literal fields.Malformed = false
is_signed_literal (fields.Operand (operands.Address address)) = false
is_signed_literal (fields.Operand (operands.Literal literal)) = has_sign_in literal
is_signed_literal (fields.Operand (operands.Unit unit)) = false

-- a symbol alone, without an adjustment and an index register
abbrev pub is_lone : Address → Bool
is_lone address = int_eq address.adjustment (pos 0) && (unwrap_or address.index 0 == 0)

abbrev pub lone_symbol : OperandField → Option Label
lone_symbol fields.Absent = None
lone_symbol fields.Malformed = None
lone_symbol (fields.Operand (operands.Address address)) = if is_lone address then symbol_in_base address.base else None
lone_symbol (fields.Operand (operands.Literal literal)) = None
lone_symbol (fields.Operand (operands.Unit unit)) = None

-- the label of a number without a sign, into which no line brings one
abbrev pub stays_unsigned : Known → Label → Bool
stays_unsigned known label = known.is_number label && not (known.is_signed label)

-- a literal with a sign, and a field that has none: the zone over the literal's units makes them unequal
abbrev pub are_unlike : Known → OperandField → OperandField → Bool
are_unlike known literal field =
    is_signed_literal literal && option_map_or (stays_unsigned known) (lone_symbol field) false

abbrev pub compares_unlike : Known → Contents → Bool
compares_unlike known contents.Nothing = false
compares_unlike known (contents.Instruction instruction of) =
    (instruction.operation == byte "C") && (are_unlike known of.a of.b || are_unlike known of.b of.a)
compares_unlike known (contents.MarkedConstant constant) = false
compares_unlike known (contents.Constant constant) = false
compares_unlike known (contents.Space places) = false
compares_unlike known (contents.Areas areas) = false
compares_unlike known (contents.Chain chain) = false
compares_unlike known (contents.AddressConstant constant) = false

-- the fifth character of an instruction of this length before a cell: that cell's, or else any but a blank
abbrev pub fifth_before : ℕ → Cell → ℕ
fifth_before length cell = if length == 4 then cell.char else 1

-- the cell after an instruction ends it: by its word mark, or because no more characters are looked at
abbrev pub ends : ℕ → ℕ → Cell → Bool
ends operation length cell = cell.mark || nat_le (longest_at operation (fifth_before length cell)) length

-- the place after an instruction whose cell doesn't end it; the end of core storage ends any
abbrev pub open_place : List Cell → ℕ → ℕ → ℕ → Option ℕ
open_place storage operation length place =
    option_and_then (λ cell. if ends operation length cell then None else Some place) (slice_get storage place)

-- that of the last instruction of a chain which begins at this address
abbrev pub chain_read_on : List Cell → ℕ → Chain → Option ℕ
chain_read_on storage address chain =
    option_and_then (λ operation. open_place storage operation 1 (address + chain_length chain)) chain.operation

-- that of a statement which begins at this address
abbrev pub read_on : List Cell → ℕ → Contents → Option ℕ
read_on storage address contents.Nothing = None
read_on storage address (contents.Instruction instruction of) =
    open_place storage instruction.operation (instruction_length of) (address + instruction_length of)
read_on storage address (contents.MarkedConstant constant) = None
read_on storage address (contents.Constant constant) = None
read_on storage address (contents.Space places) = None
read_on storage address (contents.Areas areas) = None
read_on storage address (contents.Chain chain) = chain_read_on storage address chain
read_on storage address (contents.AddressConstant constant) = None

-- whether a number is one of these
abbrev pub is_one_of : List ℕ → ℕ → Bool
is_one_of numbers number = list_any (λ each. each == number) numbers

-- a d-character by which a branch of five characters may branch on a machine with these features: K asks a tape unit
abbrev pub is_condition : Features → ℕ → Bool
is_condition features d = is_one_of (codes "/STUZABCDEFG9@") d || (features.tapes && (d == byte "K"))

-- a d-character with which a branch never branches: of five characters, and of V
abbrev pub is_idle : Features → ℕ → Bool → ℕ → Bool
is_idle features operation has_second d =
    if operation == byte "V" then not (is_one_of (codes "12BKS3CLT") d)
    else (operation == byte "B") && not has_second && not (is_condition features d)

-- a branch that its d-character never lets branch
abbrev pub never_branches : Features → Contents → Bool
never_branches features contents.Nothing = false
never_branches features (contents.Instruction instruction of) =
    option_map_or (is_idle features instruction.operation (count_of of.b == 1)) of.d false
never_branches features (contents.MarkedConstant constant) = false
never_branches features (contents.Constant constant) = false
never_branches features (contents.Space places) = false
never_branches features (contents.Areas areas) = false
never_branches features (contents.Chain chain) = false
never_branches features (contents.AddressConstant constant) = false

-- a place at which a phase may begin: neither place 0 nor an asterisk, which only have literals placed
abbrev pub may_begin : Base → Bool
may_begin (bases.Number number) = not (number == 0)
may_begin (bases.Symbol label) = true
may_begin bases.Here = false
may_begin (bases.Register number) = true
may_begin bases.NextHundred = false

abbrev pub names_phase : OperandField → Bool
names_phase fields.Absent = false
names_phase fields.Malformed = false
names_phase (fields.Operand (operands.Address address)) = may_begin address.base
names_phase (fields.Operand (operands.Literal literal)) = false
names_phase (fields.Operand (operands.Unit unit)) = false

-- an EX or XFR that names a phase, which nothing enters
abbrev pub starts_nothing : Addressing → Bool
starts_nothing addressing.Nothing = false
starts_nothing (addressing.Addresses of) = false
starts_nothing (addressing.EarlierValue of) = false
starts_nothing (addressing.Equal of) = false
starts_nothing (addressing.Value of) = names_phase of.a
starts_nothing (addressing.Entry of) = false

-- a warning of this kind at this line, if there is one
abbrev pub warned_if : Bool → ℕ → WarningKind → List Warning
warned_if is number kind = if is then record { line = number; kind = kind } ∷ [] else []

abbrev pub warned_of : Option ℕ → ℕ → List Warning
warned_of None number = []
warned_of (Some place) number = record { line = number; kind = warnings.ReadOn place } ∷ []

abbrev pub overlap_warned : Option Overlap → ℕ → List Warning
overlap_warned None number = []
overlap_warned (Some overlap) number = record { line = number; kind = warnings.Overlaps overlap } ∷ []

abbrev pub loss_warned : Option Loss → ℕ → List Warning
loss_warned None number = []
loss_warned (Some loss) number = record { line = number; kind = warnings.Loses loss } ∷ []

-- the warnings of a statement by what it says, on the line of this number
abbrev pub own_warnings : Features → Known → ℕ → Statement → List Warning
own_warnings features known number this =
    warned_if (is_not_fitted features (describe this.body).contents) number warnings.NotFitted
    ++ warned_if (is_unused known (well_formed this.label) && not (is_of_areas (describe this.body).areas)) number
    warnings.UnusedLabel
    ++ warned_if (branches_unset known (describe this.body).contents) number warnings.UnsetIndicator
    ++ warned_if (compares_unlike known (describe this.body).contents) number warnings.UnlikeSigns
    ++ warned_if (never_branches features (describe this.body).contents) number warnings.NeverBranches
    ++ warned_if (starts_nothing (describe this.body).addressing) number warnings.StartsNothing

-- a constant is a text with an at sign in it: it goes on to the last one of its line
abbrev pub holds_at_sign : Option Constant → Bool
holds_at_sign None = false
holds_at_sign (Some (constants.Text text)) = list_any is_at_sign (bytes_of text)
holds_at_sign (Some (constants.Number digits)) = false
holds_at_sign (Some (constants.Plus digits)) = false
holds_at_sign (Some (constants.Minus digits)) = false
holds_at_sign (Some (constants.Blanks count)) = false

abbrev pub has_whole_text : Contents → Bool
has_whole_text contents.Nothing = false
has_whole_text (contents.Instruction instruction operands) = false
has_whole_text (contents.MarkedConstant constant) = holds_at_sign constant
has_whole_text (contents.Constant constant) = holds_at_sign constant
has_whole_text (contents.Space places) = false
has_whole_text (contents.Areas areas) = false
has_whole_text (contents.Chain chain) = false
has_whole_text (contents.AddressConstant constant) = false

-- what a line loses, if its text is whole or not
abbrev pub loss_left : Bool → Option Loss → Option Loss
loss_left is_whole None = None
loss_left is_whole (Some losses.Card) = Some losses.Card
loss_left is_whole (Some losses.Text) = if is_whole then None else Some losses.Text
loss_left is_whole (Some losses.Column73) = Some losses.Column73

-- the warning of what a statement loses, whose line loses this; a remark may have any text
abbrev pub cut_warned : ℕ → Option Loss → Statement → List Warning
cut_warned number loss this =
    if (describe this.body).is_remark then []
    else loss_warned (loss_left (has_whole_text (describe this.body).contents) loss) number

-- the warnings of a statement by where it is and what its line has
abbrev pub place_warnings : List Cell → ℕ → LineFacts → Statement → List Warning
place_warnings storage number facts this =
    warned_of (read_on storage facts.address (describe this.body).contents) number
    ++ overlap_warned facts.overlap number
    ++ cut_warned number facts.loss this

-- the warnings of a statement on the line of this number
abbrev pub statement_warnings : Features → Known → List Cell → ℕ → LineFacts → Statement → List Warning
statement_warnings features known storage number facts this =
    own_warnings features known number this ++ place_warnings storage number facts this

-- what a line loses that is read as a comment: all of it, if it is a card for the system
abbrev pub card_lost : Option Loss → Option Loss
card_lost None = None
card_lost (Some losses.Card) = Some losses.Card
card_lost (Some losses.Text) = None
card_lost (Some losses.Column73) = None

abbrev pub warnings_with : Features → Known → List Cell → ℕ → LineFacts → Option Statement → List Warning
warnings_with features known storage number facts None = loss_warned (card_lost facts.loss) number
warnings_with features known storage number facts (Some this) = statement_warnings features known storage number facts this

abbrev pub line_warnings : Features → Known → List Cell → ℕ → LineFacts → Line → List Warning
line_warnings features known storage number facts line = warnings_with features known storage number facts line.statement

-- what is known of a line
abbrev pub facts_of : ℕ → Option Overlap → Option Loss → LineFacts
facts_of address overlap loss = record { address = address; overlap = overlap; loss = loss }

-- the warnings of lines, counting them from this number: each begins at its address, and has its overlap and its loss
abbrev pub warnings_from : Features → Known → List Cell → ℕ → List ℕ → List (Option Overlap) → List (Option Loss)
    → List Line → List Warning
warnings_from features known storage number addresses overlaps losses [] = []
warnings_from features known storage number [] overlaps losses (line ∷ lines) = []
warnings_from features known storage number (address ∷ addresses) [] losses (line ∷ lines) = []
warnings_from features known storage number (address ∷ addresses) (overlap ∷ overlaps) [] (line ∷ lines) = []
warnings_from features known storage number (address ∷ addresses) (overlap ∷ overlaps) (loss ∷ losses) (line ∷ lines) =
    line_warnings features known storage number (facts_of address overlap loss) line
    ++ warnings_from features known storage (number + 1) addresses overlaps losses lines

-- the warnings of a source whose lines these are, in their order, for core storage of this size on a machine with these
-- features
abbrev pub all_warnings : Features → ℕ → List ℕ → List Line → List Warning
all_warnings features size source lines =
    warnings_from features (known_with features lines) (filled size lines) 1 (addresses_of lines) (overlaps_of size lines)
    (losses_of source) lines

-- a warning is of something that isn't read or isn't started
abbrev pub is_of_loss : WarningKind → Bool
is_of_loss warnings.NotFitted = false
is_of_loss warnings.UnusedLabel = false
is_of_loss warnings.UnsetIndicator = false
is_of_loss warnings.UnlikeSigns = false
is_of_loss warnings.NeverBranches = false
is_of_loss warnings.StartsNothing = true
is_of_loss (warnings.ReadOn place) = false
is_of_loss (warnings.Overlaps overlap) = false
is_of_loss (warnings.Loses loss) = true

abbrev pub is_lost : Warning → Bool
is_lost warning = is_of_loss warning.kind

-- a source whose lines have no fault in the plain language, whatever the size of core storage
abbrev pub IsTakenPlain : List ℕ → Type 0
IsTakenPlain source = first_fault Plain (lines_in Plain source) ≡ None

-- no warning says that the machine never carries out an instruction
abbrev pub AllFitted : List Warning → Type 0
AllFitted told = All (λ (this : Warning). this.kind ≢ warnings.NotFitted) told

-- if the plain language takes a source, and cuts no text of it, none of its warnings says so, whatever the machine is
-- fitted with
abbrev pub PlainIsCarriedOut : List ℕ → List Warning → Type 0
PlainIsCarriedOut source told = cuts_no_text source ≡ true → IsTakenPlain source → AllFitted told

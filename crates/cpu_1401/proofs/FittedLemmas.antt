-- Features claim no instruction of a machine without them, but for branches by a cell.
use Rattle.std.proofs.Common.{◌≡◌, ℕ, ◌==◌, ◌&&◌, ◌||◌, Bool, true, false, cond, List, [], ◌∷◌, Option, None}
use Rattle.std.proofs.Common.{Some, refl, sym, ◌∙◌, ap, subst, inl, inr}
use Rattle.std.proofs.lemmas.Bool.{and_parts, and_right, eqb-true, false≢true, or_cases}
use Rattle.std.specs.Prelude.{codes, find, if◌then◌else◌, is_some, slice_index}
use Rattle.std.specs.List.{list_all, list_any}
use Rattle.std.specs.Option.{option_map}
use Rattle.machine_tables.specs.Operation.{has_length, meaning_of, operations, unfitted_operations}
use Rattle.machine_tables.specs.declared.operation.Operation.{Operation}
use Rattle.machine_tables.specs.declared.operation.Operation.TheVariants as op
use Rattle.machine_tables.specs.Features.{has_feature, no_features}
use Rattle.machine_tables.specs.declared.features.Feature.{Feature}
use Rattle.machine_tables.specs.declared.features.Feature.TheVariants as feature
use Rattle.machine_tables.specs.declared.features.Features.{Features}
use Rattle.cpu_1401.specs.Chaining.{is_by_cell}
use Rattle.machine_tables.specs.Fitted.{FittedRow, claims, fitted_in, fitted_lengths, fitted_row, fitted_rows}
use Rattle.machine_tables.specs.declared.fitted.Fitted.{Fitted}
use Rattle.machine_tables.specs.declared.fitted.Fitted.TheVariants.{OnCell}
use Rattle.machine_tables.specs.declared.fitted.FittedLengths.TheVariants.{Eight}

-- what is found has what each row has
found_has : {X : Type 0} (test has : X → Bool) (rows : List X) (row : X) → list_all has rows ≡ true
    → find test rows ≡ Some row → has row ≡ true
found_has {X} test has [] row all e = cc
found_has {X} test has (first ∷ rows) row all e =
    by (test first) e (and_parts (has first) (list_all has rows) all).0
    (found_has test has rows row (and_parts (has first) (list_all has rows) all).1)
  where
    by : (b : Bool) → cond b (Some first) (find test rows) ≡ Some row → has first ≡ true
        → (find test rows ≡ Some row → has row ≡ true) → has row ≡ true
    by true e here beyond = let same : first ≡ row = cc in ap has (sym same) ∙ here
    by false e here beyond = beyond e

-- and what was looked for
found_passes : {X : Type 0} (test : X → Bool) (rows : List X) (row : X) → find test rows ≡ Some row → test row ≡ true
found_passes {X} test [] row e = cc
found_passes {X} test (first ∷ rows) row e = by (test first) refl e (found_passes test rows row)
  where
    by : (b : Bool) → test first ≡ b → cond b (Some first) (find test rows) ≡ Some row
        → (find test rows ≡ Some row → test row ≡ true) → test row ≡ true
    by true is e beyond = let same : first ≡ row = cc in ap test (sym same) ∙ is
    by false is e beyond = beyond e

-- nothing is found if no row passes
none_found : {X : Type 0} (test : X → Bool) (rows : List X) → ((row : X) → test row ≡ false) → find test rows ≡ None
none_found {X} test [] none = refl
none_found {X} test (first ∷ rows) none =
    ap (λ (b : Bool). cond b (Some first) (find test rows)) (none first) ∙ none_found test rows none

-- the graphic of an operation
abbrev graphic_of : Operation → List ℕ
graphic_of op.Add = codes "A"
graphic_of op.Subtract = codes "S"
graphic_of op.ZeroAdd = codes "?"
graphic_of op.ZeroSubtract = codes "!"
graphic_of op.Move = codes "M"
graphic_of op.Load = codes "L"
graphic_of op.MoveDigit = codes "D"
graphic_of op.MoveZone = codes "Y"
graphic_of op.SetWordMark = codes ","
graphic_of op.ClearWordMark = codes ")"
graphic_of op.ClearStorage = codes "/"
graphic_of op.Compare = codes "C"
graphic_of op.ZeroSuppress = codes "Z"
graphic_of op.Edit = codes "E"
graphic_of op.Branch = codes "B"
graphic_of op.BranchOnCell = codes "V"
graphic_of op.StoreA = codes "Q"
graphic_of op.StoreB = codes "H"
graphic_of op.NoOperation = codes "N"
graphic_of op.Halt = codes "."
graphic_of op.SelectStacker = codes "K"
graphic_of op.ReadCard = codes "1"
graphic_of op.WriteLine = codes "2"
graphic_of op.WriteAndRead = codes "3"
graphic_of op.PunchCard = codes "4"
graphic_of op.ReadAndPunch = codes "5"
graphic_of op.WriteAndPunch = codes "6"
graphic_of op.WriteReadAndPunch = codes "7"
graphic_of op.ControlCarriage = codes "F"

abbrev code_of : Operation → ℕ
code_of operation = slice_index (graphic_of operation) 0

-- whether a row of the operations is that of a graphic, and whether it is that of its operation's
abbrev is_at : ℕ → ℕ × Operation → Bool
is_at graphic row = row.0 == graphic

abbrev is_its_own : ℕ × Operation → Bool
is_its_own row = row.0 == code_of row.1

-- so a graphic that means an operation is its graphic
pub meaning_is : (graphic : ℕ) (operation : Operation) → meaning_of graphic ≡ Some operation
    → graphic ≡ code_of operation
meaning_is graphic operation e = by (find (is_at graphic) operations) refl e
  where
    by : (found : Option (ℕ × Operation)) → find (is_at graphic) operations ≡ found
        → option_map (λ (row : ℕ × Operation). row.1) found ≡ Some operation → graphic ≡ code_of operation
    by None is e = cc
    by (Some row) is e =
        let same : row.1 ≡ operation = cc in
        sym (eqb-true row.0 graphic (found_passes (is_at graphic) operations row is))
        ∙ eqb-true row.0 (code_of row.1) (found_has (is_at graphic) is_its_own operations row refl is)
        ∙ ap code_of same

-- what features make of an instruction that a machine without them carries out: only a branch by a cell is claimed
abbrev pub kept_in : Features → Operation → ℕ → Option Fitted
kept_in features operation len = if is_by_cell operation len && features.lengths then Some OnCell else None

abbrev pub IsKept : Features → Operation → ℕ → Type 0
IsKept features operation len = fitted_in features (code_of operation) len ≡ kept_in features operation len

-- a row of eight characters, which the lengths claim
eight_kept : (graphic : List ℕ) (fitted : Bool)
    → option_map (λ (row : FittedRow). row.3)
    (cond fitted (Some (fitted_row graphic Eight feature.Lengths OnCell)) None)
    ≡ cond fitted (Some OnCell) None
eight_kept graphic true = refl
eight_kept graphic false = refl

of_branch : (features : Features) (len : ℕ) → has_length op.Branch len ≡ true → IsKept features op.Branch len
of_branch features len has =
    elim (or_cases (4 == len) ((5 == len) || ((8 == len) || false)) has) [
      | inl four ↦ subst (IsKept features op.Branch) (eqb-true 4 len four) refl
      | inr more ↦ elim (or_cases (5 == len) ((8 == len) || false) more) [
        | inl five ↦ subst (IsKept features op.Branch) (eqb-true 5 len five) refl
        | inr last ↦ elim (or_cases (8 == len) false last) [
          | inl eight ↦ subst (IsKept features op.Branch) (eqb-true 8 len eight)
              (eight_kept (codes "B") features.lengths)
          | inr none ↦ absurd (false≢true none)
        ]
      ]
    ]

-- an operation that has one length
of_only : (features : Features) (operation : Operation) (only len : ℕ)
    → list_any (λ each. each == len) (only ∷ []) ≡ true → IsKept features operation only → IsKept features operation len
of_only features operation only len has kept =
    elim (or_cases (only == len) false has) [
      | inl same ↦ subst (IsKept features operation) (eqb-true only len same) kept
      | inr none ↦ absurd (false≢true none)
    ]

-- an operation that has one, four or seven characters
of_to_two : (features : Features) (operation : Operation) (len : ℕ)
    → list_any (λ each. each == len) (1 ∷ 4 ∷ 7 ∷ []) ≡ true → IsKept features operation 1 → IsKept features operation 4
    → IsKept features operation 7 → IsKept features operation len
of_to_two features operation len has at_one at_four at_seven =
    elim (or_cases (1 == len) ((4 == len) || ((7 == len) || false)) has) [
      | inl one ↦ subst (IsKept features operation) (eqb-true 1 len one) at_one
      | inr more ↦ elim (or_cases (4 == len) ((7 == len) || false) more) [
        | inl four ↦ subst (IsKept features operation) (eqb-true 4 len four) at_four
        | inr seven ↦ of_only features operation 7 len seven at_seven
      ]
    ]

of_halt : (features : Features) (len : ℕ) → has_length op.Halt len ≡ true → IsKept features op.Halt len
of_halt features len has =
    elim (or_cases (1 == len) ((4 == len) || false) has) [
      | inl one ↦ subst (IsKept features op.Halt) (eqb-true 1 len one) refl
      | inr four ↦ of_only features op.Halt 4 len four refl
    ]

pub features_keep : (features : Features) (operation : Operation) (len : ℕ) → has_length operation len ≡ true
    → IsKept features operation len
features_keep features op.Add len has = refl
features_keep features op.Subtract len has = refl
features_keep features op.ZeroAdd len has = refl
features_keep features op.ZeroSubtract len has = refl
features_keep features op.Move len has = of_to_two features op.Move len has refl refl refl
features_keep features op.Load len has = of_to_two features op.Load len has refl refl refl
features_keep features op.MoveDigit len has = refl
features_keep features op.MoveZone len has = refl
features_keep features op.SetWordMark len has = refl
features_keep features op.ClearWordMark len has = refl
features_keep features op.ClearStorage len has = refl
features_keep features op.Compare len has = refl
features_keep features op.ZeroSuppress len has = refl
features_keep features op.Edit len has = refl
features_keep features op.Branch len has = of_branch features len has
features_keep features op.BranchOnCell len has =
    of_only features op.BranchOnCell 8 len has (eight_kept (codes "V") features.lengths)
features_keep features op.StoreA len has = of_only features op.StoreA 4 len has refl
features_keep features op.StoreB len has = of_only features op.StoreB 4 len has refl
features_keep features op.NoOperation len has = refl
features_keep features op.Halt len has = of_halt features len has
features_keep features op.SelectStacker len has = refl
features_keep features op.ReadCard len has = refl
features_keep features op.WriteLine len has = refl
features_keep features op.WriteAndRead len has = refl
features_keep features op.PunchCard len has = refl
features_keep features op.ReadAndPunch len has = refl
features_keep features op.WriteAndPunch len has = refl
features_keep features op.WriteReadAndPunch len has = refl
features_keep features op.ControlCarriage len has = refl

-- whether a graphic is that of an operation, fitted or not
abbrev is_known : ℕ → Bool
is_known graphic = is_some (meaning_of graphic) || list_any (λ each. each == graphic) unfitted_operations

abbrev has_known : FittedRow → Bool
has_known row = is_known row.0

-- a character that is no operation isn't claimed
pub unclaimed : (features : Features) (graphic len : ℕ) → meaning_of graphic ≡ None
    → list_any (λ each. each == graphic) unfitted_operations ≡ false → fitted_in features graphic len ≡ None
unclaimed features graphic len none unknown = by (find (claims features graphic len) fitted_rows) refl
  where
    by : (found : Option FittedRow) → find (claims features graphic len) fitted_rows ≡ found
        → option_map (λ (row : FittedRow). row.3) found ≡ None
    by None is = refl
    by (Some row) is =
        let passes = found_passes (claims features graphic len) fitted_rows row is in
        let first =
        and_parts ((row.0 == graphic) && list_any (λ each. each == len) (fitted_lengths row.1))
        (has_feature features row.2) passes in
        let same =
        eqb-true row.0 graphic
        (and_parts (row.0 == graphic) (list_any (λ each. each == len) (fitted_lengths row.1)) first.0).0 in
        let known : is_known graphic ≡ true =
        ap is_known (sym same) ∙ found_has (claims features graphic len) has_known fitted_rows row refl is in
        let not_known : is_known graphic ≡ false =
        ap (λ (meant : Option Operation). is_some meant || list_any (λ each. each == graphic) unfitted_operations) none
        ∙ unknown in
        absurd (false≢true (sym not_known ∙ known))

-- nor is anything with nothing fitted
none_has : (feature : Feature) → has_feature no_features feature ≡ false
none_has feature.Multiply = refl
none_has feature.MoveRecord = refl
none_has feature.ModifyAddress = refl
none_has feature.BitTest = refl
none_has feature.Lengths = refl
none_has feature.ReadPunchRelease = refl
none_has feature.Tapes = refl

pub nothing_claimed : (graphic len : ℕ) → fitted_in no_features graphic len ≡ None
nothing_claimed graphic len =
    ap (λ (found : Option FittedRow). option_map (λ (row : FittedRow). row.3) found)
    (none_found (claims no_features graphic len) fitted_rows
    (λ row. and_right ((row.0 == graphic) && list_any (λ each. each == len) (fitted_lengths row.1))
    (has_feature no_features row.2) (none_has row.2)))

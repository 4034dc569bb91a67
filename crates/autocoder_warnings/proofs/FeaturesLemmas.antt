-- Features take nothing away: what the machine carries out without them, it carries out with them.
use Rattle.std.proofs.Common.{◌≡◌, ℕ, ◌==◌, ◌&&◌, ◌||◌, Bool, true, false, cond, List, [], ◌∷◌, Option, None, Some}
use Rattle.std.proofs.Common.{refl, sym, ap, ◌∙◌, inl, inr}
use Rattle.std.proofs.lemmas.Bool.{and_parts, and_right, eqb-true, or_cases, true≢false}
use Rattle.std.specs.Prelude.{find, is_none}
use Rattle.std.specs.List.{list_all, list_any}
use Rattle.std.specs.Option.{option_map, option_map_or}
use Rattle.machine_tables.specs.Fitted.{FittedRow, claims, fitted_lengths, fitted_rows, is_fitted_with, is_operation}
use Rattle.machine_tables.specs.Operation.{has_length, is_fitted, meaning_of}
use Rattle.machine_tables.specs.declared.fitted.Fitted.{Fitted}
use Rattle.machine_tables.specs.declared.fitted.Fitted.TheVariants as fitted
use Rattle.machine_tables.specs.declared.operation.Operation.{Operation}
use Rattle.machine_tables.specs.Features.{has_feature, no_features}
use Rattle.machine_tables.specs.declared.features.Feature.{Feature}
use Rattle.machine_tables.specs.declared.features.Feature.TheVariants as feature
use Rattle.machine_tables.specs.declared.features.Features.{Features}

-- what is found has what each row has
pub found_has : {X : Type 0} (test has : X → Bool) (rows : List X) (row : X) → list_all has rows ≡ true
    → find test rows ≡ Some row → has row ≡ true
found_has {X} test has [] row all e = cc
found_has {X} test has (first ∷ rows) row all e =
    by (test first) e (and_parts (has first) (list_all has rows) all).0
    (found_has test has rows row (and_parts (has first) (list_all has rows) all).1)
  where
    by : (b : Bool) → cond b (Some first) (find test rows) ≡ Some row → has first ≡ true
        → (find test rows ≡ Some row → has row ≡ true) → has row ≡ true
    by true e here beyond = let same : first ≡ row = cc in ap has (sym same) ∙ here
    by false e here beyond = beyond e

-- and what was looked for
found_passes : {X : Type 0} (test : X → Bool) (rows : List X) (row : X) → find test rows ≡ Some row → test row ≡ true
found_passes {X} test [] row e = cc
found_passes {X} test (first ∷ rows) row e = by (test first) refl e (found_passes test rows row)
  where
    by : (b : Bool) → test first ≡ b → cond b (Some first) (find test rows) ≡ Some row
        → (find test rows ≡ Some row → test row ≡ true) → test row ≡ true
    by true is e beyond = let same : first ≡ row = cc in ap test (sym same) ∙ is
    by false is e beyond = beyond e

-- no machine without features has one
none_has : (feature : Feature) → has_feature no_features feature ≡ false
none_has feature.Multiply = refl
none_has feature.MoveRecord = refl
none_has feature.ModifyAddress = refl
none_has feature.BitTest = refl
none_has feature.Lengths = refl
none_has feature.ReadPunchRelease = refl
none_has feature.Tapes = refl

-- so no row claims an instruction
pub nothing_claimed : (graphic len : ℕ) (rows : List FittedRow) → find (claims no_features graphic len) rows ≡ None
nothing_claimed graphic len [] = refl
nothing_claimed graphic len (row ∷ rows) =
    ap (λ (b : Bool). cond b (Some row) (find (claims no_features graphic len) rows))
    (and_right ((row.0 == graphic) && list_any (λ each. each == len) (fitted_lengths row.1))
    (has_feature no_features row.2) (none_has row.2))
    ∙ nothing_claimed graphic len rows

-- the law of a machine without features
pub plain_fitted : (graphic len : ℕ) → is_fitted_with no_features graphic len ≡ is_fitted graphic len
plain_fitted graphic len =
    ap (λ (found : Option FittedRow). option_map_or (is_operation no_features)
    (option_map (λ (row : FittedRow). row.3) found) (is_fitted graphic len))
    (nothing_claimed graphic len fitted_rows)

-- what is carried out whatever else is fitted
always_operation : (features : Features) (this : Fitted) → is_operation no_features this ≡ true
    → is_operation features this ≡ true
always_operation features fitted.OnCell e = refl
always_operation features fitted.OnBits e = refl
always_operation features fitted.CharacterAgain e = refl
always_operation features fitted.CellAgain e = refl
always_operation features fitted.BitsAgain e = absurd (true≢false (sym e))
always_operation features fitted.StoreA e = refl
always_operation features fitted.StoreB e = refl
always_operation features fitted.StoreSecond e = refl
always_operation features fitted.Halt e = refl
always_operation features fitted.Feed e = refl
always_operation features fitted.Multiply e = refl
always_operation features fitted.Divide e = refl
always_operation features fitted.MoveRecord e = refl
always_operation features fitted.ModifyAddress e = refl
always_operation features fitted.MoveTape e = refl
always_operation features fitted.LoadTape e = refl
always_operation features fitted.ControlTape e = refl
always_operation features fitted.NoLength e = absurd (true≢false (sym e))

-- a row that refuses instructions is of an operation that no machine has without features
abbrev refuses_none : FittedRow → Bool
refuses_none row = is_none (meaning_of row.0) || is_operation no_features row.3

each_row_refuses_none : list_all refuses_none fitted_rows ≡ true
each_row_refuses_none = refl

-- such an operation has no instructions on a machine without features
unmeant : (graphic len : ℕ) → is_none (meaning_of graphic) ≡ true → is_fitted graphic len ≡ false
unmeant graphic len none = by (meaning_of graphic) none
  where
    by : (meant : Option Operation) → is_none meant ≡ true
        → option_map_or (λ (operation : Operation). has_length operation len) meant false ≡ false
    by None none = refl
    by (Some means) none = absurd (true≢false (sym none))

-- the law of features: they take nothing away
pub stays_fitted : (features : Features) (graphic len : ℕ) → is_fitted graphic len ≡ true
    → is_fitted_with features graphic len ≡ true
stays_fitted features graphic len fits = by (find (claims features graphic len) fitted_rows) refl
  where
    by : (found : Option FittedRow) → find (claims features graphic len) fitted_rows ≡ found
        → option_map_or (is_operation features) (option_map (λ (row : FittedRow). row.3) found) (is_fitted graphic len)
        ≡ true
    by None is = fits
    by (Some row) is =
        let first =
        and_parts ((row.0 == graphic) && list_any (λ each. each == len) (fitted_lengths row.1))
        (has_feature features row.2) (found_passes (claims features graphic len) fitted_rows row is) in
        let same =
        eqb-true row.0 graphic
        (and_parts (row.0 == graphic) (list_any (λ each. each == len) (fitted_lengths row.1)) first.0).0 in
        elim (or_cases (is_none (meaning_of row.0)) (is_operation no_features row.3)
        (found_has (claims features graphic len) refuses_none fitted_rows row each_row_refuses_none is)) [
          | inl none ↦ absurd (true≢false
              (sym fits ∙ unmeant graphic len (ap (λ (code : ℕ). is_none (meaning_of code)) (sym same) ∙ none)))
          | inr always ↦ always_operation features row.3 always
        ]

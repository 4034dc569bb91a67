-- What isn't read or isn't started is the same wherever lines are placed, and whatever is known of them.
use Rattle.std.proofs.Common.{◌≡◌, ℕ, ◌+◌, Bool, true, false, not, ◌&&◌, cond, List, [], ◌∷◌, ◌++◌, Option, None, Some, refl, ap, ◌∙◌, take}
use Rattle.std.proofs.lemmas.List.Elements.{filter-append}
use Rattle.std.specs.List.{filter}
use Rattle.bcd_1401.specs.declared.cell.Cell.{Cell}
use Rattle.machine_tables.specs.declared.features.Features.{Features}
use Rattle.autocoder_statements.specs.Description.{describe}
use Rattle.autocoder_statements.specs.Statement.{well_formed}
use Rattle.autocoder_statements.specs.declared.statement.Line.{Line}
use Rattle.autocoder_statements.specs.declared.statement.Statement.{Statement}
use Rattle.autocoder_diagnostics.specs.Notes.{Known}
use Rattle.autocoder_placing.specs.Cells.{address_or_zero}
use Rattle.autocoder_placing.specs.Filling.{addresses_from, filled_by, filled_from}
use Rattle.autocoder_placing.specs.Placement.{Placement, placed_after}
use Rattle.autocoder_warnings.specs.Lost.{lost_from, lost_with}
use Rattle.autocoder_warnings.specs.Overlap.{first_overlap, overlaps_from, with_filler}
use Rattle.autocoder_warnings.specs.Warnings.{branches_unset, card_lost, compares_unlike, cut_warned, facts_of}
use Rattle.autocoder_warnings.specs.Warnings.{has_whole_text, is_lost, is_not_fitted, is_of_areas, is_of_loss, is_unused}
use Rattle.autocoder_warnings.specs.Warnings.{line_warnings, loss_left, loss_warned, never_branches, overlap_warned}
use Rattle.autocoder_warnings.specs.Warnings.{own_warnings, place_warnings, read_on, starts_nothing, warned_if, warned_of}
use Rattle.autocoder_warnings.specs.Warnings.{warnings_from, warnings_with}
use Rattle.autocoder_warnings.specs.declared.loss.Loss.{Loss}
use Rattle.autocoder_warnings.specs.declared.overlap.Overlap.{Overlap}
use Rattle.autocoder_warnings.specs.declared.warning.LineFacts.{LineFacts}
use Rattle.autocoder_warnings.specs.declared.warning.Warning.{Warning}
use Rattle.autocoder_warnings.specs.declared.warning.WarningKind.{WarningKind}
use Rattle.autocoder_warnings.specs.declared.warning.WarningKind.TheVariants as warnings

-- warnings of another kind go
gone : (is : Bool) (number : ℕ) (kind : WarningKind) → is_of_loss kind ≡ false
    → filter is_lost (warned_if is number kind) ≡ []
gone true number kind e = rw e refl
gone false number kind e = refl

gone_both : (front back : List Warning) → filter is_lost front ≡ [] → filter is_lost back ≡ []
    → filter is_lost (front ++ back) ≡ []
gone_both front back first second =
    filter-append is_lost front back ∙ ap (λ (them : List Warning). them ++ filter is_lost back) first ∙ second

kept_last : (front back : List Warning) → filter is_lost front ≡ []
    → filter is_lost (front ++ back) ≡ filter is_lost back
kept_last front back first =
    filter-append is_lost front back ∙ ap (λ (them : List Warning). them ++ filter is_lost back) first

started : (is : Bool) (number : ℕ)
    → filter is_lost (warned_if is number warnings.StartsNothing) ≡ warned_if is number warnings.StartsNothing
started true number = refl
started false number = refl

place_gone : (place : Option ℕ) (number : ℕ) → filter is_lost (warned_of place number) ≡ []
place_gone None number = refl
place_gone (Some place) number = refl

overlap_gone : (overlap : Option Overlap) (number : ℕ) → filter is_lost (overlap_warned overlap number) ≡ []
overlap_gone None number = refl
overlap_gone (Some overlap) number = refl

loss_stays : (loss : Option Loss) (number : ℕ) → filter is_lost (loss_warned loss number) ≡ loss_warned loss number
loss_stays None number = refl
loss_stays (Some loss) number = refl

cut_stays : (number : ℕ) (loss : Option Loss) (this : Statement)
    → filter is_lost (cut_warned number loss this) ≡ cut_warned number loss this
cut_stays number loss this =
    by (describe this.body).is_remark (loss_left (has_whole_text (describe this.body).contents) loss)
  where
    by : (is_remark : Bool) (left : Option Loss)
        → filter is_lost (cond is_remark [] (loss_warned left number)) ≡ cond is_remark [] (loss_warned left number)
    by true left = refl
    by false left = loss_stays left number

own_lost : (features : Features) (known : Known) (number : ℕ) (this : Statement)
    → filter is_lost (own_warnings features known number this)
    ≡ warned_if (starts_nothing (describe this.body).addressing) number warnings.StartsNothing
own_lost features known number this =
    let row = describe this.body in
    let is_idle_label = is_unused known (well_formed this.label) && not (is_of_areas row.areas) in
    let unfitted = warned_if (is_not_fitted features row.contents) number warnings.NotFitted in
    let unused = warned_if is_idle_label number warnings.UnusedLabel in
    let unset = warned_if (branches_unset known row.contents) number warnings.UnsetIndicator in
    let unlike = warned_if (compares_unlike known row.contents) number warnings.UnlikeSigns in
    let idle = warned_if (never_branches features row.contents) number warnings.NeverBranches in
    let last = warned_if (starts_nothing row.addressing) number warnings.StartsNothing in
    let two = gone_both unfitted unused (gone (is_not_fitted features row.contents) number warnings.NotFitted refl)
    (gone is_idle_label number warnings.UnusedLabel refl) in
    let three = gone_both (unfitted ++ unused) unset two
    (gone (branches_unset known row.contents) number warnings.UnsetIndicator refl) in
    let four = gone_both (unfitted ++ unused ++ unset) unlike three
    (gone (compares_unlike known row.contents) number warnings.UnlikeSigns refl) in
    let five = gone_both (unfitted ++ unused ++ unset ++ unlike) idle four
    (gone (never_branches features row.contents) number warnings.NeverBranches refl) in
    kept_last (unfitted ++ unused ++ unset ++ unlike ++ idle) last five
    ∙ started (starts_nothing row.addressing) number

place_lost : (storage : List Cell) (number : ℕ) (facts : LineFacts) (this : Statement)
    → filter is_lost (place_warnings storage number facts this) ≡ cut_warned number facts.loss this
place_lost storage number facts this =
    let on = read_on storage facts.address (describe this.body).contents in
    let place = warned_of on number in
    let overlap = overlap_warned facts.overlap number in
    kept_last (place ++ overlap) (cut_warned number facts.loss this)
    (gone_both place overlap (place_gone on number) (overlap_gone facts.overlap number))
    ∙ cut_stays number facts.loss this

line_lost : (features : Features) (known : Known) (storage : List Cell) (number : ℕ) (facts : LineFacts)
    (statement : Option Statement)
    → filter is_lost (warnings_with features known storage number facts statement)
    ≡ lost_with number facts.loss statement
line_lost features known storage number facts None = loss_stays (card_lost facts.loss) number
line_lost features known storage number facts (Some this) =
    filter-append is_lost (own_warnings features known number this) (place_warnings storage number facts this)
    ∙ ap (λ (front : List Warning). front ++ filter is_lost (place_warnings storage number facts this))
    (own_lost features known number this)
    ∙ ap (λ (back : List Warning).
    warned_if (starts_nothing (describe this.body).addressing) number warnings.StartsNothing ++ back)
    (place_lost storage number facts this)

-- of lines, wherever they are
pub lines_lost : (features : Features) (known : Known) (storage : List Cell) (number : ℕ) (all this : Placement)
    (above : List Line) (fillers : List ℕ) (n : ℕ) (losses : List (Option Loss)) (lines : List Line)
    → filter is_lost
    (warnings_from features known storage number (addresses_from this lines)
    (overlaps_from above fillers n (filled_from all this lines)) losses lines)
    ≡ lost_from number losses lines
lines_lost features known storage number all this above fillers n losses [] = refl
lines_lost features known storage number all this above fillers n [] (line ∷ lines) = refl
lines_lost features known storage number all this above fillers n (loss ∷ losses) (line ∷ lines) =
    let places = filled_by all this line lines in
    let facts = facts_of (address_or_zero this.next) (first_overlap fillers (take n above) places) loss in
    let first = line_warnings features known storage number facts line in
    let after = placed_after this line in
    let more =
    warnings_from features known storage (number + 1) (addresses_from after lines)
    (overlaps_from above (with_filler (n + 1) places.first places.count fillers) (n + 1) (filled_from all after lines))
    losses lines in
    filter-append is_lost first more
    ∙ ap (λ (front : List Warning). front ++ filter is_lost more)
    (line_lost features known storage number facts line.statement)
    ∙ ap (λ (back : List Warning). lost_with number loss line.statement ++ back)
    (lines_lost features known storage (number + 1) all after above
    (with_filler (n + 1) places.first places.count fillers) (n + 1) losses lines)

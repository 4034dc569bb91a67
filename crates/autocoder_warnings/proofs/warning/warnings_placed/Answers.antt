-- The warnings are those by what is known of all lines.
use Rattle.std.proofs.Common.{◌≡◌, ℕ, List, [], ◌++◌, IfOk, replicate, ◌∙◌, ap, subst}
use Rattle.bcd_1401.specs.declared.cell.Cell.{Cell}
use Rattle.machine_tables.specs.declared.features.Features.{Features}
use Rattle.autocoder_diagnostics.specs.Noted.{known_of}
use Rattle.autocoder_diagnostics.specs.Notes.{Known}
use Rattle.autocoder_placing.specs.Filling.{addresses_from, filled, filled_from}
use Rattle.autocoder_placing.specs.Placement.{Placement, unplaced}
use Rattle.autocoder_placing.specs.View.{places_of}
use Rattle.autocoder_warnings.specs.FittedNotes.{known_with}
use Rattle.autocoder_warnings.specs.Loss.{losses_of}
use Rattle.autocoder_warnings.specs.Overlap.{overlaps_from}
use Rattle.autocoder_warnings.specs.Warnings.{warnings_from, all_warnings}
use Rattle.autocoder_warnings.specs.declared.warning.Warning.{Warning}
use Rattle.autocoder_warnings.proofs.warning.warnings_placed.Goals as goal

pub returns-clause-ok : goal.returns-clause-ok
returns-clause-ok c =
    let size = c.args.size in
    let source = c.args.source.now in
    let lines = c.args.lines.now in
    let this = c.in_ok-this.this in
    let made = c.in_ok-made.made in
    let of : Features → List Warning → Known → List Cell → Placement → Placement → List ℕ → List Warning =
    λ features so_far known storage all above fillers. so_far
    ++ warnings_from features known storage 1 (addresses_from above lines)
    (overlaps_from lines fillers 0 (filled_from all above lines)) (losses_of source) lines in
    let all = places_of c.args.all.now in
    let features = c.args.features in
    let same : of this.features made.warnings.items (known_of this.notes) this.storage.items (places_of this.all.now)
    (places_of made.so_far) made.fillers.items ≡ all_warnings features size source lines =
    ap (λ (whole : Placement). of this.features made.warnings.items (known_of this.notes) this.storage.items whole
    (places_of made.so_far) made.fillers.items) (ap places_of c.in_ok-this.ensures.all)
    ∙ ap (λ (fitted : Features). of fitted made.warnings.items (known_of this.notes) this.storage.items all
    (places_of made.so_far) made.fillers.items) c.in_ok-this.ensures.features
    ∙ ap (λ (so_far : List Warning). of features so_far (known_of this.notes) this.storage.items all (places_of made.so_far)
    made.fillers.items) c.in_ok-made.ensures.warnings
    ∙ ap (λ (known : Known). of features [] known this.storage.items all (places_of made.so_far) made.fillers.items)
    c.in_ok-this.ensures.notes
    ∙ ap (λ (storage : List Cell). of features [] (known_with features lines) storage all (places_of made.so_far) made.fillers.items)
    c.in_ok-this.ensures.storage
    ∙ ap (λ (above : Placement). of features [] (known_with features lines) (filled size lines) all above made.fillers.items)
    c.in_ok-made.ensures.placed
    ∙ ap (λ (fillers : List ℕ). of features [] (known_with features lines) (filled size lines) all (unplaced all) fillers)
    c.in_ok-made.ensures.fillers
    ∙ ap (λ (whole : Placement). of features [] (known_with features lines) (filled size lines) whole (unplaced whole)
    (replicate size 0)) c.requires.placed in
    subst (λ (whole : List Warning). IfOk c.finish.result (λ warnings. warnings.items ≡ whole)) same
    c.finish.ensures.warned

-- One character more is added.
use Rattle.std.proofs.Common.{◌≡◌, ℕ, ◌∷◌, [], ◌-◌, ap, arith, get_or, length, sym, ◌∙◌, subst}
use Rattle.std.specs.Prelude.{slice_index}
use Rattle.std.proofs.lemmas.List.{append-nil, get_or_default}
use Rattle.bcd_1401.specs.Graphic.{graphics}
use Rattle.bcd_1401.specs.declared.cell.Cell.{Cell}
use Rattle.core_1401.specs.Storage.{blank}
use Rattle.bytes_text.specs.Written.{Adds}
use Rattle.bytes_text.proofs.AddsLemmas.{adds}
use Rattle.machine_notation.specs.Characters.{graphics_of}
use Rattle.operate_views.proofs.FieldTextLemmas.{graphic_more}
use Rattle.operate_views.proofs.field_text.put_graphics.Goals as goal

pub loop-i-init : goal.loop-i-init
unfolding graphics_of
loop-i-init c whole = (whole, sym (append-nil c.args.text.now.items))

pub loop-i-preserved : goal.loop-i-preserved
loop-i-preserved c =
    let cells = c.args.cells.now in
    let i = c.loop-i.i in
    let cell = c.index-cells-cells.result in
    let old = c.args.text.now in
    let new = c.put_byte.new.self in
    let read : get_or cells (length cells - 1 - i) cell ≡ get_or cells (length cells - 1 - i) blank =
    get_or_default cells (length cells - 1 - i) cell blank (omega arith) in
    let shown = c.graphic.ensures.entry ∙ ap (λ (each : Cell). slice_index graphics each.char) read in
    subst (λ text. Adds old new text) (sym (graphic_more cells i (omega arith)))
    (adds old c.loop-i.text new _ _ c.loop-i.invariant
    (subst (λ (graphic : ℕ). Adds c.loop-i.text new (graphic ∷ [])) shown c.put_byte.ensures))

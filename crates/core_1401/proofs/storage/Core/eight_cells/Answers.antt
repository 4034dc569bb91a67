-- The codes and the marks at these places are those of the cells.
use Rattle.std.proofs.Common.{ℕ, List, length, ap, arith, subst, ◌∙◌}
use Rattle.std.specs.Int.{from_le_bytes, w64}
use Rattle.core_1401.specs.EightCells.{AreEightCells, AreCodes, codes_from}
use Rattle.core_1401.specs.MarkWords.{held}
use Rattle.core_1401.specs.Storage.{Storage}
use Rattle.core_1401.proofs.EightCellsLemmas.{are_eight_cells}
use Rattle.core_1401.proofs.HeldLemmas.{length_held}
use Rattle.core_1401.proofs.storage.Core.eight_cells.Goals as goal

pub returns : goal.returns
returns c =
    let chars : List ℕ = c.self.inside.chars.items in
    let words : List ℕ = c.self.inside.words in
    let codes : ℕ = c.codes_up.result in
    let marks : ℕ = c.marks_up.result in
    let place : ℕ = c.from-place.result in
    let are : AreEightCells (held chars words) place codes marks =
    are_eight_cells chars words place codes marks
    (omega (arith, ap length c.self.view_is, length_held chars words, c.from-place.ensures, c.requires))
    (c.codes_up.ensures.number ∙ ap (λ (l : List ℕ). from_le_bytes w64 (codes_from l place)) c.deref.ensures.value)
    (subst (λ (l : List ℕ). AreCodes l place) c.deref.ensures.value c.codes_up.ensures.range) c.marks_up.ensures in
    subst (λ (at : ℕ). AreEightCells c.args.self.now at codes marks) c.from-place.ensures
    (subst (λ (storage : Storage). AreEightCells storage place codes marks) c.self.view_is are)

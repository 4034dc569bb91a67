-- The codes at these places are those of the cells.
use Rattle.std.proofs.Common.{ℕ, List, length, ap, arith, subst, ◌∙◌}
use Rattle.std.specs.Int.{from_le_bytes, w64}
use Rattle.core_1401.specs.EightCells.{AreEightCodes, AreCodes, codes_from}
use Rattle.core_1401.specs.MarkWords.{held}
use Rattle.core_1401.specs.Storage.{Storage}
use Rattle.core_1401.proofs.EightCellsLemmas.{are_eight_codes}
use Rattle.core_1401.proofs.HeldLemmas.{length_held}
use Rattle.core_1401.proofs.storage.Core.eight_codes.Goals as goal

pub returns : goal.returns
returns c =
    let chars : List ℕ = c.self.inside.chars.items in
    let words : List ℕ = c.self.inside.words in
    let codes : ℕ = c.codes_up.result in
    let place : ℕ = c.from.result in
    let are : AreEightCodes (held chars words) place codes =
    are_eight_codes chars words place codes
    (omega (arith, ap length c.self.view_is, length_held chars words, c.from.ensures, c.requires))
    (c.codes_up.ensures.number ∙ ap (λ (l : List ℕ). from_le_bytes w64 (codes_from l place)) c.deref.ensures.value)
    (subst (λ (l : List ℕ). AreCodes l place) c.deref.ensures.value c.codes_up.ensures.range) in
    subst (λ (at : ℕ). AreEightCodes c.args.self.now at codes) c.from.ensures
    (subst (λ (storage : Storage). AreEightCodes storage place codes) c.self.view_is are)

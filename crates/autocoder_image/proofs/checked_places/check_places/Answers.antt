-- What is found is the first line with something outside.
use Rattle.std.proofs.Common.{◌≡◌, ◌⊎◌, ℕ, List, Some, subst}
use Rattle.std.proofs.lemmas.Result.{err_from_is_err_and}
use Rattle.autocoder_statements.specs.declared.statement.Line.{Line}
use Rattle.autocoder_symbols.specs.Fault.{IsMemory}
use Rattle.autocoder_symbols.specs.declared.fault.AsmFault.{AsmFault}
use Rattle.autocoder_placing.specs.Laws.{IsFirstOutside}
use Rattle.autocoder_placing.specs.Placement.{Placement, placed, unplaced}
use Rattle.autocoder_placing.specs.Values.{first_outside, first_outside_from}
use Rattle.autocoder_placing.specs.View.{places_of}
use Rattle.autocoder_placing.proofs.LawLemmas.{refused_outside}
use Rattle.autocoder_image.proofs.checked_places.check_places.Goals as goal

-- lines that are placed again from before the first
refused_again : (size : ℕ) (all from : Placement) (lines : List Line) (fault : AsmFault) → from ≡ unplaced all
    → all ≡ placed lines → IsMemory fault ⊎ (first_outside_from size all 1 from lines ≡ Some fault)
    → IsMemory fault ⊎ ((first_outside size lines ≡ Some fault) × IsFirstOutside size lines fault)
refused_again size all from lines fault again same found =
    refused_outside size all lines fault same
    (subst (λ (this : Placement). IsMemory fault ⊎ (first_outside_from size all 1 this lines ≡ Some fault)) again found)

pub returns-in_err-check_lines-clause-outside : goal.returns-in_err-check_lines-clause-outside
returns-in_err-check_lines-clause-outside c =
    let p = err_from_is_err_and c.from_residual.result c.from_residual.ensures.1 in
    rw (p.1, p.2) (refused_again c.args.size (places_of c.args.all.now) (places_of c.again-so_far.result)
    c.args.lines.now _ c.again-so_far.ensures c.requires.placed c.in_err-check_lines.ensures.err)

-- A part of a sign is blank, if A is plus.
use Rattle.std.proofs.Common.{ℕ, ◌&&◌, if◌then◌else◌, List, ap, get_or, sym, ◌∙◌}
use Rattle.fields_1401.specs.declared.sign.Sign.{Sign}
use Rattle.fields_1401.specs.Edit.{is_sign_blanked, is_sign_char}
use Rattle.fields_1401.specs.Suppress.{blank_char}
use Rattle.fields_1401.proofs.SixteenPlacesLemmas.{blank_if, length-without, without_lane, no_sign, any_sign}
use Rattle.fields_1401.proofs.sixteen_places.without_sign.Goals as goal
use Rattle.fields_1401.proofs.sixteen_places.without_sign.Goals.{in-Plus, in-Minus}

pub returns-clause-lanes : goal.returns-clause-lanes
returns-clause-lanes c = λ i within.
    let char : ℕ = get_or c.args.codes i 0 in
    let shown : Sign → ℕ = λ sign. if is_sign_char char && is_sign_blanked sign 0 then blank_char else char in
    elim c.match-sign.branch [
      | in-Plus w ↦
          let one = length-without c.args.codes w.without.result 51 c.requires w.without.ensures in
          let two = length-without w.without.result w.without-in-Plus.result 41 one w.without-in-Plus.ensures in
          ap (λ (l : List ℕ). get_or l i 0) w.result-is
          ∙ without_lane w.without-in-Plus.result w.without-in-Plus-2.result 32 i two within w.without-in-Plus-2.ensures
          ∙ ap (blank_if 32) (without_lane w.without.result w.without-in-Plus.result 41 i one within
          w.without-in-Plus.ensures)
          ∙ ap (λ (n : ℕ). blank_if 32 (blank_if 41 n)) (without_lane c.args.codes w.without.result 51 i c.requires
          within w.without.ensures)
          ∙ no_sign char ∙ ap shown (sym w.in-Plus.is)
      | in-Minus w ↦
          ap (λ (l : List ℕ). get_or l i 0) w.result-is ∙ any_sign char ∙ ap shown (sym w.in-Minus.is)
    ]

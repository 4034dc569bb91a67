-- Ampersands are blank, commas and signs where they are to be.
use Rattle.std.proofs.Common.{◌≡◌, ℕ, ◌&&◌, nat_lt, if◌then◌else◌, List, ap, get_or, length, ◌∙◌}
use Rattle.fields_1401.specs.Edit.{is_left_over, is_sign_blanked, is_sign_char}
use Rattle.fields_1401.specs.Suppress.{blank_char}
use Rattle.fields_1401.proofs.SixteenPlacesLemmas.{blank_if, length-without, without_lane, kept_lane}
use Rattle.fields_1401.proofs.sixteen_places.kept_codes.Goals as goal

pub returns-clause-kept : goal.returns-clause-kept
returns-clause-kept c = λ i within isnt.
    let own : ℕ = get_or c.args.control i 0 in
    let n : ℕ = get_or c.args.beyond i 0 in
    let shown : List ℕ = c.without-shown.result in
    let no_comma : List ℕ = c.without-no_comma.result in
    let size : length shown ≡ 16 = length-without c.args.control shown 48 c.requires.control c.without-shown.ensures in
    let plain : get_or shown i 0 ≡ blank_if 48 own =
    without_lane c.args.control shown 48 i c.requires.control within c.without-shown.ensures in
    let bare : get_or no_comma i 0 ≡ blank_if 27 (blank_if 48 own) =
    without_lane shown no_comma 27 i size within c.without-no_comma.ensures ∙ ap (blank_if 27) plain in
    let first = c.without_sign-after_all.ensures.lanes i within
    ∙ ap (λ (char : ℕ). if is_sign_char char && is_sign_blanked c.args.rules.sign 0 then blank_char else char) bare in
    let later = c.where_left_over-elsewhere.ensures.lanes i within
    ∙ ap (λ (other : ℕ). if is_left_over c.args.rules n then other else get_or shown i 0) bare
    ∙ ap (λ (this : ℕ). if is_left_over c.args.rules n then blank_if 27 (blank_if 48 own) else this) plain in
    c.where_below.ensures.lanes i within
    ∙ ap (λ (this : ℕ). if nat_lt n 1 then this else get_or c.where_left_over-elsewhere.result i 0) first
    ∙ ap (λ (other : ℕ). if nat_lt n 1 then (if is_sign_char (blank_if 27 (blank_if 48 own))
    && is_sign_blanked c.args.rules.sign 0 then blank_char else blank_if 27 (blank_if 48 own)) else other) later
    ∙ kept_lane c.args.rules own n isnt

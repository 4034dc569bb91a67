-- A lane is blank where there is the code.
use Rattle.std.proofs.Common.{◌≡◌, ℕ, ◌<◌, ◌==◌, nat_eq, cond, if◌then◌else◌, List, ap, get_or, length, map, replicate}
use Rattle.std.proofs.Common.{sym, arith, ◌∙◌}
use Rattle.std.proofs.lemmas.List.{ext_get_or, length-map, get_or-map}
use Rattle.std.proofs.lemmas.Simd.{get_or-replicate, length-replicate}
use Rattle.fields_1401.specs.Suppress.{blank_char}
use Rattle.fields_1401.proofs.SixteenPlacesLemmas.{chosen, length-chosen, chosen_lane}
use Rattle.fields_1401.proofs.sixteen_places.without.Goals as goal

pub returns : goal.returns
returns c =
    let codes : List ℕ = c.args.codes in
    let blanks : List ℕ = replicate 16 0 in
    let shown : ℕ → ℕ = λ each. if each == c.args.code then blank_char else each in
    let blank : ℕ = 0 in
    let none : length blanks ≡ 16 = length-replicate 16 blank in
    let long : length (chosen nat_eq codes c.args.code blanks codes) ≡ 16 =
    length-chosen nat_eq codes c.args.code blanks codes c.requires none c.requires in
    ext_get_or 0 (chosen nat_eq codes c.args.code blanks codes) (map shown codes)
    (long ∙ sym (length-map codes shown ∙ c.requires))
    (λ i lt.
    let within : i < 16 = omega (arith, long, lt) in
    chosen_lane nat_eq codes c.args.code blanks codes i c.requires none c.requires within
    ∙ ap (λ (this : ℕ). cond (nat_eq (get_or codes i 0) c.args.code) this (get_or codes i 0))
    (get_or-replicate 16 i blank 0 within)
    ∙ sym (get_or-map shown codes i 0 0 (omega (arith, c.requires, within))))

-- How many records the head has passed.
use Rattle.std.proofs.Common.{◌≡◌, ℕ, ◌+◌, ◌<◌, ◌≤◌, List, [], ◌∷◌}
use Rattle.std.proofs.Common.{length, refl, ap, ◌∙◌, arith}
use Rattle.std.specs.Prelude.{slice_range}
use Rattle.std.proofs.lemmas.List.{length-reverse}
use Rattle.std.proofs.lemmas.List.Sums.{count_by-le-length}
use Rattle.machine_tapes.specs.Held.{begins, records_in, first_size, held, IsWound}
use Rattle.machine_tapes.specs.Reel.{longer_first}
use Rattle.machine_tapes.proofs.HeldLemmas.{length-range}
use Rattle.machine_tapes.proofs.MoveLemmas.{Between, between_first, passed_high}
use Rattle.machine_tapes.proofs.RecordLemmas.{records_counted}

-- each has a byte below the head
pub few_passed : (bytes : List ℕ) (head end : ℕ) → IsWound bytes head end → length (held bytes head end).passed ≤ head
few_passed bytes head end wound =
    let passed = slice_range bytes 0 head in
    let size : length passed ≡ head = omega (
      arith,
      length-range bytes 0 head (omega (arith, wound.order, wound.inside)),
    ) in
    omega (
      arith,
      length-reverse (records_in passed),
      records_counted passed,
      count_by-le-length begins passed,
      size,
    )

-- past a record that is between two places of the head
pub one_more : (bytes : List ℕ) (low high end : ℕ) → Between bytes low high end
    → length (held bytes high end).passed ≡ length (held bytes low end).passed + 1
one_more bytes low high end at =
    let passed = ap (λ (records : List (List ℕ)). length records) (passed_high bytes low high end at) in
    omega (arith, passed)

-- past the record ahead
pub counted_on : (bytes lent : List ℕ) (head end n : ℕ) → IsWound bytes head end → lent ≡ bytes
    → n ≡ first_size (slice_range lent head end) → n ≤ length (slice_range lent head end) → 0 < n
    → length (held bytes (head + n) end).passed ≡ length (held bytes head end).passed + 1
counted_on bytes lent head end n wound same size fits some =
    let e : n ≡ first_size (slice_range bytes head end) =
    size ∙ ap (λ (xs : List ℕ). first_size (slice_range xs head end)) same in
    let l = ap (λ (xs : List ℕ). length (slice_range xs head end)) same in
    let at = between_first bytes head end wound (omega (arith, l, fits, some)) (omega (arith, e, l, fits)) in
    ap (λ k. length (held bytes (head + k) end).passed) e
    ∙ one_more bytes head (head + first_size (slice_range bytes head end)) end at

-- a character more adds no record
pub same_number : (records : List (List ℕ)) (char : ℕ) → length (longer_first records char) ≡ length records
same_number [] char = refl
same_number (characters ∷ records) char = refl

-- Places that two fields share.
use Rattle.std.proofs.Common.{◌≡◌, ℕ, ◌+◌, ◌<◌, ◌≤◌, inl, inr, true, arith}
use Rattle.std.proofs.lemmas.Bool.{cases_lt}
use Rattle.std.proofs.lemmas.Bool.Decides.{nat_tests}
use Rattle.fields_1401.specs.Places.{is_within}
use Rattle.fields_1401.specs.Refusal.{SharePlace}
use Rattle.fields_1401.proofs.PlacesLemmas.{is_within-inside}

-- the lower of both addresses is one of the places of each
pub place_shared : (a u b m : ℕ) → 0 < u → 0 < m → a < b + u → b < a + m → SharePlace a u b m
place_shared a u b m some_a some_b a_reaches b_reaches =
    elim (cases_lt a b) [
      | inl below ↦ (
        a,
        (
          is_within-inside a u a (omega arith) (omega arith),
          is_within-inside b m a (omega arith) b_reaches,
        ),
      )
      | inr above ↦ (b, (is_within-inside a u b above a_reaches, is_within-inside b m b (omega arith) (omega arith)))
    ]

-- so far down each field goes that has a place of the other
within_reaches : (at n place : ℕ) → is_within at n place ≡ true → (place ≤ at) × (at < place + n)
within_reaches at n place e = grind (arith, nat_tests)

pub a_reaches : (a u b m : ℕ) → SharePlace a u b m → a < b + u
a_reaches a u b m (place, of_both) =
    let in_a = within_reaches a u place of_both.0 in
    let in_b = within_reaches b m place of_both.1 in
    omega arith

pub b_reaches : (a u b m : ℕ) → SharePlace a u b m → b < a + m
b_reaches a u b m (place, of_both) =
    let in_a = within_reaches a u place of_both.0 in
    let in_b = within_reaches b m place of_both.1 in
    omega arith

pub ruleset places = (place_shared, a_reaches, b_reaches)

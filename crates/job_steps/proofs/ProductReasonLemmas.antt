-- What an address sum and a quotient are refused for.
use Rattle.std.proofs.Common.{◌≡◌, ℕ, ◌+◌, ◌<◌, ◌≤◌, ◌&&◌, nat_lt, Bool, true, false, Option, None, Some, Ok, Err, refl}
use Rattle.std.proofs.Common.{sym, ◌∙◌, ap, if◌then◌else◌}
use Rattle.std.proofs.lemmas.Bool.{lt-ltb, le-ltb}
use Rattle.std.specs.Option.{option_map}
use Rattle.std.specs.Result.{result_err}
use Rattle.core_1401.specs.Field.{field_len_of}
use Rattle.core_1401.specs.Storage.{Storage}
use Rattle.fields_1401.specs.Load.{has_places}
use Rattle.fields_1401.specs.Number.{places_down}
use Rattle.fields_1401.specs.Outcome.{Outcome, below_by, registers_of}
use Rattle.fields_1401.specs.declared.done.Done.{Done}
use Rattle.fields_1401.specs.declared.done.FieldStop.{FieldStop}
use Rattle.fields_1401.specs.declared.done.FieldStop.TheVariants.{Address, Overlap}
use Rattle.fields_1401.specs.AddressSums.{address_sum, address_sum_at, with_address}
use Rattle.fields_1401.specs.Quotients.{dividend_at, dividend_len_of, division_stop, figures_of, quotient_at}
use Rattle.fields_1401.specs.Quotients.{quotient_places, terms_at, terms_of}
use Rattle.fields_1401.proofs.DivideLemmas.{divide_stopped, quotient_by_some, quotient_by_zero}
use Rattle.job_steps.specs.FieldReason.{field_stop}
use Rattle.job_steps.specs.declared.field_reason.FieldReason.{FieldReason}

-- the places of the one address are there, and why those of the other aren't is why the addresses can't be added
either_missing : (p q : Bool) (done : Storage × Done) → None ≡ (if p then None else Some Address)
    → (if q then None else Some Address)
    ≡ (let outcome : Outcome = if p && q then Ok done else Err Address in result_err outcome)
either_missing true true done there = refl
either_missing true false done there = refl
either_missing false q done there = cc

pub address_sum_refused : (s : Storage) (a b : ℕ) (first second : Option FieldReason) → first ≡ None
    → option_map field_stop first ≡ (if has_places s a 3 then None else Some Address)
    → option_map field_stop second ≡ (if has_places s b 3 then None else Some Address)
    → option_map field_stop second ≡ result_err (address_sum_at s a b)
unfolding address_sum_at
address_sum_refused s a b first second none of_a of_b =
    let there : None ≡ (if has_places s a 3 then None else Some Address) =
    sym (ap (λ (found : Option FieldReason). option_map field_stop found) none) ∙ of_a in
    of_b
    ∙ either_missing (has_places s a 3) (has_places s b 3)
    (with_address s b (address_sum s a b), registers_of (below_by a 3) (below_by b 3)) there

-- the lengths of divisor and dividend
pub terms_are : (s : Storage) (a b n r : ℕ) → field_len_of s a ≡ Some n → Some r ≡ dividend_len_of s b
    → Some (n, r) ≡ terms_at s a b
terms_are s a b n r divisor dividend =
    ap (λ (k : Option ℕ). terms_of (Some n) k) dividend
    ∙ ap (λ (k : Option ℕ). terms_of k (dividend_len_of s b)) (sym divisor)

-- a divisor of zero isn't refused
pub zero_divides : (s : Storage) (a b n r : ℕ) → Some (n, r) ≡ terms_at s a b → figures_of (places_down s a n) ≡ 0
    → None ≡ result_err (quotient_at s a b)
zero_divides s a b n r terms none =
    sym (ap (λ (outcome : Outcome). result_err outcome) (quotient_by_zero s a b n r terms none))

-- another is, for want of places and for an overlap
stopped_so : (s : Storage) (a b n r figures e k : ℕ) (why : FieldStop) → Some (n, r) ≡ terms_at s a b
    → figures ≡ figures_of (places_down s a n) → 0 < figures → k ≡ quotient_places r figures → e ≡ dividend_at b r
    → division_stop a n e k ≡ Some why
    → Some why ≡ result_err (quotient_at s a b)
stopped_so s a b n r figures e k why terms same some of_k of_e stops =
    sym (ap (λ (outcome : Outcome). result_err outcome)
    (quotient_by_some s a b n r figures terms same some
    ∙ divide_stopped s a n (dividend_at b r) r figures why
    (ap (division_stop a n (dividend_at b r)) (sym of_k) ∙ ap (λ (at : ℕ). division_stop a n at k) (sym of_e) ∙ stops)))

pub no_quotient_places : (s : Storage) (a b n r figures e k : ℕ) → Some (n, r) ≡ terms_at s a b
    → figures ≡ figures_of (places_down s a n) → 0 < figures → k ≡ quotient_places r figures → e ≡ dividend_at b r
    → e < n + k
    → Some Address ≡ result_err (quotient_at s a b)
no_quotient_places s a b n r figures e k terms same some of_k of_e few =
    stopped_so s a b n r figures e k Address terms same some of_k of_e (rw (lt-ltb e (n + k) few) refl)

pub quotient_overlaps : (s : Storage) (a b n r figures e k : ℕ) → Some (n, r) ≡ terms_at s a b
    → figures ≡ figures_of (places_down s a n) → 0 < figures → k ≡ quotient_places r figures → e ≡ dividend_at b r
    → n + k ≤ e → (nat_lt a (e + n) && nat_lt e (a + (n + k + 1))) ≡ true
    → Some Overlap ≡ result_err (quotient_at s a b)
quotient_overlaps s a b n r figures e k terms same some of_k of_e places shared =
    stopped_so s a b n r figures e k Overlap terms same some of_k of_e
    (rw (le-ltb e (n + k) places, shared) refl)

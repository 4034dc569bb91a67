-- The names of journals, read and written.
use Rattle.std.proofs.Common.{◌≡◌, ◌≢◌, ℕ, List, get_or, arith, ap, sym, subst, ◌∙◌}
use Rattle.std.specs.Bool.{Decides}
use Rattle.std.specs.Prelude.{Bool, true, false, Ok, Result}
use Rattle.std.specs.Fmt.{decimal}
use Rattle.std.specs.Str.Parse.{ParsesUnsigned}
use Rattle.std.proofs.lemmas.Fmt.{decimal-digits_value}
use Rattle.std.proofs.lemmas.Str.Parse.{numerals_by_value, parse_plain, tells_digits}

-- a number whose digits have neither a sign nor a zero in front has them alone
pub only_digits : {E : Type 0} (digits : List ℕ) (read : Result ℕ E) (number : ℕ) → read ≡ Ok number
    → ParsesUnsigned 32 10 digits read → get_or digits 0 0 ≢ 43 → get_or digits 0 0 ≢ 48 → digits ≡ decimal number
only_digits {E} digits read number is parsed no_sign no_zero =
    let plain = parse_plain (numerals_by_value _ tells_digits) {E = E} 32 digits (Ok number)
    (subst (λ (r : Result ℕ E). ParsesUnsigned 32 10 digits r) is parsed) no_sign in
    sym (decimal-digits_value (numerals_by_value _ tells_digits) digits plain.0.0 plain.0.1
    (λ zero. absurd (no_zero zero)) (omega (arith, plain.0.2)))
    ∙ ap decimal (sym plain.1)

-- a byte that a text doesn't begin with
pub no_first : {P : Type 0} (begins : Bool) → Decides begins P → begins ≡ false → P → ⊥
no_first true decides never first = absurd (cc never)
no_first false decides never first = absurd (cc (decides.1 first))

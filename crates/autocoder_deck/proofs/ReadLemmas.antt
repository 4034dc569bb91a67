-- The operands of an instruction with a word of its own: they are read again, and assembled as its cells.
use Rattle.std.proofs.Common.{◌≡◌, ℕ, zero, suc, ◌+◌, ◌-◌, ◌<◌, ◌≤◌, ◌==◌, true}
use Rattle.std.proofs.Common.{List, [], ◌∷◌, ◌++◌, length, Option, Some, is_some, refl, subst, ◌∙◌}
use Rattle.std.proofs.Common.{arith, length-append}
use Rattle.std.specs.Prelude.{position}
use Rattle.std.specs.List.{list_all}
use Rattle.std.proofs.lemmas.Bool.{and_from, and_parts}
use Rattle.std.proofs.lemmas.Bool.Decides.{nat_tests}
use Rattle.std.proofs.lemmas.List.Folds.{list_all-append}
use Rattle.bcd_1401.specs.Graphic.{graphics}
use Rattle.bcd_1401.specs.declared.cell.Cell.{Cell}
use Rattle.core_1401.specs.Address.{value_of}
use Rattle.machine_notation.specs.Digits.{digits_in}
use Rattle.bcd_1401.specs.Digits.{is_digit}
use Rattle.autocoder_statements.specs.SourceLine.{is_graphic}
use Rattle.machine_notation.specs.Address.{index_text, register_in, address_text}
use Rattle.machine_notation.specs.InstructionText.{IsOwn, graphic_of}
use Rattle.autocoder_deck.proofs.NumberLemmas.{number_again}

digit_is_graphic : (d : ℕ) → d < 10 → is_graphic (48 + d) ≡ true
unfolding graphics
digit_is_graphic zero h = refl
digit_is_graphic (suc zero) h = refl
digit_is_graphic (suc (suc zero)) h = refl
digit_is_graphic (suc (suc (suc zero))) h = refl
digit_is_graphic (suc (suc (suc (suc zero)))) h = refl
digit_is_graphic (suc (suc (suc (suc (suc zero))))) h = refl
digit_is_graphic (suc (suc (suc (suc (suc (suc zero)))))) h = refl
digit_is_graphic (suc (suc (suc (suc (suc (suc (suc zero))))))) h = refl
digit_is_graphic (suc (suc (suc (suc (suc (suc (suc (suc zero)))))))) h = refl
digit_is_graphic (suc (suc (suc (suc (suc (suc (suc (suc (suc zero))))))))) h = refl
digit_is_graphic (suc (suc (suc (suc (suc (suc (suc (suc (suc (suc more)))))))))) h = absurd (omega (arith, h))

digit_shows : (byte : ℕ) → is_digit byte ≡ true → is_graphic byte ≡ true
digit_shows byte digit =
    let low : 48 ≤ byte = grind (arith, nat_tests) in
    let high : byte ≤ 57 = grind (arith, nat_tests) in
    subst (λ (each : ℕ). is_graphic each ≡ true) (omega arith) (digit_is_graphic (byte - 48) (omega arith))

digits_show : (word : List ℕ) → list_all is_digit word ≡ true → list_all is_graphic word ≡ true
digits_show [] digits = refl
digits_show (byte ∷ word) digits =
    let parts = and_parts (is_digit byte) (list_all is_digit word) digits in
    and_from _ _ (digit_shows byte parts.0) (digits_show word parts.1)

index_shows : (index : ℕ) → index < 4 → list_all is_graphic (index_text index) ≡ true
unfolding graphics
index_shows zero h = refl
index_shows (suc zero) h = refl
index_shows (suc (suc zero)) h = refl
index_shows (suc (suc (suc zero))) h = refl
index_shows (suc (suc (suc (suc more)))) h = absurd (omega (arith, h))

both_show : (front back : List ℕ) → list_all is_graphic front ≡ true → list_all is_graphic back ≡ true
    → list_all is_graphic (front ++ back) ≡ true
both_show front back f b = list_all-append is_graphic front back ∙ rw (f, b) refl

-- an address is written in graphics
pub address_shows : (h t u : ℕ) → value_of h t u < 100000 → list_all is_graphic (address_text h t u) ≡ true
address_shows h t u fits =
    both_show (digits_in 3 (value_of h t u)) (index_text (register_in t))
    (digits_show (digits_in 3 (value_of h t u)) (number_again (value_of h t u) fits).digits)
    (index_shows (register_in t) (omega arith))

some_of : (found : Option ℕ) (char : ℕ) → found ≡ Some char → is_some found ≡ true
some_of found char e = rw e refl

-- so is a character
pub graphic_shows : (cell : Cell) → IsOwn cell → is_graphic (graphic_of cell) ≡ true
graphic_shows cell own = some_of (position (λ each. each == graphic_of cell) graphics) cell.char own

-- what follows is written in graphics too
pub comma_shows : is_graphic 44 ≡ true
unfolding graphics
comma_shows = refl

index_few : (index : ℕ) → index < 4 → length (index_text index) ≤ 3
index_few zero h = omega arith
index_few (suc zero) h = omega arith
index_few (suc (suc zero)) h = omega arith
index_few (suc (suc (suc zero))) h = omega arith
index_few (suc (suc (suc (suc more)))) h = absurd (omega (arith, h))

-- an address has up to eight columns
pub address_few : (h t u : ℕ) → value_of h t u < 100000 → length (address_text h t u) ≤ 8
address_few h t u fits =
    omega (
      arith,
      (number_again (value_of h t u) fits).few,
      index_few (register_in t) (omega arith),
      length-append (digits_in 3 (value_of h t u)) (index_text (register_in t)),
    )

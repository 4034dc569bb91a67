-- The cells that the assembler makes of an address and of a d-character.
use Rattle.std.proofs.Common.{◌≡◌, ℕ, ◌+◌, ◌==◌, None, Some, ◌%◌, ◌<◌, ◌&&◌, nat_lt, Bool, true, false, not}
use Rattle.std.proofs.Common.{if◌then◌else◌}
use Rattle.std.proofs.Common.{[], ◌∷◌}
use Rattle.std.proofs.Common.{pos, refl, ap, ◌∙◌, arith}
use Rattle.std.specs.Prelude.{ℤ, int_le, int_lt, unwrap_or}
use Rattle.std.specs.Str.{bytes_eq}
use Rattle.std.proofs.lemmas.Bool.{and_parts, false≢true}
use Rattle.std.proofs.lemmas.Bool.Decides.{nat_tests}
use Rattle.std.proofs.lemmas.Slice.Eq.{bytes_eq-Decides}
use Rattle.bcd_1401.specs.declared.cell.Cell.{Cell}
use Rattle.core_1401.specs.Address.{addresses, value_of, spelling_of}
use Rattle.autocoder_placing.specs.Cells.{address_or_zero, plain, with_index, address_codes}
use Rattle.autocoder_placing.specs.Characters.{char_of}
use Rattle.autocoder_placing.specs.Placement.{Placement}
use Rattle.machine_notation.specs.Address.{register_in}
use Rattle.machine_notation.specs.InstructionText.{IsOwn, graphic_of}
use Rattle.autocoder_deck.specs.Assembled.{is_spelling, has_no_mark}
use Rattle.autocoder_deck.proofs.WrittenAddressLemmas.{named_index, numbered}

by_place : (value : ℕ) (inside : Bool) → inside ≡ true → (if inside then value else 0) ≡ value
by_place value true h = refl
by_place value false h = absurd (false≢true h)

place_again : (value : ℕ) → value < 16000 → address_or_zero (pos value) ≡ value
place_again value fits = by_place value (int_le (pos 0) (pos value) && int_lt (pos value) (pos 16000)) (grind (
  arith,
  nat_tests,
))

codes_by : (value index place : ℕ) → place ≡ value
    → with_index index (spelling_of place) ≡ with_index index (spelling_of value)
codes_by value index place e = rw e refl

-- the index register that an address names, or else none
named_again : (index : ℕ) → unwrap_or (named_index index) 0 ≡ index
named_again index = by (index == 0) refl
  where
    by : (b : Bool) → (index == 0) ≡ b → unwrap_or (if b then None else Some index) 0 ≡ index
    by true e = grind (arith, nat_tests, e)
    by false e = refl

-- an address in the assembler's spelling is spelled so again
pub address_codes_again : (h t u : ℕ) → is_spelling h t u ≡ true → (all : Placement) (here : ℤ)
    → address_codes all here (numbered (value_of h t u) (register_in t)) ≡ h ∷ t ∷ u ∷ []
address_codes_again h t u spelled all here =
    let parts = and_parts (nat_lt (value_of h t u) addresses)
    (bytes_eq (with_index (register_in t) (spelling_of (value_of h t u))) (h ∷ t ∷ u ∷ [])) spelled in
    let inside : value_of h t u < 16000 = grind (arith, nat_tests, parts.0) in
    let same : unwrap_or (named_index (register_in t)) 0 % 4 ≡ register_in t =
    ap (λ (index : ℕ). index % 4) (named_again (register_in t)) ∙ omega arith in
    let spelt = bytes_eq-Decides (with_index (register_in t) (spelling_of (value_of h t u))) (h ∷ t ∷ u ∷ []) in
    let sum : value_of h t u + 0 ≡ value_of h t u = omega arith in
    ap (λ (index : ℕ). with_index index (spelling_of (address_or_zero (pos (value_of h t u + 0))))) same
    ∙ codes_by (value_of h t u) (register_in t) (address_or_zero (pos (value_of h t u + 0)))
    (ap (λ (value : ℕ). address_or_zero (pos value)) sum ∙ place_again (value_of h t u) inside)
    ∙ spelt.0 parts.1

plain_by : (char : ℕ) (mark : Bool) → not mark ≡ true
    → plain char ≡ record { char = char; mark = mark }
plain_by char true h = absurd (false≢true h)
plain_by char false h = refl

-- a cell without a word mark
pub plain_again : (cell : Cell) → has_no_mark cell ≡ true → plain cell.char ≡ cell
plain_again cell h = plain_by cell.char cell.mark h

-- the character of a graphic
pub char_again : (cell : Cell) → IsOwn cell → char_of (graphic_of cell) ≡ cell.char
char_again cell own = rw own refl

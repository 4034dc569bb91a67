-- A card that brings cells: it moves its columns to their places and sets their word marks, and the next card is read.
use Rattle.std.proofs.Common.{◌≡◌, ℕ, zero, suc, ◌+◌, ◌-◌, ◌<◌, ◌≤◌, ◌⊎◌, ◌==◌, Bool, true, false}
use Rattle.std.proofs.Common.{List, [], ◌∷◌, ◌++◌, length, map, get_or, set, inl, inr, if◌then◌else◌, refl, ap, sym}
use Rattle.std.proofs.Common.{subst, ◌∙◌, arith}
use Rattle.std.proofs.lemmas.Bool.Decides.{nat_tests}
use Rattle.std.proofs.lemmas.List.{length-append}
use Rattle.std.proofs.lemmas.List.{length-set}
use Rattle.std.specs.List.{range_with_len}
use Rattle.bcd_1401.specs.declared.cell.Cell.{Cell}
use Rattle.bcd_1401.specs.Graphic.{graphics}
use Rattle.core_1401.specs.Storage.{Storage, blank, cell_at, with_mark}
use Rattle.devices_1401.specs.declared.card.Card.{Card}
use Rattle.machine_tables.specs.declared.operation.Operation.TheVariants as op
use Rattle.cpu_1401.specs.State.{State}
use Rattle.autocoder_deck.proofs.AddressLemmas.{effective_is}
use Rattle.autocoder_deck.proofs.LoaderCardLemmas.{loader_marks}
use Rattle.autocoder_deck.proofs.PlacesLemmas.{cell_beyond, chars_over}
use Rattle.autocoder_deck.proofs.PlacesLemmas.{set_beyond, with_marks}
use Rattle.autocoder_deck.proofs.ProgramLemmas.{instruction, read_next, set_one, spelled, with_card}
use Rattle.autocoder_deck.proofs.StepLemmas.{Leaves}

-- what the loader on a card says: its first operation, how many columns it brings, the last place that they come to,
-- and the seven places whose word marks are set
pub record CardCode : Type 0 where
  pub does : ℕ
  pub count : ℕ
  pub top : ℕ
  pub first : ℕ
  pub second : ℕ
  pub third : ℕ
  pub fourth : ℕ
  pub fifth : ℕ
  pub sixth : ℕ
  pub seventh : ℕ

-- its columns, and those with the two blanks after them
abbrev pub code_line : CardCode → List ℕ
code_line c =
    c.does ∷ spelled c.count (spelled c.top (27 ∷ spelled c.first (27 ∷ spelled c.second (27 ∷ spelled c.third
    (27 ∷ spelled c.fourth (27 ∷ spelled c.fifth (27 ∷ spelled c.sixth (27 ∷ spelled c.seventh
    (1 ∷ 10 ∷ 4 ∷ 10 ∷ [])))))))))

abbrev pub code_chars : CardCode → List ℕ
code_chars c = code_line c ++ 0 ∷ 0 ∷ []

-- 39 columns, one by one
abbrev pub columns : List ℕ → List ℕ
columns front = map (λ i. get_or front i 0) (range_with_len 0 39)

abbrev pub card_chars : List ℕ → CardCode → List ℕ
card_chars front code = columns front ++ code_chars code

abbrev pub here : List ℕ → CardCode → Storage
here front code = with_marks loader_marks 0 (0 ∷ card_chars front code)

-- a place whose word mark is set: 040, or one past the card
abbrev pub IsPlace : ℕ → ℕ → Type 0
IsPlace size place = (place ≡ 40) ⊎ ((81 ≤ place) × (place < 81 + size))

-- what is after the card, with the word mark of a place
abbrev pub mark_beyond : Storage → ℕ → Storage
mark_beyond rest place = if place == 40 then rest else with_mark rest (place - 81) true

-- a word mark that is set twice
twice : (rest : Storage) (k : ℕ) → with_mark (with_mark rest k true) k true ≡ with_mark rest k true
twice [] k = refl
twice (cell ∷ rest) zero = refl
twice (cell ∷ rest) (suc k) = ap (λ (more : Storage). cell ∷ more) (twice rest k)

once_beyond : (low rest : Storage) (place : ℕ) → length low ≡ 81 → 81 ≤ place
    → with_mark (low ++ rest) place true ≡ low ++ with_mark rest (place - 81) true
once_beyond low rest place size far =
    let at : place ≡ length low + (place - 81) = omega (arith, size) in
    let k = place - 81 in
    ap (λ (n : ℕ). with_mark (low ++ rest) n true) at
    ∙ ap (λ (cell : Cell). set (low ++ rest) (length low + k) (record cell { mark = true })) (cell_beyond low rest k)
    ∙ set_beyond low rest k (record (cell_at rest k) { mark = true })

marked_beyond : (low rest : Storage) (place : ℕ) → length low ≡ 81 → 81 ≤ place
    → with_mark (with_mark (low ++ rest) place true) place true ≡ low ++ mark_beyond rest place
marked_beyond low rest place size far =
    let other : (place == 40) ≡ false = grind (arith, nat_tests) in
    let k = place - 81 in
    ap (λ (s : Storage). with_mark s place true) (once_beyond low rest place size far)
    ∙ once_beyond low (with_mark rest k true) place size far ∙ ap (λ (more : Storage). low ++ more) (twice rest k)
    ∙ ap (λ (b : Bool). low ++ (if b then rest else with_mark rest k true)) (sym other)

marked_there : (low rest : Storage) (place : ℕ) → length low ≡ 81 → with_mark (low ++ rest) 40 true ≡ low ++ rest
    → IsPlace (length rest) place
    → with_mark (with_mark (low ++ rest) place true) place true ≡ low ++ mark_beyond rest place
marked_there low rest place size same is =
    elim is [
      | inl e ↦ subst (λ (k : ℕ). with_mark (with_mark (low ++ rest) k true) k true ≡ low ++ mark_beyond rest k) (sym e)
          (ap (λ (s : Storage). with_mark s 40 true) same ∙ same)
      | inr far ↦ marked_beyond low rest place size far.0
    ]

place_in : (low rest : Storage) (place : ℕ) → length low ≡ 81 → IsPlace (length rest) place
    → place < length (low ++ rest)
place_in low rest place size is =
    elim is [
      | inl e ↦ omega (arith, length-append low rest)
      | inr far ↦ omega (arith, length-append low rest, far.0, far.1)
    ]

pub length-mark_beyond : (rest : Storage) (place : ℕ) → length (mark_beyond rest place) ≡ length rest
length-mark_beyond rest place = either (place == 40)
  where
    either : (b : Bool) → length (if b then rest else with_mark rest (place - 81) true) ≡ length rest
    either true = refl
    either false = length-set rest (place - 81) (record (cell_at rest (place - 81)) { mark = true })

-- what is after the card with all seven word marks
abbrev pub all_marked : CardCode → Storage → Storage
all_marked code rest =
    mark_beyond (mark_beyond (mark_beyond (mark_beyond (mark_beyond (mark_beyond (mark_beyond rest code.first)
    code.second) code.third) code.fourth) code.fifth) code.sixth) code.seventh

pub record ArePlaces (code : CardCode) (size : ℕ) : Type 0 where
  pub first : IsPlace size code.first
  pub second : IsPlace size code.second
  pub third : IsPlace size code.third
  pub fourth : IsPlace size code.fourth
  pub fifth : IsPlace size code.fifth
  pub sixth : IsPlace size code.sixth
  pub seventh : IsPlace size code.seventh

still : (rest after : Storage) (place : ℕ) → length after ≡ length rest → IsPlace (length rest) place
    → IsPlace (length after) place
still rest after place e is = subst (λ (n : ℕ). IsPlace n place) (sym e) is

module _ (last : State) (hopper : List Card) (front : List ℕ) (code : CardCode) where
  first_set : (rest : Storage) → IsPlace (length rest) code.first
      → Leaves last hopper (here front code ++ mark_beyond rest code.first) 51 → Leaves last hopper (here front code ++ rest) 47
  unfolding graphics
  first_set rest is =
      set_one last hopper (here front code ++ rest) (here front code ++ mark_beyond rest code.first) 47 code.first
      (instruction (here front code) rest 47 op.SetWordMark 4 refl refl refl refl)
      (effective_is (here front code ++ rest) 48 code.first refl refl refl)
      (place_in (here front code) rest code.first refl is) (marked_there (here front code) rest code.first refl refl is)

  second_set : (rest : Storage) → IsPlace (length rest) code.second
      → Leaves last hopper (here front code ++ mark_beyond rest code.second) 55 → Leaves last hopper (here front code ++ rest) 51
  unfolding graphics
  second_set rest is =
      set_one last hopper (here front code ++ rest) (here front code ++ mark_beyond rest code.second) 51 code.second
      (instruction (here front code) rest 51 op.SetWordMark 4 refl refl refl refl)
      (effective_is (here front code ++ rest) 52 code.second refl refl refl)
      (place_in (here front code) rest code.second refl is) (marked_there (here front code) rest code.second refl refl is)

  third_set : (rest : Storage) → IsPlace (length rest) code.third
      → Leaves last hopper (here front code ++ mark_beyond rest code.third) 59 → Leaves last hopper (here front code ++ rest) 55
  unfolding graphics
  third_set rest is =
      set_one last hopper (here front code ++ rest) (here front code ++ mark_beyond rest code.third) 55 code.third
      (instruction (here front code) rest 55 op.SetWordMark 4 refl refl refl refl)
      (effective_is (here front code ++ rest) 56 code.third refl refl refl)
      (place_in (here front code) rest code.third refl is) (marked_there (here front code) rest code.third refl refl is)

  fourth_set : (rest : Storage) → IsPlace (length rest) code.fourth
      → Leaves last hopper (here front code ++ mark_beyond rest code.fourth) 63 → Leaves last hopper (here front code ++ rest) 59
  unfolding graphics
  fourth_set rest is =
      set_one last hopper (here front code ++ rest) (here front code ++ mark_beyond rest code.fourth) 59 code.fourth
      (instruction (here front code) rest 59 op.SetWordMark 4 refl refl refl refl)
      (effective_is (here front code ++ rest) 60 code.fourth refl refl refl)
      (place_in (here front code) rest code.fourth refl is) (marked_there (here front code) rest code.fourth refl refl is)

  fifth_set : (rest : Storage) → IsPlace (length rest) code.fifth
      → Leaves last hopper (here front code ++ mark_beyond rest code.fifth) 67 → Leaves last hopper (here front code ++ rest) 63
  unfolding graphics
  fifth_set rest is =
      set_one last hopper (here front code ++ rest) (here front code ++ mark_beyond rest code.fifth) 63 code.fifth
      (instruction (here front code) rest 63 op.SetWordMark 4 refl refl refl refl)
      (effective_is (here front code ++ rest) 64 code.fifth refl refl refl)
      (place_in (here front code) rest code.fifth refl is) (marked_there (here front code) rest code.fifth refl refl is)

  sixth_set : (rest : Storage) → IsPlace (length rest) code.sixth
      → Leaves last hopper (here front code ++ mark_beyond rest code.sixth) 71 → Leaves last hopper (here front code ++ rest) 67
  unfolding graphics
  sixth_set rest is =
      set_one last hopper (here front code ++ rest) (here front code ++ mark_beyond rest code.sixth) 67 code.sixth
      (instruction (here front code) rest 67 op.SetWordMark 4 refl refl refl refl)
      (effective_is (here front code ++ rest) 68 code.sixth refl refl refl)
      (place_in (here front code) rest code.sixth refl is) (marked_there (here front code) rest code.sixth refl refl is)

  seventh_set : (rest : Storage) → IsPlace (length rest) code.seventh
      → Leaves last hopper (here front code ++ mark_beyond rest code.seventh) 75 → Leaves last hopper (here front code ++ rest) 71
  unfolding graphics
  seventh_set rest is =
      set_one last hopper (here front code ++ rest) (here front code ++ mark_beyond rest code.seventh) 71 code.seventh
      (instruction (here front code) rest 71 op.SetWordMark 4 refl refl refl refl)
      (effective_is (here front code ++ rest) 72 code.seventh refl refl refl)
      (place_in (here front code) rest code.seventh refl is) (marked_there (here front code) rest code.seventh refl refl is)

  -- all seven
  pub all_set : (rest : Storage) → ArePlaces code (length rest)
      → Leaves last hopper (here front code ++ all_marked code rest) 75 → Leaves last hopper (here front code ++ rest) 47
  all_set rest are more =
      let r1 : Storage = mark_beyond rest code.first in
      let s1 : length r1 ≡ length rest = length-mark_beyond rest code.first in
      let r2 : Storage = mark_beyond r1 code.second in
      let s2 : length r2 ≡ length rest = length-mark_beyond r1 code.second ∙ s1 in
      let r3 : Storage = mark_beyond r2 code.third in
      let s3 : length r3 ≡ length rest = length-mark_beyond r2 code.third ∙ s2 in
      let r4 : Storage = mark_beyond r3 code.fourth in
      let s4 : length r4 ≡ length rest = length-mark_beyond r3 code.fourth ∙ s3 in
      let r5 : Storage = mark_beyond r4 code.fifth in
      let s5 : length r5 ≡ length rest = length-mark_beyond r4 code.fifth ∙ s4 in
      let r6 : Storage = mark_beyond r5 code.sixth in
      let s6 : length r6 ≡ length rest = length-mark_beyond r5 code.sixth ∙ s5 in
      let r7 : Storage = mark_beyond r6 code.seventh in
      let s7 : length r7 ≡ length rest = length-mark_beyond r6 code.seventh ∙ s6 in
      first_set rest are.first (
      second_set r1 (still rest r1 code.second s1 are.second) (
      third_set r2 (still rest r2 code.third s2 are.third) (
      fourth_set r3 (still rest r3 code.fourth s3 are.fourth) (
      fifth_set r4 (still rest r4 code.fifth s4 are.fifth) (
      sixth_set r5 (still rest r5 code.sixth s5 are.sixth) (
      seventh_set r6 (still rest r6 code.seventh s6 are.seventh) more))))))

  -- the next card is read
  pub card_read : (card : Card) (rest : Storage) → length card.0 ≡ 80
      → Leaves last hopper (with_card loader_marks card.0 rest) 40
      → Leaves last (card ∷ hopper) (here front code ++ rest) 75
  unfolding graphics
  card_read card rest size more =
      read_next last card hopper (here front code ++ rest) (with_card loader_marks card.0 rest) 75 40
      (instruction (here front code) rest 75 op.ReadCard 4 refl refl refl refl) refl
      (chars_over loader_marks (blank ∷ []) rest 1 (card_chars front code) card.0 refl (sym size)) more

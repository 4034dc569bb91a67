-- The first card: storage is cleared down to 100, and the next card is read.
use Rattle.std.proofs.Common.{◌≡◌, ℕ, zero, suc, ◌+◌, ◌-◌, ◌*◌, ◌<◌, ◌≤◌, ◌==◌, ◌&&◌, ◌||◌, not, Bool, true, false}
use Rattle.std.proofs.Common.{List, [], ◌∷◌}
use Rattle.std.proofs.Common.{◌++◌, length, min, nat_le, replicate, Some, refl, ap, sym, subst, ◌∙◌, arith}
use Rattle.std.specs.Prelude.{Ok, slice_index}
use Rattle.std.proofs.lemmas.Bool.{eqb-true}
use Rattle.std.proofs.lemmas.List.{get_or-append_right, get_or-replicate, length-append, length-replicate}
use Rattle.std.proofs.lemmas.List.{replicate-append-replicate}
use Rattle.bcd_1401.specs.Graphic.{graphics}
use Rattle.core_1401.specs.Address.{spelling_of, value_of}
use Rattle.core_1401.specs.Storage.{Storage, blank, blanks, cell_at, is_in_core, with_char, with_mark}
use Rattle.devices_1401.specs.declared.card.Card.{Card}
use Rattle.fields_1401.specs.Compare.{compared, comparison_at, highest_difference, is_high, is_unequal}
use Rattle.fields_1401.specs.declared.done.Done.{Done}
use Rattle.fields_1401.specs.Marks.{cleared, hundred_of}
use Rattle.fields_1401.specs.Outcome.{below_by, registers_of}
use Rattle.cpu_1401.specs.CardsAndPrinter.{with_chars_from, with_program_card}
use Rattle.machine_tables.specs.declared.operation.Operation.TheVariants as op
use Rattle.cpu_1401.specs.RegisterStep.{stored}
use Rattle.cpu_1401.specs.State.{State, power_on}
use Rattle.cpu_1401.specs.Stepped.{step_to}
use Rattle.autocoder_deck.specs.Loading.{loaded}
use Rattle.autocoder_deck.proofs.AddressLemmas.{effective_is, tens_again, value_again}
use Rattle.autocoder_deck.proofs.PlacesLemmas.{blanks_cleared, chars_over, with_marks}
use Rattle.autocoder_deck.proofs.ProgramLemmas.{in_front, instruction, pair_len_by, set_two, spelled, with_card}
use Rattle.autocoder_deck.proofs.StepLemmas.{Leaves, both_true, clear_step, cleared_down, compare_step, is_there}
use Rattle.autocoder_deck.proofs.StepLemmas.{machine}
use Rattle.autocoder_deck.proofs.StepLemmas.{LeadsPlainly, one_step, store_step, unequal_read}

-- the first card: the columns in front of the address in the instruction that clears, and those after it
abbrev pub clear_front : List ℕ
clear_front =
    27 ∷ 10 ∷ 10 ∷ 8 ∷ 10 ∷ 1 ∷ 5 ∷ 27 ∷ 10 ∷ 2 ∷ 2 ∷ 10 ∷ 2 ∷ 9 ∷ 27 ∷ 10 ∷ 3 ∷ 6 ∷ 10 ∷ 4 ∷ 10 ∷ 27 ∷ 10 ∷ 4 ∷ 4 ∷
    10 ∷ 5 ∷ 1 ∷ 27 ∷ 10 ∷ 5 ∷ 6 ∷ 10 ∷ 6 ∷ 10 ∷ 17 ∷ []

abbrev pub clear_back : List ℕ
clear_back =
    56 ∷ 10 ∷ 3 ∷ 9 ∷ 51 ∷ 10 ∷ 3 ∷ 9 ∷ 10 ∷ 6 ∷ 2 ∷ 50 ∷ 10 ∷ 3 ∷ 6 ∷ 17 ∷ 1 ∷ 10 ∷ 10 ∷ 1 ∷ 10 ∷ 9 ∷ 9 ∷ []

abbrev pub clear_line : ℕ → List ℕ
clear_line address = clear_front ++ spelled address clear_back

-- its characters
abbrev pub clear_chars : ℕ → List ℕ
clear_chars address = clear_line address ++ replicate 18 0

-- core storage with the first card, and with blanks after it
abbrev pub with_first_card : List ℕ → ℕ → ℕ → Storage
with_first_card marks address n = with_card marks (clear_chars address) (blanks n)

-- its word marks
abbrev pub first_marks : List ℕ
first_marks = 1 ∷ 8 ∷ 15 ∷ 22 ∷ 29 ∷ 36 ∷ 40 ∷ 44 ∷ 51 ∷ 56 ∷ 60 ∷ []

-- an instruction without a word mark after it is no longer than seven characters
at_most_seven : (n : ℕ) → min 7 (1 + (1 + (1 + (1 + (1 + (1 + n))))) + 1) ≡ 7
at_most_seven n = omega arith

abbrev low : List ℕ → ℕ → Storage
low marks address = with_marks marks 0 (0 ∷ clear_chars address)

-- the word marks before each step that sets two of them
abbrev marks_0 : List ℕ
marks_0 = 1 ∷ []

abbrev marks_1 : List ℕ
marks_1 = 1 ∷ 8 ∷ 15 ∷ []

abbrev marks_2 : List ℕ
marks_2 = 1 ∷ 8 ∷ 15 ∷ 22 ∷ 29 ∷ []

abbrev marks_3 : List ℕ
marks_3 = 1 ∷ 8 ∷ 15 ∷ 22 ∷ 29 ∷ 36 ∷ 40 ∷ []

abbrev marks_4 : List ℕ
marks_4 = 1 ∷ 8 ∷ 15 ∷ 22 ∷ 29 ∷ 36 ∷ 40 ∷ 44 ∷ 51 ∷ []

module _ (last : State) (hopper : List Card) (address n : ℕ) where
  step_0 : Leaves last hopper (low marks_1 address ++ blanks n) 8 → Leaves last hopper (low marks_0 address ++ blanks n) 1
  unfolding graphics
  step_0 =
      set_two last hopper (low marks_0 address ++ blanks n) (low marks_1 address ++ blanks n) 1 8 15
      (instruction (low marks_0 address) (blanks n) 1 op.SetWordMark 7 refl refl refl (at_most_seven _)) refl refl
      (in_front (low marks_0 address) (blanks n) 8 refl) (in_front (low marks_0 address) (blanks n) 15 refl) refl

  step_1 : Leaves last hopper (low marks_2 address ++ blanks n) 15 → Leaves last hopper (low marks_1 address ++ blanks n) 8
  unfolding graphics
  step_1 =
      set_two last hopper (low marks_1 address ++ blanks n) (low marks_2 address ++ blanks n) 8 22 29
      (instruction (low marks_1 address) (blanks n) 8 op.SetWordMark 7 refl refl refl refl) refl refl
      (in_front (low marks_1 address) (blanks n) 22 refl) (in_front (low marks_1 address) (blanks n) 29 refl) refl

  step_2 : Leaves last hopper (low marks_3 address ++ blanks n) 22 → Leaves last hopper (low marks_2 address ++ blanks n) 15
  unfolding graphics
  step_2 =
      set_two last hopper (low marks_2 address ++ blanks n) (low marks_3 address ++ blanks n) 15 36 40
      (instruction (low marks_2 address) (blanks n) 15 op.SetWordMark 7 refl refl refl refl) refl refl
      (in_front (low marks_2 address) (blanks n) 36 refl) (in_front (low marks_2 address) (blanks n) 40 refl) refl

  step_3 : Leaves last hopper (low marks_4 address ++ blanks n) 29 → Leaves last hopper (low marks_3 address ++ blanks n) 22
  unfolding graphics
  step_3 =
      set_two last hopper (low marks_3 address ++ blanks n) (low marks_4 address ++ blanks n) 22 44 51
      (instruction (low marks_3 address) (blanks n) 22 op.SetWordMark 7 refl refl refl refl) refl refl
      (in_front (low marks_3 address) (blanks n) 44 refl) (in_front (low marks_3 address) (blanks n) 51 refl) refl

  step_4 : Leaves last hopper (low first_marks address ++ blanks n) 36 → Leaves last hopper (low marks_4 address ++ blanks n) 29
  unfolding graphics
  step_4 =
      set_two last hopper (low marks_4 address ++ blanks n) (low first_marks address ++ blanks n) 29 56 60
      (instruction (low marks_4 address) (blanks n) 29 op.SetWordMark 7 refl refl refl refl) refl refl
      (in_front (low marks_4 address) (blanks n) 56 refl) (in_front (low marks_4 address) (blanks n) 60 refl) refl

  -- all word marks of the first card
  pub marks_set : Leaves last hopper (low first_marks address ++ blanks n) 36
      → Leaves last hopper (low marks_0 address ++ blanks n) 1
  marks_set more = step_0 (step_1 (step_2 (step_3 (step_4 more))))

-- the places of a hundred that is cleared are blank already
beyond_is_blank : (marks : List ℕ) (address n k : ℕ) → 81 ≤ k → k < 81 + n
    → cell_at (with_first_card marks address n) k ≡ blank
beyond_is_blank marks address n k le lt =
    get_or-append_right (with_marks marks 0 (0 ∷ clear_chars address)) (blanks n) 81 k blank refl le
    ∙ get_or-replicate n (k - 81) blank blank (omega arith)

-- the hundred that ends at this place, and the end of the one below it
hundred : (k : ℕ) → hundred_of (100 * k + 199) ≡ 100 * k + 100
hundred k = omega arith

next_below : (k : ℕ) → 100 * k + 199 < 16000 → below_by (hundred_of (100 * k + 199)) 1 ≡ 100 * k + 99
next_below k few = ap (λ (h : ℕ). below_by h 1) (hundred k) ∙ omega arith

nothing_cleared : (marks : List ℕ) (address n k : ℕ) → 100 * k + 199 < 81 + n
    → cleared_down (with_first_card marks address n) (100 * k + 199) ≡ with_first_card marks address n
unfolding cleared
nothing_cleared marks address n k few =
    blanks_cleared (with_first_card marks address n) (100 * k + 199) (100 * k + 199 + 1 - hundred_of (100 * k + 199))
    (λ q le near. beyond_is_blank marks address n q (omega (arith, hundred k)) (omega arith))

-- the place is stored in the instruction that clears
address_stored : (x y n : ℕ) → stored (with_first_card first_marks y n) 39 x ≡ with_first_card first_marks x n
address_stored x y n =
    ap (λ (tens : ℕ). with_char (with_char (with_char (with_first_card first_marks y n) 37 (slice_index (spelling_of x) 0))
    38 tens) 39 (slice_index (spelling_of x) 2)) (tens_again x y)

-- a machine that has compared
abbrev looked : Bool → Bool → Bool → State
looked unequal low high = record (power_on 0) { unequal = unequal; low = low; high = high }

-- a hundred is cleared, and the place of the next one is stored
round : (last : State) (m : State) (hopper : List Card) (n k a b : ℕ) → 100 * k + 199 < 81 + n → 100 * k + 199 < 16000
    → ((c d : ℕ) → LeadsPlainly (machine m hopper (with_first_card first_marks (100 * k + 99) n) 44 c d) last)
    → LeadsPlainly (machine m hopper (with_first_card first_marks (100 * k + 199) n) 36 a b) last
unfolding graphics
round last m hopper n k a b few fits more =
    let y = 100 * k + 199 in
    let x = 100 * k + 99 in
    let here = with_marks first_marks 0 (0 ∷ clear_chars y) in
    let storage = with_first_card first_marks y n in
    let inside : y < length storage = omega (arith, length-append here (blanks n), length-replicate n blank) in
    one_step (machine m hopper storage 36 a b) (machine m hopper storage 40 y x) last
    (clear_step (machine m hopper storage 36 a b) y
    (instruction here (blanks n) 36 op.ClearStorage 4 refl refl refl refl)
    (effective_is storage 37 y refl refl refl) inside
    ∙ ap (λ (s : Storage). step_to (machine m hopper s 40 y (below_by (hundred_of y) 1)))
    (nothing_cleared first_marks y n k few)
    ∙ ap (λ (p : ℕ). step_to (machine m hopper storage 40 y p)) (next_below k fits))
    (one_step (machine m hopper storage 40 y x)
    (machine m hopper (with_first_card first_marks x n) 44 (below_by 39 3) x) last
    (store_step (machine m hopper storage 40 y x) 39
    (instruction here (blanks n) 40 op.StoreB 4 refl refl refl refl) refl
    (both_true (is_in_core storage 39) (nat_le 3 40) (is_there storage 39 (in_front here (blanks n) 39 refl)) refl)
    ∙ ap (λ (s : Storage). step_to (machine m hopper s 44 (below_by 39 3) x)) (address_stored x y n))
    (more (below_by 39 3) x))

-- the place of the next hundred is compared with 099
what_is_compared : (x n : ℕ) → comparison_at (with_first_card first_marks x n) 39 62
    ≡ compared (with_first_card first_marks x n) 39 62 (Some 3)
unfolding comparison_at
what_is_compared x n =
    let here = with_marks first_marks 0 (0 ∷ clear_chars x) in
    let storage = with_first_card first_marks x n in
    ap (compared storage 39 62) (pair_len_by storage 39 62 (Some 3) (in_front here (blanks n) 39 refl)
    (in_front here (blanks n) 62 refl) refl)

-- the registers after it
abbrev after_compare : Bool → Bool → Bool → Done
after_compare unequal low high =
    record (registers_of (below_by 39 3) (below_by 62 3)) { unequal = unequal; low = low; high = high }

same_at_099 : (n : ℕ) → compared (with_first_card first_marks 99 n) 39 62 (Some 3) ≡ Ok (after_compare false false false)
unfolding highest_difference
same_at_099 n = refl

differ : (p q r : Bool) → (p ≡ true → q ≡ true → r ≡ true → ⊥)
    → ((not p || (not q || (not r || false))) || false) ≡ true
differ false q r unequal = refl
differ true false r unequal = refl
differ true true false unequal = refl
differ true true true unequal = absurd (unequal refl refl refl)

others_differ : (x n : ℕ) → (x ≡ 99 → ⊥) → is_unequal (with_first_card first_marks x n) 39 62 3 ≡ true
others_differ x n other =
    let h = slice_index (spelling_of x) 0 in
    let t = slice_index (spelling_of x) 1 in
    let u = slice_index (spelling_of x) 2 in
    differ (u == 9) (t == 9) (h == 10) (λ e f g. other (sym (value_again x)
    ∙ ap (λ (k : ℕ). value_of k t u) (eqb-true h 10 g) ∙ ap (λ (k : ℕ). value_of 10 k u) (eqb-true t 9 f)
    ∙ ap (λ (k : ℕ). value_of 10 9 k) (eqb-true u 9 e)))

-- at 099 the machine goes on after the branch
goes_on : (last : State) (hopper : List Card) (n c d : ℕ) → Leaves last hopper (with_first_card first_marks 99 n) 56
    → (unequal low high : Bool)
    → LeadsPlainly (machine (looked unequal low high) hopper (with_first_card first_marks 99 n) 44 c d) last
unfolding graphics
goes_on last hopper n c d more unequal low high =
    let here = with_marks first_marks 0 (0 ∷ clear_chars 99) in
    let storage = with_first_card first_marks 99 n in
    one_step (machine (looked unequal low high) hopper storage 44 c d)
    (machine (power_on 0) hopper storage 51 (below_by 39 3) (below_by 62 3)) last
    (compare_step (machine (looked unequal low high) hopper storage 44 c d) 39 62 (Ok (after_compare false false false))
    (instruction here (blanks n) 44 op.Compare 7 refl refl refl refl) refl refl (what_is_compared 99 n ∙ same_at_099 n))
    (one_step (machine (power_on 0) hopper storage 51 (below_by 39 3) (below_by 62 3))
    (machine (power_on 0) hopper storage 56 36 (below_by 62 3)) last
    (unequal_read (machine (power_on 0) hopper storage 51 (below_by 39 3) (below_by 62 3)) 36 false
    (instruction here (blanks n) 51 op.Branch 5 refl refl refl refl) refl refl refl)
    (more 36 (below_by 62 3)))

-- at any other place it goes back
goes_back : (last : State) (hopper : List Card) (n x c d : ℕ) → (x ≡ 99 → ⊥)
    → ((unequal low high : Bool) (a b : ℕ)
    → LeadsPlainly (machine (looked unequal low high) hopper (with_first_card first_marks x n) 36 a b) last)
    → (unequal low high : Bool)
    → LeadsPlainly (machine (looked unequal low high) hopper (with_first_card first_marks x n) 44 c d) last
unfolding graphics
goes_back last hopper n x c d other more unequal low high =
    let here = with_marks first_marks 0 (0 ∷ clear_chars x) in
    let storage = with_first_card first_marks x n in
    let u = is_unequal storage 39 62 3 in
    let h = is_high storage 39 62 3 in
    let l = u && not h in
    one_step (machine (looked unequal low high) hopper storage 44 c d)
    (machine (looked u l h) hopper storage 51 (below_by 39 3) (below_by 62 3)) last
    (compare_step (machine (looked unequal low high) hopper storage 44 c d) 39 62 (Ok (after_compare u l h))
    (instruction here (blanks n) 44 op.Compare 7 refl refl refl refl) refl refl (what_is_compared x n))
    (one_step (machine (looked u l h) hopper storage 51 (below_by 39 3) (below_by 62 3))
    (machine (looked u l h) hopper storage 36 36 56) last
    (unequal_read (machine (looked u l h) hopper storage 51 (below_by 39 3) (below_by 62 3)) 36 true
    (instruction here (blanks n) 51 op.Branch 5 refl refl refl refl) refl refl (others_differ x n other))
    (more u l h 36 56))

-- all hundreds from one down to 100
all_hundreds : (last : State) (hopper : List Card) (n k : ℕ) → 100 * k + 199 < 81 + n → 100 * k + 199 < 16000
    → Leaves last hopper (with_first_card first_marks 99 n) 56 → (unequal low high : Bool) (a b : ℕ)
    → LeadsPlainly (machine (looked unequal low high) hopper (with_first_card first_marks (100 * k + 199) n) 36 a b) last
all_hundreds last hopper n zero few fits more unequal low high a b =
    round last (looked unequal low high) hopper n 0 a b few fits
    (λ c d. goes_on last hopper n c d more unequal low high)
all_hundreds last hopper n (suc k) few fits more unequal low high a b =
    let next : 100 * k + 199 ≡ 100 * suc k + 99 = omega arith in
    round last (looked unequal low high) hopper n (suc k) a b few fits
    (subst (λ (x : ℕ). (c d : ℕ)
    → LeadsPlainly (machine (looked unequal low high) hopper (with_first_card first_marks x n) 44 c d) last) next
    (λ c d. goes_back last hopper n (100 * k + 199) c d (λ e. omega arith)
    (all_hundreds last hopper n k (omega arith) (omega arith) more) unequal low high))

-- the load key at power-on
program_card : (address n : ℕ) → with_program_card (blanks (81 + n)) (clear_chars address)
    ≡ with_first_card (1 ∷ []) address n
program_card address n =
    ap (λ (s : Storage). with_mark (with_chars_from s 1 (clear_chars address)) 1 true)
    (blanks_cleared (blanks (81 + n)) 80 80 (λ q le near. get_or-replicate (81 + n) q blank blank (omega arith))
    ∙ sym (replicate-append-replicate 81 n blank))
    ∙ ap (λ (s : Storage). with_mark s 1 true)
    (chars_over [] (blank ∷ []) (blanks n) 1 (replicate 80 0) (clear_chars address) refl refl)

-- the first card, from the load key to the read of the next card
pub first_card : (last : State) (hopper : List Card) (n k : ℕ) → 81 + n ≡ 100 * k + 200 → 81 + n ≤ 16000
    → Leaves last hopper (with_first_card first_marks 99 n) 56
    → LeadsPlainly (loaded (81 + n) (record { 0 = clear_chars (100 * k + 199) } ∷ hopper)) last
first_card last hopper n k size most more =
    subst (λ (s : Storage). LeadsPlainly (machine (power_on 0) hopper s 1 0 0) last) (sym (program_card (100 * k + 199) n))
    (marks_set last hopper (100 * k + 199) n
    (all_hundreds last hopper n k (omega arith) (omega arith) more false false false) 0 0)

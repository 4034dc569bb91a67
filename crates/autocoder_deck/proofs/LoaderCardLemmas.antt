-- The second card: the rest of storage is cleared, the loader's word marks are set, and the next card is read.
use Rattle.std.proofs.Common.{◌≡◌, ℕ, ◌+◌, List, [], ◌∷◌, ◌++◌, replicate, drop, ◌-◌, Some, refl, ap, sym, subst, ◌∙◌}
use Rattle.std.proofs.Common.{arith}
use Rattle.std.proofs.lemmas.List.{replicate-append-replicate}
use Rattle.bcd_1401.specs.Graphic.{graphics}
use Rattle.core_1401.specs.Places.{with_cells}
use Rattle.core_1401.specs.Storage.{Storage, blank, blanks, cell_at}
use Rattle.devices_1401.specs.declared.card.Card.{Card}
use Rattle.fields_1401.specs.Load.{loaded}
use Rattle.fields_1401.specs.Marks.{cleared}
use Rattle.machine_tables.specs.declared.operation.Operation.TheVariants as op
use Rattle.cpu_1401.specs.State.{State}
use Rattle.autocoder_deck.proofs.ClearCardLemmas.{clear_chars, first_marks, with_first_card}
use Rattle.autocoder_deck.proofs.PlacesLemmas.{cells_in_front, chars_over, with_marks}
use Rattle.autocoder_deck.proofs.ProgramLemmas.{clear_next, clear_one, clear_two, field_len_by, in_front, instruction}
use Rattle.autocoder_deck.proofs.ProgramLemmas.{load_next}
use Rattle.autocoder_deck.proofs.ProgramLemmas.{read_next, set_one, set_two, with_card}
use Rattle.autocoder_deck.proofs.StepLemmas.{Leaves, cleared_down}

-- the columns of the second card
abbrev pub loader_line : List ℕ
loader_line =
    27 ∷ 10 ∷ 4 ∷ 7 ∷ 10 ∷ 5 ∷ 5 ∷ 27 ∷ 10 ∷ 5 ∷ 9 ∷ 10 ∷ 6 ∷ 3 ∷ 27 ∷ 10 ∷ 6 ∷ 7 ∷ 10 ∷ 7 ∷ 1 ∷ 27 ∷ 10 ∷ 7 ∷ 5 ∷ 10
    ∷ 7 ∷ 9 ∷ 60 ∷ 10 ∷ 4 ∷ 4 ∷ 10 ∷ 5 ∷ 6 ∷ 27 ∷ 1 ∷ 8 ∷ 1 ∷ 35 ∷ 1 ∷ 9 ∷ 9 ∷ 10 ∷ 9 ∷ 9 ∷ 60 ∷ 10 ∷ 6 ∷ 10 ∷ 60 ∷ 10
    ∷ 8 ∷ 1 ∷ 60 ∷ 1 ∷ 8 ∷ 1 ∷ 17 ∷ 10 ∷ 3 ∷ 9 ∷ 27 ∷ 10 ∷ 10 ∷ 1 ∷ 1 ∷ 10 ∷ 4 ∷ 10 ∷ []

-- its characters
abbrev pub loader_chars : List ℕ
loader_chars = loader_line ++ replicate 10 0

-- what is left of it once the places up to 039 are cleared
abbrev pub loader_left : List ℕ
loader_left = replicate 39 0 ++ drop 39 loader_chars

-- the word marks of the loader
abbrev pub loader_marks : List ℕ
loader_marks = 1 ∷ 40 ∷ 47 ∷ 51 ∷ 55 ∷ 59 ∷ 63 ∷ 67 ∷ 71 ∷ 75 ∷ 79 ∷ []

-- 200 places with a card's characters, and then blanks
abbrev low : List ℕ → List ℕ → Storage
low marks chars = with_marks marks 0 (0 ∷ (chars ++ replicate 119 0))

-- the word marks after each step
abbrev marks_0 : List ℕ
marks_0 = 1 ∷ 8 ∷ 15 ∷ 22 ∷ 29 ∷ 36 ∷ 40 ∷ 44 ∷ 51 ∷ 56 ∷ 60 ∷ []

abbrev marks_1 : List ℕ
marks_1 = 1 ∷ 8 ∷ 15 ∷ 22 ∷ 29 ∷ 36 ∷ 40 ∷ 44 ∷ 47 ∷ 51 ∷ 55 ∷ 56 ∷ 60 ∷ []

abbrev marks_2 : List ℕ
marks_2 = 1 ∷ 8 ∷ 15 ∷ 22 ∷ 29 ∷ 36 ∷ 40 ∷ 44 ∷ 47 ∷ 51 ∷ 55 ∷ 56 ∷ 59 ∷ 60 ∷ 63 ∷ []

abbrev marks_3 : List ℕ
marks_3 = 1 ∷ 8 ∷ 15 ∷ 22 ∷ 29 ∷ 36 ∷ 40 ∷ 44 ∷ 47 ∷ 51 ∷ 55 ∷ 56 ∷ 59 ∷ 60 ∷ 63 ∷ 67 ∷ 71 ∷ []

abbrev marks_4 : List ℕ
marks_4 = 1 ∷ 8 ∷ 15 ∷ 22 ∷ 29 ∷ 36 ∷ 40 ∷ 44 ∷ 47 ∷ 51 ∷ 55 ∷ 56 ∷ 59 ∷ 60 ∷ 63 ∷ 67 ∷ 71 ∷ 75 ∷ 79 ∷ []

abbrev marks_5 : List ℕ
marks_5 = 1 ∷ 8 ∷ 15 ∷ 22 ∷ 29 ∷ 36 ∷ 40 ∷ 47 ∷ 51 ∷ 55 ∷ 59 ∷ 60 ∷ 63 ∷ 67 ∷ 71 ∷ 75 ∷ 79 ∷ []

abbrev marks_6 : List ℕ
marks_6 = 1 ∷ 8 ∷ 15 ∷ 22 ∷ 29 ∷ 36 ∷ 40 ∷ 47 ∷ 51 ∷ 55 ∷ 59 ∷ 60 ∷ 63 ∷ 67 ∷ 71 ∷ 75 ∷ 79 ∷ 181 ∷ []

abbrev marks_7 : List ℕ
marks_7 = 1 ∷ 8 ∷ 15 ∷ 22 ∷ 29 ∷ 36 ∷ 40 ∷ 47 ∷ 51 ∷ 55 ∷ 59 ∷ 60 ∷ 63 ∷ 67 ∷ 71 ∷ 75 ∷ 79 ∷ 81 ∷ 181 ∷ []

abbrev marks_8 : List ℕ
marks_8 = 1 ∷ 8 ∷ 15 ∷ 22 ∷ 29 ∷ 36 ∷ 40 ∷ 47 ∷ 51 ∷ 55 ∷ 59 ∷ 63 ∷ 67 ∷ 71 ∷ 75 ∷ 79 ∷ 81 ∷ 181 ∷ []

abbrev marks_9 : List ℕ
marks_9 = 1 ∷ 8 ∷ 15 ∷ 22 ∷ 29 ∷ 36 ∷ 40 ∷ 47 ∷ 51 ∷ 55 ∷ 59 ∷ 63 ∷ 67 ∷ 71 ∷ 75 ∷ 79 ∷ 181 ∷ []

abbrev marks_10 : List ℕ
marks_10 = 1 ∷ 8 ∷ 15 ∷ 22 ∷ 29 ∷ 36 ∷ 40 ∷ 47 ∷ 51 ∷ 55 ∷ 59 ∷ 63 ∷ 67 ∷ 71 ∷ 75 ∷ 79 ∷ []

abbrev marks_11 : List ℕ
marks_11 = 40 ∷ 47 ∷ 51 ∷ 55 ∷ 59 ∷ 63 ∷ 67 ∷ 71 ∷ 75 ∷ 79 ∷ []

abbrev marks_12 : List ℕ
marks_12 = 1 ∷ 40 ∷ 47 ∷ 51 ∷ 55 ∷ 59 ∷ 63 ∷ 67 ∷ 71 ∷ 75 ∷ 79 ∷ []

-- 19 blanks are loaded to 081
blanks_loaded : (n : ℕ) → loaded (low marks_6 loader_chars ++ blanks n) 199 99 19 ≡ low marks_7 loader_chars ++ blanks n
unfolding loaded with_cells
blanks_loaded n =
    cells_in_front (low marks_6 loader_chars) (blanks n) 99 19
    (λ i. cell_at (low marks_6 loader_chars ++ blanks n) (199 - i)) (omega arith)

-- the places down from 039 are cleared
front_cleared : (n : ℕ) → cleared_down (low marks_10 loader_chars ++ blanks n) 39 ≡ low marks_11 loader_left ++ blanks n
unfolding cleared with_cells
front_cleared n = cells_in_front (low marks_10 loader_chars) (blanks n) 39 40 (λ i. blank) (omega arith)

module _ (last : State) (hopper : List Card) (n : ℕ) where
  step_0 : Leaves last hopper (low marks_1 loader_chars ++ blanks n) 8 → Leaves last hopper (low marks_0 loader_chars ++ blanks n) 1
  unfolding graphics
  step_0 =
      set_two last hopper (low marks_0 loader_chars ++ blanks n) (low marks_1 loader_chars ++ blanks n) 1 47 55
      (instruction (low marks_0 loader_chars) (blanks n) 1 op.SetWordMark 7 refl refl refl refl) refl refl
      (in_front (low marks_0 loader_chars) (blanks n) 47 refl) (in_front (low marks_0 loader_chars) (blanks n) 55 refl) refl

  step_1 : Leaves last hopper (low marks_2 loader_chars ++ blanks n) 15 → Leaves last hopper (low marks_1 loader_chars ++ blanks n) 8
  unfolding graphics
  step_1 =
      set_two last hopper (low marks_1 loader_chars ++ blanks n) (low marks_2 loader_chars ++ blanks n) 8 59 63
      (instruction (low marks_1 loader_chars) (blanks n) 8 op.SetWordMark 7 refl refl refl refl) refl refl
      (in_front (low marks_1 loader_chars) (blanks n) 59 refl) (in_front (low marks_1 loader_chars) (blanks n) 63 refl) refl

  step_2 : Leaves last hopper (low marks_3 loader_chars ++ blanks n) 22 → Leaves last hopper (low marks_2 loader_chars ++ blanks n) 15
  unfolding graphics
  step_2 =
      set_two last hopper (low marks_2 loader_chars ++ blanks n) (low marks_3 loader_chars ++ blanks n) 15 67 71
      (instruction (low marks_2 loader_chars) (blanks n) 15 op.SetWordMark 7 refl refl refl refl) refl refl
      (in_front (low marks_2 loader_chars) (blanks n) 67 refl) (in_front (low marks_2 loader_chars) (blanks n) 71 refl) refl

  step_3 : Leaves last hopper (low marks_4 loader_chars ++ blanks n) 29 → Leaves last hopper (low marks_3 loader_chars ++ blanks n) 22
  unfolding graphics
  step_3 =
      set_two last hopper (low marks_3 loader_chars ++ blanks n) (low marks_4 loader_chars ++ blanks n) 22 75 79
      (instruction (low marks_3 loader_chars) (blanks n) 22 op.SetWordMark 7 refl refl refl refl) refl refl
      (in_front (low marks_3 loader_chars) (blanks n) 75 refl) (in_front (low marks_3 loader_chars) (blanks n) 79 refl) refl

  step_4 : Leaves last hopper (low marks_5 loader_chars ++ blanks n) 36 → Leaves last hopper (low marks_4 loader_chars ++ blanks n) 29
  unfolding graphics
  step_4 =
      clear_two last hopper (low marks_4 loader_chars ++ blanks n) (low marks_5 loader_chars ++ blanks n) 29 44 56
      (instruction (low marks_4 loader_chars) (blanks n) 29 op.ClearWordMark 7 refl refl refl refl) refl refl
      (in_front (low marks_4 loader_chars) (blanks n) 44 refl) (in_front (low marks_4 loader_chars) (blanks n) 56 refl) refl

  step_5 : Leaves last hopper (low marks_6 loader_chars ++ blanks n) 40 → Leaves last hopper (low marks_5 loader_chars ++ blanks n) 36
  unfolding graphics
  step_5 =
      set_one last hopper (low marks_5 loader_chars ++ blanks n) (low marks_6 loader_chars ++ blanks n) 36 181
      (instruction (low marks_5 loader_chars) (blanks n) 36 op.SetWordMark 4 refl refl refl refl) refl
      (in_front (low marks_5 loader_chars) (blanks n) 181 refl) refl

  step_6 : Leaves last hopper (low marks_7 loader_chars ++ blanks n) 47 → Leaves last hopper (low marks_6 loader_chars ++ blanks n) 40
  unfolding graphics
  step_6 =
      load_next last hopper (low marks_6 loader_chars ++ blanks n) (low marks_7 loader_chars ++ blanks n) 40 199 99 19
      (instruction (low marks_6 loader_chars) (blanks n) 40 op.Load 7 refl refl refl refl) refl refl
      (field_len_by (low marks_6 loader_chars ++ blanks n) 199 (Some 19) (in_front (low marks_6 loader_chars) (blanks n) 199 refl) refl) (in_front (low marks_6 loader_chars) (blanks n) 99 refl) refl (blanks_loaded n)

  step_7 : Leaves last hopper (low marks_8 loader_chars ++ blanks n) 51 → Leaves last hopper (low marks_7 loader_chars ++ blanks n) 47
  unfolding graphics
  step_7 =
      clear_one last hopper (low marks_7 loader_chars ++ blanks n) (low marks_8 loader_chars ++ blanks n) 47 60
      (instruction (low marks_7 loader_chars) (blanks n) 47 op.ClearWordMark 4 refl refl refl refl) refl
      (in_front (low marks_7 loader_chars) (blanks n) 60 refl) refl

  step_8 : Leaves last hopper (low marks_9 loader_chars ++ blanks n) 55 → Leaves last hopper (low marks_8 loader_chars ++ blanks n) 51
  unfolding graphics
  step_8 =
      clear_one last hopper (low marks_8 loader_chars ++ blanks n) (low marks_9 loader_chars ++ blanks n) 51 81
      (instruction (low marks_8 loader_chars) (blanks n) 51 op.ClearWordMark 4 refl refl refl refl) refl
      (in_front (low marks_8 loader_chars) (blanks n) 81 refl) refl

  step_9 : Leaves last hopper (low marks_10 loader_chars ++ blanks n) 59 → Leaves last hopper (low marks_9 loader_chars ++ blanks n) 55
  unfolding graphics
  step_9 =
      clear_one last hopper (low marks_9 loader_chars ++ blanks n) (low marks_10 loader_chars ++ blanks n) 55 181
      (instruction (low marks_9 loader_chars) (blanks n) 55 op.ClearWordMark 4 refl refl refl refl) refl
      (in_front (low marks_9 loader_chars) (blanks n) 181 refl) refl

  step_10 : Leaves last hopper (low marks_11 loader_left ++ blanks n) 63 → Leaves last hopper (low marks_10 loader_chars ++ blanks n) 59
  unfolding graphics
  step_10 =
      clear_next last hopper (low marks_10 loader_chars ++ blanks n) (low marks_11 loader_left ++ blanks n) 59 39
      (instruction (low marks_10 loader_chars) (blanks n) 59 op.ClearStorage 4 refl refl refl refl) refl
      (in_front (low marks_10 loader_chars) (blanks n) 39 refl) (front_cleared n)

  step_11 : Leaves last hopper (low marks_12 loader_left ++ blanks n) 67 → Leaves last hopper (low marks_11 loader_left ++ blanks n) 63
  unfolding graphics
  step_11 =
      set_one last hopper (low marks_11 loader_left ++ blanks n) (low marks_12 loader_left ++ blanks n) 63 1
      (instruction (low marks_11 loader_left) (blanks n) 63 op.SetWordMark 4 refl refl refl refl) refl
      (in_front (low marks_11 loader_left) (blanks n) 1 refl) refl

  -- all of them
  pub loader_run : Leaves last hopper (low loader_marks loader_left ++ blanks n) 67
      → Leaves last hopper (low first_marks loader_chars ++ blanks n) 1
  loader_run more = step_0 (step_1 (step_2 (step_3 (step_4 (step_5 (step_6 (step_7 (step_8 (step_9 (step_10 (step_11 more)))))))))))

-- blanks after a card are those of 119 places, and others
split_blanks : (marks chars : List ℕ) (n k : ℕ) → n ≡ 119 + k
    → with_card marks chars (blanks 119 ++ blanks k) ≡ with_card marks chars (blanks n)
split_blanks marks chars n k e =
    ap (with_card marks chars) (replicate-append-replicate 119 k blank ∙ ap blanks (sym e))

-- the second card, from its read to that of the next card
pub loader_card : (last : State) (hopper : List Card) (n k : ℕ) → n ≡ 119 + k
    → Leaves last hopper (with_card loader_marks loader_left (blanks n)) 67
    → Leaves last (record { 0 = loader_chars } ∷ hopper) (with_first_card first_marks 99 n) 56
unfolding graphics
loader_card last hopper n k e more =
    let here = with_marks first_marks 0 (0 ∷ clear_chars 99) in
    read_next last (record { 0 = loader_chars }) hopper (with_first_card first_marks 99 n)
    (with_card first_marks loader_chars (blanks n)) 56 1
    (instruction here (blanks n) 56 op.ReadCard 4 refl refl refl refl) refl
    (chars_over first_marks (blank ∷ []) (blanks n) 1 (clear_chars 99) loader_chars refl refl)
    (subst (λ (s : Storage). Leaves last hopper s 1) (split_blanks first_marks loader_chars n k e)
    (loader_run last hopper k
    (subst (λ (s : Storage). Leaves last hopper s 67) (sym (split_blanks loader_marks loader_left n k e)) more)))

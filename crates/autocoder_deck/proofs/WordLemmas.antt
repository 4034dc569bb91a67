-- If the assembler has a word for an instruction, its text is assembled as its cells.
use Rattle.std.proofs.Common.{◌≡◌, ℕ, ◌-◌, ◌≤◌, ◌==◌, Bool, true, false, not, if◌then◌else◌, List, [], ◌∷◌}
use Rattle.std.proofs.Common.{◌++◌}
use Rattle.std.proofs.Common.{length, take, replicate, Option, None, Some, refl, ap, sym, subst, arith}
use Rattle.std.specs.Prelude.{slice_index}
use Rattle.std.specs.List.{list_all}
use Rattle.std.specs.Option.{option_map_or}
use Rattle.std.proofs.lemmas.Bool.{and_parts, eqb-true, false≢true}
use Rattle.std.proofs.lemmas.List.Elements.{All-get_or}
use Rattle.std.proofs.lemmas.List.Quantifiers.{position-Some}
use Rattle.std.proofs.lemmas.List.Sums.{AllPass-from_list_all}
use Rattle.bcd_1401.specs.Graphic.{graphics}
use Rattle.bcd_1401.specs.declared.cell.Cell.{Cell}
use Rattle.autocoder_statements.specs.Mnemonic.{instruction_of}
use Rattle.autocoder_statements.specs.SourceLine.{is_blank, is_graphic}
use Rattle.autocoder_statements.specs.Statement.{line_of}
use Rattle.autocoder_statements.specs.declared.label.LabelField.TheVariants as labels
use Rattle.autocoder_statements.specs.declared.mnemonic.Instruction.{Instruction}
use Rattle.autocoder_statements.specs.declared.statement.Body.TheVariants as bodies
use Rattle.autocoder_statements.specs.declared.statement.LineCheck.TheVariants as bytes
use Rattle.autocoder_statements.specs.declared.statement.Line.{Line}
use Rattle.autocoder_placing.specs.Placement.{instruction_length}
use Rattle.autocoder_placing.specs.Values.{last_place}
use Rattle.machine_notation.specs.InstructionText.{addresses_in, d_in, graphic_of, instruction_text, operands_text}
use Rattle.machine_notation.specs.InstructionText.{IsOwn, IsOwnD}
use Rattle.machine_notation.specs.Mnemonic.{mnemonic_of}
use Rattle.machine_notation.specs.declared.mnemonic.Mnemonic.{Mnemonic}
use Rattle.autocoder_deck.specs.Assembled.{has_mnemonic, has_no_mark, has_word, is_spelled, is_spelling}
use Rattle.autocoder_deck.specs.Assembled.{line_with}
use Rattle.autocoder_deck.specs.Assembled.{IsAssembled, IsTextOf}
use Rattle.autocoder_deck.proofs.AssembledLemmas.{IsFor, IsPlaced, IsRead, none_read, d_said_read, d_read}
use Rattle.autocoder_deck.proofs.AssembledLemmas.{one_read}
use Rattle.autocoder_deck.proofs.AssembledLemmas.{two_read, bare_tail, said_tail, d_tail, unsaid}
use Rattle.autocoder_deck.proofs.LineLemmas.{line_again}
use Rattle.autocoder_deck.proofs.MnemonicLemmas.{follows, is_as, is_good, is_written_well, with_d, without_d}
use Rattle.autocoder_deck.proofs.MnemonicLemmas.{none_with_d, one_with_d, two_with_d, none_without_d}
use Rattle.autocoder_deck.proofs.MnemonicLemmas.{one_without_d, two_without_d}

-- what holds of every graphic holds of a cell's
at_own : (p : ℕ → Bool) → list_all p graphics ≡ true → (cell : Cell) → IsOwn cell → p (graphic_of cell) ≡ true
at_own p all cell own =
    let found = position-Some (λ each. each == graphic_of cell) graphics cell.char 0 own in
    All-get_or (λ (g : ℕ). p g ≡ true) graphics cell.char 0 found.0 (AllPass-from_list_all p graphics all)

follow : (a b : Bool) → follows a b ≡ true → a ≡ true → b ≡ true
follow true b h e = h
follow false b h e = absurd (false≢true e)

-- what is written for an operation is the assembler's
abbrev IsGood : ℕ → ℕ → Option ℕ → Type 0
IsGood operation addresses d = is_good operation addresses d (mnemonic_of operation addresses d) ≡ true

good_without_d : (operation : Cell) (addresses : ℕ) → without_d addresses ≡ true → IsOwn operation
    → has_mnemonic (graphic_of operation) addresses None ≡ true → IsGood (graphic_of operation) addresses None
good_without_d operation addresses all own has =
    follow (has_mnemonic (graphic_of operation) addresses None)
    (is_good (graphic_of operation) addresses None (mnemonic_of (graphic_of operation) addresses None))
    (at_own (λ o. is_written_well o addresses None) all operation own) has

good_with_d : (operation d : Cell) (addresses : ℕ) → with_d addresses ≡ true → IsOwn operation → IsOwn d
    → has_mnemonic (graphic_of operation) addresses (Some (graphic_of d)) ≡ true
    → IsGood (graphic_of operation) addresses (Some (graphic_of d))
good_with_d operation d addresses all own own_d has =
    follow (has_mnemonic (graphic_of operation) addresses (Some (graphic_of d)))
    (is_good (graphic_of operation) addresses (Some (graphic_of d))
    (mnemonic_of (graphic_of operation) addresses (Some (graphic_of d))))
    (at_own (λ c. is_written_well (graphic_of operation) addresses (Some c))
    (at_own (λ o. list_all (λ c. is_written_well o addresses (Some c)) graphics) all operation own) d own_d) has

for_parts : (mnemonic : Mnemonic) (operation addresses : ℕ) (d : Option ℕ) (instruction : Instruction)
    → is_as mnemonic operation addresses d instruction ≡ true
    → IsFor mnemonic.says_d operation addresses d instruction
for_parts mnemonic operation addresses d instruction h =
    let last = and_parts _ _ h in
    let fourth = and_parts _ _ last.0 in
    let third = and_parts _ _ fourth.0 in
    let second = and_parts _ _ third.0 in
    record {
      operation = eqb-true instruction.operation operation second.0;
      least = second.1;
      most = third.1;
      said = fourth.1;
      beyond = last.1;
    }

assembled_by : (line : Line) (instruction : Instruction) (operands : List ℕ) (wanted : List Cell)
    → (read : IsRead instruction operands wanted)
    → line
    ≡ record {
      bytes = bytes.Good;
      statement = Some (record { label = labels.Absent; body = bodies.Instruction instruction read.of });
    }
    → IsAssembled line wanted
assembled_by line instruction operands wanted read e =
    subst (λ (line : Line). IsAssembled line wanted) (sym e)
    (record {
      bytes = refl;
      label = refl;
      operands = ap (λ b. not (not b)) read.good;
      cells = λ all this lines. read.cells all (last_place this.next (instruction_length read.of));
    })

too_many : (a b c d e f : ℕ) (more : List ℕ) → (length (a ∷ b ∷ c ∷ d ∷ e ∷ f ∷ more) == 5) ≡ true → ⊥
too_many a b c d e f more h =
    omega (arith, eqb-true (length (a ∷ b ∷ c ∷ d ∷ e ∷ f ∷ more)) 5 h)

not_true : (b : Bool) → not b ≡ true → b ≡ false
not_true true h = absurd (false≢true h)
not_true false h = refl

columns_read : (columns operands : List ℕ) (instruction : Instruction) (wanted : List Cell)
    → (length columns == 5) ≡ true → not (is_blank (slice_index columns 0)) ≡ true
    → list_all is_graphic columns ≡ true → instruction_of columns ≡ Some instruction
    → IsRead instruction operands wanted
    → IsTextOf (columns ++ operands) wanted
columns_read [] operands instruction wanted five h shown is read = absurd (false≢true five)
columns_read (a ∷ []) operands instruction wanted five h shown is read = absurd (false≢true five)
columns_read (a ∷ b ∷ []) operands instruction wanted five h shown is read = absurd (false≢true five)
columns_read (a ∷ b ∷ c ∷ []) operands instruction wanted five h shown is read = absurd (false≢true five)
columns_read (a ∷ b ∷ c ∷ d ∷ []) operands instruction wanted five h shown is read = absurd (false≢true five)
columns_read (a ∷ b ∷ c ∷ d ∷ e ∷ []) operands instruction wanted five h shown is read =
    assembled_by (line_of (line_with (a ∷ b ∷ c ∷ d ∷ e ∷ operands))) instruction operands wanted read
    (line_again a b c d e operands instruction read.of read.few (not_true (is_blank a) h) shown read.shows is
    (read.reads (replicate (51 - length operands) 32)))
columns_read (a ∷ b ∷ c ∷ d ∷ e ∷ f ∷ more) operands instruction wanted five h shown is read =
    absurd (too_many a b c d e f more five)

-- the instruction that there is
with_instruction : {Goal : Type 0} → (p : Instruction → Bool) (found : Option Instruction)
    → option_map_or p found false ≡ true
    → ((instruction : Instruction) → found ≡ Some instruction → p instruction ≡ true → Goal) → Goal
with_instruction p None h go = absurd (false≢true h)
with_instruction p (Some instruction) h go = go instruction refl h

-- a good mnemonic in front of operands that are read
text_again : (mnemonic : Mnemonic) (operation addresses : ℕ) (d : Option ℕ) (operands : List ℕ) (wanted : List Cell)
    → is_good operation addresses d mnemonic ≡ true
    → ((instruction : Instruction) → IsFor mnemonic.says_d operation addresses d instruction
    → IsRead instruction operands wanted)
    → IsTextOf (mnemonic.columns ++ operands) wanted
text_again mnemonic operation addresses d operands wanted good read =
    let last = and_parts _ _ good in
    let third = and_parts _ _ last.0 in
    let second = and_parts _ _ third.0 in
    with_instruction (is_as mnemonic operation addresses d) (instruction_of mnemonic.columns) last.1
    (λ instruction is fits.
    columns_read mnemonic.columns operands instruction wanted second.0 second.1 third.1 is
    (read instruction (for_parts mnemonic operation addresses d instruction fits)))

-- the operands that are written, by whether the mnemonic says the d-character
abbrev written_by : Bool → List Cell → List ℕ
written_by says_d beyond = operands_text (if says_d then take (length beyond - 1) beyond else beyond)

none_by : (operation : Cell) (says_d : Bool) (instruction : Instruction) → IsOwn operation → operation.mark ≡ true
    → IsFor says_d (graphic_of operation) 0 None instruction
    → IsRead instruction (written_by says_d []) (operation ∷ [])
unfolding operands_text
none_by operation true instruction own mark this = none_read operation true instruction own mark this
none_by operation false instruction own mark this = none_read operation false instruction own mark this

d_by_says : (operation d : Cell) (says_d : Bool) (instruction : Instruction) → IsOwn operation → operation.mark ≡ true
    → IsOwn d → has_no_mark d ≡ true → IsFor says_d (graphic_of operation) 0 (Some (graphic_of d)) instruction
    → IsRead instruction (written_by says_d (d ∷ [])) (operation ∷ d ∷ [])
unfolding operands_text
d_by_says operation d true instruction own mark own_d unmarked this =
    d_said_read operation d instruction own mark own_d unmarked this
d_by_says operation d false instruction own mark own_d unmarked this =
    d_read operation d instruction own mark own_d unmarked this

one_by : (operation h t u : Cell) (says_d : Bool) (instruction : Instruction) → IsOwn operation
    → operation.mark ≡ true → IsPlaced h t u → IsFor says_d (graphic_of operation) 1 None instruction
    → IsRead instruction (written_by says_d (h ∷ t ∷ u ∷ [])) (operation ∷ h ∷ t ∷ u ∷ [])
unfolding operands_text
one_by operation h t u true instruction own mark placed this =
    absurd (false≢true (sym (unsaid instruction.form.d true 1 this.said)))
one_by operation h t u false instruction own mark placed this =
    one_read operation h t u false [] None [] instruction own mark placed this
    (bare_tail (graphic_of operation) 1 false instruction this)

one_d_by : (operation h t u d : Cell) (says_d : Bool) (instruction : Instruction) → IsOwn operation
    → operation.mark ≡ true → IsPlaced h t u → IsOwn d → has_no_mark d ≡ true
    → IsFor says_d (graphic_of operation) 1 (Some (graphic_of d)) instruction
    → IsRead instruction (written_by says_d (h ∷ t ∷ u ∷ d ∷ [])) (operation ∷ h ∷ t ∷ u ∷ d ∷ [])
unfolding operands_text
one_d_by operation h t u d true instruction own mark placed own_d unmarked this =
    one_read operation h t u true [] (Some (graphic_of d)) (d ∷ []) instruction own mark placed this
    (said_tail (graphic_of operation) 1 d instruction own_d unmarked this)
one_d_by operation h t u d false instruction own mark placed own_d unmarked this =
    one_read operation h t u false (44 ∷ graphic_of d ∷ []) (Some (graphic_of d)) (d ∷ []) instruction own mark placed
    this (d_tail (graphic_of operation) 1 d instruction (omega arith) own_d unmarked this)

two_by : (operation h t u x y z : Cell) (says_d : Bool) (instruction : Instruction) → IsOwn operation
    → operation.mark ≡ true → IsPlaced h t u → IsPlaced x y z
    → IsFor says_d (graphic_of operation) 2 None instruction
    → IsRead instruction (written_by says_d (h ∷ t ∷ u ∷ x ∷ y ∷ z ∷ [])) (operation ∷ h ∷ t ∷ u ∷ x ∷ y ∷ z ∷ [])
unfolding operands_text
two_by operation h t u x y z true instruction own mark placed other this =
    absurd (false≢true (sym (unsaid instruction.form.d true 2 this.said)))
two_by operation h t u x y z false instruction own mark placed other this =
    two_read operation h t u x y z false [] None [] instruction own mark placed other this
    (bare_tail (graphic_of operation) 2 false instruction this)

two_d_by : (operation h t u x y z d : Cell) (says_d : Bool) (instruction : Instruction) → IsOwn operation
    → operation.mark ≡ true → IsPlaced h t u → IsPlaced x y z → IsOwn d → has_no_mark d ≡ true
    → IsFor says_d (graphic_of operation) 2 (Some (graphic_of d)) instruction
    → IsRead instruction (written_by says_d (h ∷ t ∷ u ∷ x ∷ y ∷ z ∷ d ∷ []))
    (operation ∷ h ∷ t ∷ u ∷ x ∷ y ∷ z ∷ d ∷ [])
unfolding operands_text
two_d_by operation h t u x y z d true instruction own mark placed other own_d unmarked this =
    two_read operation h t u x y z true [] (Some (graphic_of d)) (d ∷ []) instruction own mark placed other this
    (said_tail (graphic_of operation) 2 d instruction own_d unmarked this)
two_d_by operation h t u x y z d false instruction own mark placed other own_d unmarked this =
    two_read operation h t u x y z false (44 ∷ graphic_of d ∷ []) (Some (graphic_of d)) (d ∷ []) instruction own mark
    placed other this (d_tail (graphic_of operation) 2 d instruction (omega arith) own_d unmarked this)

-- three cells in front of others
record IsSplit (h t u : Cell) (beyond : List Cell) : Type 0 where
  placed : IsPlaced h t u
  unmarked : list_all has_no_mark beyond ≡ true
  spelled : is_spelled beyond ≡ true

split : (h t u : Cell) (beyond : List Cell) → list_all has_no_mark (h ∷ t ∷ u ∷ beyond) ≡ true
    → is_spelled (h ∷ t ∷ u ∷ beyond) ≡ true → IsSplit h t u beyond
split h t u beyond unmarked spelled =
    let first = and_parts (has_no_mark h) _ unmarked in
    let second = and_parts (has_no_mark t) _ first.1 in
    let third = and_parts (has_no_mark u) _ second.1 in
    let spelling = and_parts (is_spelling h.char t.char u.char) (is_spelled beyond) spelled in
    record {
      placed = record { spelling = spelling.0; first = first.0; second = second.0; third = third.0 };
      unmarked = third.1;
      spelled = spelling.1;
    }

again_by : (operation : Cell) (beyond : List Cell) → length beyond ≤ 7 → IsOwn operation → IsOwnD beyond
    → operation.mark ≡ true → list_all has_no_mark beyond ≡ true → is_spelled beyond ≡ true
    → has_mnemonic (graphic_of operation) (addresses_in beyond) (d_in beyond) ≡ true
    → IsTextOf (instruction_text (operation ∷ beyond)) (operation ∷ beyond)
again_by operation [] few own own_d mark unmarked spelled has =
    let mnemonic : Mnemonic = mnemonic_of (graphic_of operation) 0 None in
    text_again mnemonic (graphic_of operation) 0 None (written_by mnemonic.says_d []) (operation ∷ [])
    (good_without_d operation 0 none_without_d own has)
    (λ instruction this. none_by operation mnemonic.says_d instruction own mark this)
again_by operation (d ∷ []) few own own_d mark unmarked spelled has =
    let mnemonic : Mnemonic = mnemonic_of (graphic_of operation) 0 (Some (graphic_of d)) in
    let parts = and_parts (has_no_mark d) true unmarked in
    text_again mnemonic (graphic_of operation) 0 (Some (graphic_of d)) (written_by mnemonic.says_d (d ∷ []))
    (operation ∷ d ∷ [])
    (good_with_d operation d 0 none_with_d own own_d has)
    (λ instruction this. d_by_says operation d mnemonic.says_d instruction own mark own_d parts.0 this)
again_by operation (x ∷ y ∷ []) few own own_d mark unmarked spelled has = absurd (false≢true spelled)
again_by operation (h ∷ t ∷ u ∷ []) few own own_d mark unmarked spelled has =
    let mnemonic : Mnemonic = mnemonic_of (graphic_of operation) 1 None in
    let parts = split h t u [] unmarked spelled in
    text_again mnemonic (graphic_of operation) 1 None (written_by mnemonic.says_d (h ∷ t ∷ u ∷ []))
    (operation ∷ h ∷ t ∷ u ∷ [])
    (good_without_d operation 1 one_without_d own has)
    (λ instruction this. one_by operation h t u mnemonic.says_d instruction own mark parts.placed this)
again_by operation (h ∷ t ∷ u ∷ d ∷ []) few own own_d mark unmarked spelled has =
    let mnemonic : Mnemonic = mnemonic_of (graphic_of operation) 1 (Some (graphic_of d)) in
    let parts = split h t u (d ∷ []) unmarked spelled in
    let last = and_parts (has_no_mark d) true parts.unmarked in
    text_again mnemonic (graphic_of operation) 1 (Some (graphic_of d)) (written_by mnemonic.says_d (h ∷ t ∷ u ∷ d ∷ []))
    (operation ∷ h ∷ t ∷ u ∷ d ∷ [])
    (good_with_d operation d 1 one_with_d own own_d has)
    (λ instruction this.
    one_d_by operation h t u d mnemonic.says_d instruction own mark parts.placed own_d last.0 this)
again_by operation (h ∷ t ∷ u ∷ x ∷ y ∷ []) few own own_d mark unmarked spelled has =
    let parts = split h t u (x ∷ y ∷ []) unmarked spelled in absurd (false≢true parts.spelled)
again_by operation (h ∷ t ∷ u ∷ x ∷ y ∷ z ∷ []) few own own_d mark unmarked spelled has =
    let mnemonic : Mnemonic = mnemonic_of (graphic_of operation) 2 None in
    let parts = split h t u (x ∷ y ∷ z ∷ []) unmarked spelled in
    let others = split x y z [] parts.unmarked parts.spelled in
    text_again mnemonic (graphic_of operation) 2 None (written_by mnemonic.says_d (h ∷ t ∷ u ∷ x ∷ y ∷ z ∷ []))
    (operation ∷ h ∷ t ∷ u ∷ x ∷ y ∷ z ∷ [])
    (good_without_d operation 2 two_without_d own has)
    (λ instruction this.
    two_by operation h t u x y z mnemonic.says_d instruction own mark parts.placed others.placed this)
again_by operation (h ∷ t ∷ u ∷ x ∷ y ∷ z ∷ d ∷ []) few own own_d mark unmarked spelled has =
    let mnemonic : Mnemonic = mnemonic_of (graphic_of operation) 2 (Some (graphic_of d)) in
    let parts = split h t u (x ∷ y ∷ z ∷ d ∷ []) unmarked spelled in
    let others = split x y z (d ∷ []) parts.unmarked parts.spelled in
    let last = and_parts (has_no_mark d) true others.unmarked in
    text_again mnemonic (graphic_of operation) 2 (Some (graphic_of d))
    (written_by mnemonic.says_d (h ∷ t ∷ u ∷ x ∷ y ∷ z ∷ d ∷ []))
    (operation ∷ h ∷ t ∷ u ∷ x ∷ y ∷ z ∷ d ∷ [])
    (good_with_d operation d 2 two_with_d own own_d has)
    (λ instruction this.
    two_d_by operation h t u x y z d mnemonic.says_d instruction own mark parts.placed others.placed own_d last.0 this)
again_by operation (h ∷ t ∷ u ∷ x ∷ y ∷ z ∷ d ∷ further ∷ more) few own own_d mark unmarked spelled has =
    absurd (omega (arith, few))

-- the text of an instruction that the assembler has a word for
pub written_again : (operation : Cell) (beyond : List Cell) → length beyond ≤ 7 → IsOwn operation → IsOwnD beyond
    → has_word (operation ∷ beyond) ≡ true
    → IsTextOf (instruction_text (operation ∷ beyond)) (operation ∷ beyond)
written_again operation beyond few own own_d h =
    let last = and_parts _ _ h in
    let spelled = and_parts _ _ last.0 in
    let marks = and_parts _ _ spelled.0 in
    again_by operation beyond few own own_d marks.0 marks.1 spelled.1 last.1

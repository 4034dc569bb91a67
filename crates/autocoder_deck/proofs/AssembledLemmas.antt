-- An instruction that the assembler has a word for is assembled again from its text.
use Rattle.std.proofs.Common.{◌≡◌, ℕ, ◌<◌, ◌≤◌, ◌==◌, nat_le, nat_lt, Bool, true, false}
use Rattle.std.proofs.Common.{List, [], ◌∷◌, ◌++◌, length, map, Option, None, Some, refl, ap, ◌∙◌}
use Rattle.std.proofs.Common.{arith, append_assoc, length-append}
use Rattle.std.specs.Prelude.{ℤ, ◌||◌}
use Rattle.std.specs.List.{list_all}
use Rattle.std.specs.Option.{option_map_or}
use Rattle.std.proofs.lemmas.Bool.{and_parts, eqb-true, false≢true}
use Rattle.std.proofs.lemmas.Bool.Decides.{nat_tests}
use Rattle.std.proofs.lemmas.List.Folds.{list_all-append}
use Rattle.bcd_1401.specs.declared.cell.Cell.{Cell}
use Rattle.core_1401.specs.Address.{value_of}
use Rattle.autocoder_statements.specs.SourceLine.{is_graphic}
use Rattle.autocoder_statements.specs.Operands.{operand_len, operands_of, second_operand, d_by, has_malformed}
use Rattle.autocoder_statements.specs.declared.address.Address.{Address}
use Rattle.autocoder_statements.specs.declared.mnemonic.DCharacter.{DCharacter}
use Rattle.autocoder_statements.specs.declared.mnemonic.DCharacter.TheVariants as kinds
use Rattle.autocoder_statements.specs.declared.mnemonic.Form.{Form}
use Rattle.autocoder_statements.specs.declared.mnemonic.Instruction.{Instruction}
use Rattle.autocoder_statements.specs.declared.operands.OperandField.TheVariants as fields
use Rattle.autocoder_statements.specs.declared.operands.Operands.{Operands}
use Rattle.autocoder_statements.specs.declared.language.Language.TheVariants.{Plain}
use Rattle.autocoder_placing.specs.Cells.{plain, marked, address_codes, d_codes, instruction_cells}
use Rattle.autocoder_placing.specs.Characters.{char_of}
use Rattle.autocoder_placing.specs.Placement.{Placement}
use Rattle.machine_notation.specs.Address.{register_in, address_text}
use Rattle.machine_notation.specs.InstructionText.{IsOwn, graphic_of}
use Rattle.autocoder_deck.specs.Assembled.{is_spelling, has_no_mark}
use Rattle.autocoder_deck.proofs.WrittenAddressLemmas.{IsAddress, numbered, number_is_address}
use Rattle.autocoder_deck.proofs.MnemonicLemmas.{says}
use Rattle.autocoder_deck.proofs.OperandsLemmas.{no_d, d_said, d_first, d_beyond, no_operands, d_alone}
use Rattle.autocoder_deck.proofs.OperandsLemmas.{one_operand}
use Rattle.autocoder_deck.proofs.OperandsLemmas.{two_operands, whole, address_field}
use Rattle.autocoder_deck.proofs.PlacedLemmas.{address_codes_again, plain_again, char_again}
use Rattle.autocoder_deck.proofs.ReadLemmas.{address_shows, address_few, graphic_shows, comma_shows}

-- an instruction of the assembler for an operation with this many addresses and a d-character
pub record IsFor (says_d : Bool) (of_operation addresses : ℕ) (d : Option ℕ) (instruction : Instruction) : Type 0 where
  pub operation : instruction.operation ≡ of_operation
  pub least : nat_le instruction.form.least addresses ≡ true
  pub most : nat_le addresses instruction.form.most ≡ true
  pub said : says says_d addresses d instruction.form.d ≡ true
  pub beyond : option_map_or (λ d. says_d || (instruction.form.most == addresses)) d true ≡ true

-- a text that is read as operands of an instruction, which makes these cells of them
pub record IsRead (instruction : Instruction) (text : List ℕ) (wanted : List Cell) : Type 0 where
  pub of : Operands
  pub reads : (more : List ℕ) → operands_of Plain instruction.form (text ++ 32 ∷ more) ≡ of
  pub good : has_malformed of ≡ false
  pub few : length text ≤ 50
  pub shows : list_all is_graphic text ≡ true
  pub cells : (all : Placement) (here : ℤ) → instruction_cells all here instruction of ≡ wanted

marked_by : (char : ℕ) (mark : Bool) → mark ≡ true → marked char ≡ record { char = char; mark = mark }
marked_by char true h = refl
marked_by char false h = absurd (false≢true h)

operation_again : (operation : Cell) (graphic : ℕ) → IsOwn operation → operation.mark ≡ true
    → graphic ≡ graphic_of operation → marked (char_of graphic) ≡ operation
operation_again operation graphic own mark e =
    ap (λ (g : ℕ). marked (char_of g)) e ∙ ap marked (char_again operation own)
    ∙ marked_by operation.char operation.mark mark

d_again : (d : Cell) → IsOwn d → has_no_mark d ≡ true → map plain (d_codes (Some (graphic_of d))) ≡ d ∷ []
d_again d own unmarked = ap (λ (cell : Cell). cell ∷ []) (ap plain (char_again d own) ∙ plain_again d unmarked)

same_two : (a x : Cell) (b y : List Cell) → a ≡ x → b ≡ y → a ∷ b ≡ x ∷ y
same_two a x b y e f = cc

same_three : (a b c x y z : Cell) (d w : List Cell) → a ≡ x → b ≡ y → c ≡ z → d ≡ w → a ∷ b ∷ c ∷ d ≡ x ∷ y ∷ z ∷ w
same_three a b c x y z d w e f g h = cc

some_addresses : (addresses most : ℕ) → 0 < addresses → nat_le addresses most ≡ true → (most == 0) ≡ false
some_addresses addresses most some h = grind (arith, nat_tests)

-- nothing is said without a d-character
pub unsaid : (kind : DCharacter) (says_d : Bool) (addresses : ℕ) → says says_d addresses None kind ≡ true
    → says_d ≡ false
unsaid kinds.Never true addresses h = absurd (false≢true h)
unsaid kinds.Never false addresses h = refl
unsaid (kinds.Fixed graphic) says_d addresses h = absurd (false≢true h)
unsaid kinds.Optional true addresses h = absurd (false≢true h)
unsaid kinds.Optional false addresses h = refl
unsaid kinds.Required says_d addresses h = absurd (false≢true h)

-- an operation alone
pub none_read : (operation : Cell) (says_d : Bool) (instruction : Instruction) → IsOwn operation
    → operation.mark ≡ true → IsFor says_d (graphic_of operation) 0 None instruction
    → IsRead instruction [] (operation ∷ [])
none_read operation says_d instruction own mark this = record {
  of = whole fields.Absent fields.Absent None;
  reads = λ more.
      no_operands instruction.form more None this.least (no_d instruction.form.d says_d 0 instruction.form.most more
      this.said);
  good = refl;
  few = omega arith;
  shows = refl;
  cells = λ all here.
      ap (λ (cell : Cell). cell ∷ []) (operation_again operation instruction.operation own mark this.operation);
}

-- an operation and a d-character that its mnemonic says
pub d_said_read : (operation d : Cell) (instruction : Instruction) → IsOwn operation → operation.mark ≡ true
    → IsOwn d → has_no_mark d ≡ true → IsFor true (graphic_of operation) 0 (Some (graphic_of d)) instruction
    → IsRead instruction [] (operation ∷ d ∷ [])
d_said_read operation d instruction own mark own_d unmarked this = record {
  of = whole fields.Absent fields.Absent (Some (graphic_of d));
  reads = λ more.
      no_operands instruction.form more (Some (graphic_of d)) this.least
      (d_said instruction.form.d 0 instruction.form.most (graphic_of d) more this.said);
  good = refl;
  few = omega arith;
  shows = refl;
  cells = λ all here.
      same_two (marked (char_of instruction.operation)) operation (map plain (d_codes (Some (graphic_of d)))) (d ∷ [])
      (operation_again operation instruction.operation own mark this.operation) (d_again d own_d unmarked);
}

-- an operation and a d-character
pub d_read : (operation d : Cell) (instruction : Instruction) → IsOwn operation → operation.mark ≡ true
    → IsOwn d → has_no_mark d ≡ true → IsFor false (graphic_of operation) 0 (Some (graphic_of d)) instruction
    → IsRead instruction (graphic_of d ∷ []) (operation ∷ d ∷ [])
d_read operation d instruction own mark own_d unmarked this = record {
  of = whole fields.Absent fields.Absent (Some (graphic_of d));
  reads = λ more.
      d_alone instruction.form (graphic_of d) more (eqb-true instruction.form.most 0 this.beyond) this.least
      (d_first instruction.form.d (graphic_of d) more this.said);
  good = refl;
  few = omega arith;
  shows = rw (graphic_shows d own_d) refl;
  cells = λ all here.
      same_two (marked (char_of instruction.operation)) operation (map plain (d_codes (Some (graphic_of d)))) (d ∷ [])
      (operation_again operation instruction.operation own mark this.operation) (d_again d own_d unmarked);
}

-- what follows addresses: nothing, or a comma and a d-character
pub record IsTail (says_d : Bool) (form : Form) (addresses : ℕ) (tail : List ℕ) (d : Option ℕ) (beyond : List Cell) :
    Type 0 where
  ends : (more : List ℕ) → operand_len false (tail ++ 32 ∷ more) ≡ 0
  one : addresses ≡ 1 → (more : List ℕ)
      → second_operand Plain form.most (tail ++ 32 ∷ more) ≡ (fields.Absent, tail ++ 32 ∷ more)
  reads : (more : List ℕ) → d_by form.d form.most (tail ++ 32 ∷ more) ≡ (d, true)
  few : length tail ≤ 2
  shows : list_all is_graphic tail ≡ true
  cells : map plain (d_codes d) ≡ beyond

pub bare_tail : (operation addresses : ℕ) (says_d : Bool) (instruction : Instruction)
    → IsFor says_d operation addresses None instruction
    → IsTail says_d instruction.form addresses [] None []
bare_tail operation addresses says_d instruction this = record {
  ends = λ more. refl;
  one = λ e more. refl;
  reads = λ more. no_d instruction.form.d says_d addresses instruction.form.most more this.said;
  few = omega arith;
  shows = refl;
  cells = refl;
}

pub said_tail : (operation addresses : ℕ) (d : Cell) (instruction : Instruction) → IsOwn d → has_no_mark d ≡ true
    → IsFor true operation addresses (Some (graphic_of d)) instruction
    → IsTail true instruction.form addresses [] (Some (graphic_of d)) (d ∷ [])
said_tail operation addresses d instruction own unmarked this = record {
  ends = λ more. refl;
  one = λ e more. refl;
  reads = λ more. d_said instruction.form.d addresses instruction.form.most (graphic_of d) more this.said;
  few = omega arith;
  shows = refl;
  cells = d_again d own unmarked;
}

no_second : (most addresses : ℕ) (rest : List ℕ) → most ≡ addresses → addresses ≡ 1
    → second_operand Plain most (44 ∷ rest) ≡ (fields.Absent, 44 ∷ rest)
no_second most addresses rest e f =
    let one : most ≡ 1 = e ∙ f in rw one refl

pub d_tail : (operation addresses : ℕ) (d : Cell) (instruction : Instruction) → 0 < addresses → IsOwn d
    → has_no_mark d ≡ true → IsFor false operation addresses (Some (graphic_of d)) instruction
    → IsTail false instruction.form addresses (44 ∷ graphic_of d ∷ []) (Some (graphic_of d)) (d ∷ [])
d_tail operation addresses d instruction some own unmarked this = record {
  ends = λ more. refl;
  one = λ e more.
      no_second instruction.form.most addresses (graphic_of d ∷ 32 ∷ more)
      (eqb-true instruction.form.most addresses this.beyond) e;
  reads = λ more.
      d_beyond instruction.form.d addresses instruction.form.most (graphic_of d) more
      (some_addresses addresses instruction.form.most some this.most) this.said;
  few = omega arith;
  shows = rw (comma_shows, graphic_shows d own) refl;
  cells = d_again d own unmarked;
}

-- three cells that are an address
pub record IsPlaced (h t u : Cell) : Type 0 where
  pub spelling : is_spelling h.char t.char u.char ≡ true
  pub first : has_no_mark h ≡ true
  pub second : has_no_mark t ≡ true
  pub third : has_no_mark u ≡ true

address_fits : (h t u : Cell) → IsPlaced h t u → value_of h.char t.char u.char < 100000
address_fits h t u placed =
    let parts = and_parts (nat_lt (value_of h.char t.char u.char) 16000) _ placed.spelling in
    grind (arith, nat_tests, parts.0)

is_address : (h t u : Cell) → IsPlaced h t u
    → IsAddress (address_text h.char t.char u.char) (numbered (value_of h.char t.char u.char) (register_in t.char))
is_address h t u placed =
    number_is_address (value_of h.char t.char u.char) (register_in t.char) (address_fits h t u placed) (omega arith)

address_cells : (h t u : Cell) (rest beyond : List Cell) → IsPlaced h t u → rest ≡ beyond
    → plain h.char ∷ plain t.char ∷ plain u.char ∷ rest ≡ h ∷ t ∷ u ∷ beyond
address_cells h t u rest beyond placed e =
    same_three (plain h.char) (plain t.char) (plain u.char) h t u rest beyond (plain_again h placed.first)
    (plain_again t placed.second) (plain_again u placed.third) e

abbrev field_at : Cell → Cell → Cell → Address
field_at h t u = numbered (value_of h.char t.char u.char) (register_in t.char)

-- an operation, an address, and what follows it
pub one_read : (operation h t u : Cell) (says_d : Bool) (tail : List ℕ) (d : Option ℕ) (beyond : List Cell)
    (instruction : Instruction) → IsOwn operation → operation.mark ≡ true → IsPlaced h t u
    → IsFor says_d (graphic_of operation) 1 d instruction
    → IsTail says_d instruction.form 1 tail d beyond
    → IsRead instruction (address_text h.char t.char u.char ++ tail) (operation ∷ h ∷ t ∷ u ∷ beyond)
one_read operation h t u says_d tail d beyond instruction own mark placed this that =
    let word : List ℕ = address_text h.char t.char u.char in
    let fits = address_fits h t u placed in
    record {
      of = whole (address_field (field_at h t u)) fields.Absent d;
      reads = λ more.
          ap (operands_of Plain instruction.form) (append_assoc word tail (32 ∷ more))
          ∙ one_operand instruction.form word (tail ++ 32 ∷ more) (field_at h t u) d (is_address h t u placed)
          (that.ends more) (some_addresses 1 instruction.form.most (omega arith) this.most) this.least
          (that.one refl more) (that.reads more);
      good = refl;
      few = omega (arith, address_few h.char t.char u.char fits, that.few, length-append word tail);
      shows = list_all-append is_graphic word tail ∙ rw (address_shows h.char t.char u.char fits, that.shows) refl;
      cells = λ all here.
          ap (λ (codes : List ℕ). marked (char_of instruction.operation)
          ∷ ((map plain codes ++ []) ++ map plain (d_codes d)))
          (address_codes_again h.char t.char u.char placed.spelling all here)
          ∙ same_two (marked (char_of instruction.operation)) operation
          (plain h.char ∷ plain t.char ∷ plain u.char ∷ map plain (d_codes d)) (h ∷ t ∷ u ∷ beyond)
          (operation_again operation instruction.operation own mark this.operation)
          (address_cells h t u (map plain (d_codes d)) beyond placed that.cells);
    }

-- an operation, two addresses, and what follows them
pub two_read : (operation h t u x y z : Cell) (says_d : Bool) (tail : List ℕ) (d : Option ℕ) (beyond : List Cell)
    (instruction : Instruction) → IsOwn operation → operation.mark ≡ true → IsPlaced h t u → IsPlaced x y z
    → IsFor says_d (graphic_of operation) 2 d instruction
    → IsTail says_d instruction.form 2 tail d beyond
    → IsRead instruction (address_text h.char t.char u.char ++ 44 ∷ (address_text x.char y.char z.char ++ tail))
    (operation ∷ h ∷ t ∷ u ∷ x ∷ y ∷ z ∷ beyond)
two_read operation h t u x y z says_d tail d beyond instruction own mark placed other this that =
    let word : List ℕ = address_text h.char t.char u.char in
    let second : List ℕ = address_text x.char y.char z.char in
    let fits = address_fits h t u placed in
    let second_fits = address_fits x y z other in
    record {
      of = whole (address_field (field_at h t u)) (address_field (field_at x y z)) d;
      reads = λ more.
          ap (operands_of Plain instruction.form)
          (append_assoc word (44 ∷ (second ++ tail)) (32 ∷ more)
          ∙ ap (λ (rest : List ℕ). word ++ 44 ∷ rest) (append_assoc second tail (32 ∷ more)))
          ∙ two_operands instruction.form word second (tail ++ 32 ∷ more) (field_at h t u) (field_at x y z) d
          (is_address h t u placed) (is_address x y z other) (that.ends more)
          (some_addresses 2 instruction.form.most (omega arith) this.most)
          (grind (arith, nat_tests, this.most)) this.least (that.reads more);
      good = refl;
      few =
          omega (
            arith,
            address_few h.char t.char u.char fits,
            address_few x.char y.char z.char second_fits,
            that.few,
            length-append word (44 ∷ (second ++ tail)),
            length-append second tail,
          );
      shows =
          list_all-append is_graphic word (44 ∷ (second ++ tail))
          ∙ rw (address_shows h.char t.char u.char fits, comma_shows)
          (list_all-append is_graphic second tail ∙ rw (address_shows x.char y.char z.char second_fits, that.shows) refl);
      cells = λ all here.
          ap (λ (codes : List ℕ). marked (char_of instruction.operation)
          ∷ ((map plain codes ++ map plain (address_codes all here (field_at x y z))) ++ map plain (d_codes d)))
          (address_codes_again h.char t.char u.char placed.spelling all here)
          ∙ ap (λ (codes : List ℕ). marked (char_of instruction.operation)
          ∷ plain h.char ∷ plain t.char ∷ plain u.char ∷ (map plain codes ++ map plain (d_codes d)))
          (address_codes_again x.char y.char z.char other.spelling all here)
          ∙ same_two (marked (char_of instruction.operation)) operation
          (plain h.char ∷ plain t.char ∷ plain u.char ∷ plain x.char ∷ plain y.char ∷ plain z.char
          ∷ map plain (d_codes d))
          (h ∷ t ∷ u ∷ x ∷ y ∷ z ∷ beyond)
          (operation_again operation instruction.operation own mark this.operation)
          (address_cells h t u (plain x.char ∷ plain y.char ∷ plain z.char ∷ map plain (d_codes d))
          (x ∷ y ∷ z ∷ beyond) placed (address_cells x y z (map plain (d_codes d)) beyond other that.cells));
    }

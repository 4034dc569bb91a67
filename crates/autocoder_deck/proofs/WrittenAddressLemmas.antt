-- An address that is written is read again.
use Rattle.std.proofs.Common.{◌≡◌, ℕ, zero, suc, ◌+◌, ◌<◌, ◌==◌, false, if◌then◌else◌, List, [], ◌∷◌, ◌++◌}
use Rattle.std.proofs.Common.{length}
use Rattle.std.proofs.Common.{take, drop, pos, Option, None, Some, refl, ap, ◌∙◌, arith, append_assoc}
use Rattle.std.proofs.Common.{length-append}
use Rattle.std.proofs.lemmas.Bool.{and_parts}
use Rattle.std.proofs.Math.Seq.{take-append_seam, drop-append_seam}
use Rattle.std.specs.List.{list_all, prefix_len}
use Rattle.autocoder_statements.specs.Address.{address_of, is_adjusted, index_of, base_of, base_len}
use Rattle.bcd_1401.specs.Digits.{is_digit}
use Rattle.autocoder_statements.specs.Label.{is_letter_or_digit}
use Rattle.autocoder_statements.specs.Operands.{operand_len, operand_of, is_ended, read_operand}
use Rattle.autocoder_statements.specs.declared.address.Address.{Address}
use Rattle.autocoder_statements.specs.declared.address.Base.TheVariants as bases
use Rattle.autocoder_statements.specs.declared.operands.Operand.TheVariants as operands
use Rattle.autocoder_statements.specs.declared.operands.OperandField.TheVariants as fields
use Rattle.autocoder_statements.specs.declared.language.Language.TheVariants.{Plain}
use Rattle.machine_notation.specs.Digits.{digits_in}
use Rattle.machine_notation.specs.Address.{index_text}
use Rattle.autocoder_deck.proofs.NumberLemmas.{IsNumber, number_again, short_number_of, no_other, no_higher}
use Rattle.autocoder_deck.proofs.NumberLemmas.{operand_len-digits, prefix_len-digits}

-- the index register that an address names by this text: none for 0
abbrev pub named_index : ℕ → Option ℕ
named_index index = if index == 0 then None else Some index

-- a text that is an index register after an address
record IsIndex (index : ℕ) (text : List ℕ) : Type 0 where
  goes_on : (rest : List ℕ) → operand_len false (text ++ rest) ≡ length text + operand_len false rest
  ends_the_word : prefix_len is_letter_or_digit text ≡ 0
  no_adjustment : is_adjusted text ≡ false
  is : index_of Plain text ≡ Some (named_index index)

index_again : (index : ℕ) → index < 4 → IsIndex index (index_text index)
index_again zero h = record {
  goes_on = λ rest. omega arith;
  ends_the_word = refl;
  no_adjustment = refl;
  is = refl;
}
index_again (suc zero) h = record {
  goes_on = λ rest. omega arith;
  ends_the_word = refl;
  no_adjustment = refl;
  is = refl;
}
index_again (suc (suc zero)) h = record {
  goes_on = λ rest. omega arith;
  ends_the_word = refl;
  no_adjustment = refl;
  is = refl;
}
index_again (suc (suc (suc zero))) h = record {
  goes_on = λ rest. omega arith;
  ends_the_word = refl;
  no_adjustment = refl;
  is = refl;
}
index_again (suc (suc (suc (suc more)))) h = absurd (omega (arith, h))

-- the address of a number and an index register
abbrev pub numbered : ℕ → ℕ → Address
numbered value index = record { base = bases.Number value; adjustment = pos 0; index = named_index index }

-- what a word is, with the parts that it is read by
address_by : (word rest : List ℕ) (n value index : ℕ) → base_len (word ++ rest) ≡ n → take n (word ++ rest) ≡ word
    → drop n (word ++ rest) ≡ rest → base_of Plain word ≡ Some (bases.Number value) → is_adjusted rest ≡ false
    → index_of Plain rest ≡ Some (named_index index)
    → address_of Plain (word ++ rest) ≡ Some (numbered value index)
address_by word rest n value index e front beyond base plain is = rw (e, front, beyond, base, plain, is) refl

base_again : (word : List ℕ) (value : ℕ) → IsNumber word value → value < 100000
    → base_of Plain word ≡ Some (bases.Number value)
base_again [] value number fits = absurd (omega (arith, number.some))
base_again (byte ∷ more) value number fits =
    let parts = and_parts (is_digit byte) (list_all is_digit more) number.digits in
    rw (no_other byte 42 parts.0 (omega arith), short_number_of (byte ∷ more) value number fits) refl

base_len_again : (word text : List ℕ) (value index : ℕ) → IsNumber word value → IsIndex index text
    → base_len (word ++ text) ≡ length word
base_len_again [] text value index number beyond = absurd (omega (arith, number.some))
base_len_again (byte ∷ more) text value index number beyond =
    let parts = and_parts (is_digit byte) (list_all is_digit more) number.digits in
    let letters = prefix_len-digits (byte ∷ more) text number.digits in
    rw (no_other byte 42 parts.0 (omega arith)) (omega (arith, letters, beyond.ends_the_word))

address_again : (word text : List ℕ) (value index : ℕ) → IsNumber word value → IsIndex index text → value < 100000
    → address_of Plain (word ++ text) ≡ Some (numbered value index)
address_again word text value index number beyond fits =
    address_by word text (length word) value index (base_len_again word text value index number beyond)
    (take-append_seam word text) (drop-append_seam word text) (base_again word value number fits) beyond.no_adjustment
    beyond.is

-- a word that is read as an address, whatever follows its end
pub record IsAddress (word : List ℕ) (address : Address) : Type 0 where
  pub goes_on : (rest : List ℕ) → operand_len false (word ++ rest) ≡ length word + operand_len false rest
  pub begins : (rest : List ℕ) → is_ended (word ++ rest) ≡ false
  pub is : operand_of Plain word ≡ Some (operands.Address address)

operand_again : (word text : List ℕ) (value index : ℕ) → IsNumber word value → IsIndex index text → value < 100000
    → operand_of Plain (word ++ text) ≡ Some (operands.Address (numbered value index))
operand_again [] text value index number beyond fits = absurd (omega (arith, number.some))
operand_again (byte ∷ more) text value index number beyond fits =
    let parts = and_parts (is_digit byte) (list_all is_digit more) number.digits in
    rw (
      no_higher byte 64 parts.0 (omega arith),
      no_other byte 43 parts.0 (omega arith),
      no_other byte 45 parts.0 (omega arith),
      address_again (byte ∷ more) text value index number beyond fits,
    ) refl

begins_again : (word text : List ℕ) (value : ℕ) → IsNumber word value
    → (rest : List ℕ) → is_ended ((word ++ text) ++ rest) ≡ false
begins_again [] text value number rest = absurd (omega (arith, number.some))
begins_again (byte ∷ more) text value number rest =
    let parts = and_parts (is_digit byte) (list_all is_digit more) number.digits in
    no_other byte 32 parts.0 (omega arith)

pub number_is_address : (value index : ℕ) → value < 100000 → index < 4
    → IsAddress (digits_in 3 value ++ index_text index) (numbered value index)
number_is_address value index fits few =
    let number : IsNumber (digits_in 3 value) value = number_again value fits in
    let beyond : IsIndex index (index_text index) = index_again index few in
    record {
      goes_on = λ rest.
          ap (operand_len false) (append_assoc (digits_in 3 value) (index_text index) rest)
          ∙ omega (
            arith,
            operand_len-digits (digits_in 3 value) (index_text index ++ rest) number.digits,
            beyond.goes_on rest,
            length-append (digits_in 3 value) (index_text index),
          );
      begins = begins_again (digits_in 3 value) (index_text index) value number;
      is = operand_again (digits_in 3 value) (index_text index) value index number beyond fits;
    }

-- an address up to where it ends
read_by : (word rest : List ℕ) (address : Address) (n : ℕ) → operand_len false (word ++ rest) ≡ n
    → take n (word ++ rest) ≡ word → drop n (word ++ rest) ≡ rest → operand_of Plain word ≡ Some (operands.Address address)
    → read_operand Plain (word ++ rest) ≡ (fields.Operand (operands.Address address), rest)
read_by word rest address n e front beyond is = rw (e, front, beyond, is) refl

pub address_is_read : (word rest : List ℕ) (address : Address) → IsAddress word address → operand_len false rest ≡ 0
    → read_operand Plain (word ++ rest) ≡ (fields.Operand (operands.Address address), rest)
address_is_read word rest address this ends =
    read_by word rest address (length word) (omega (arith, this.goes_on rest, ends)) (take-append_seam word rest)
    (drop-append_seam word rest) this.is

-- Operands that are written are read again, by what the form asks for.
use Rattle.std.proofs.Common.{◌≡◌, ℕ, ◌==◌, ◌&&◌, nat_le, nat_lt, Bool, true, false, List, ◌∷◌, ◌++◌}
use Rattle.std.proofs.Common.{Option, None, Some, refl, ap, ◌∙◌}
use Rattle.std.specs.Prelude.{◌||◌}
use Rattle.std.proofs.lemmas.Bool.{eqb-true, false≢true}
use Rattle.autocoder_statements.specs.Operands.{operand_len, operands_of, operands_with, first_operand, second_operand}
use Rattle.autocoder_statements.specs.Operands.{d_of}
use Rattle.autocoder_statements.specs.Operands.{d_by}
use Rattle.autocoder_statements.specs.Operands.{Read}
use Rattle.autocoder_statements.specs.declared.address.Address.{Address}
use Rattle.autocoder_statements.specs.declared.mnemonic.DCharacter.{DCharacter}
use Rattle.autocoder_statements.specs.declared.mnemonic.DCharacter.TheVariants as kinds
use Rattle.autocoder_statements.specs.declared.mnemonic.Form.{Form}
use Rattle.autocoder_statements.specs.declared.operands.Operand.TheVariants as operands
use Rattle.autocoder_statements.specs.declared.operands.OperandField.{OperandField}
use Rattle.autocoder_statements.specs.declared.operands.OperandField.TheVariants as fields
use Rattle.autocoder_statements.specs.declared.operands.Operands.{Operands}
use Rattle.autocoder_statements.specs.declared.language.Language.TheVariants.{Plain}
use Rattle.autocoder_deck.proofs.WrittenAddressLemmas.{IsAddress, address_is_read}
use Rattle.autocoder_deck.proofs.MnemonicLemmas.{says}

-- without a d-character nothing is written
pub no_d : (kind : DCharacter) (says_d : Bool) (addresses most : ℕ) (more : List ℕ)
    → says says_d addresses None kind ≡ true → d_by kind most (32 ∷ more) ≡ (None, true)
no_d kinds.Never says_d addresses most more h = refl
no_d (kinds.Fixed graphic) says_d addresses most more h = absurd (false≢true h)
no_d kinds.Optional says_d addresses most more h = refl
no_d kinds.Required says_d addresses most more h = absurd (false≢true h)

-- one that the mnemonic says isn't written either
pub d_said : (kind : DCharacter) (addresses most d : ℕ) (more : List ℕ)
    → says true addresses (Some d) kind ≡ true → d_by kind most (32 ∷ more) ≡ (Some d, true)
d_said kinds.Never addresses most d more h = absurd (false≢true h)
d_said (kinds.Fixed graphic) addresses most d more h = ap (λ (g : ℕ). (Some g, true)) (eqb-true graphic d h)
d_said kinds.Optional addresses most d more h = absurd (false≢true h)
d_said kinds.Required addresses most d more h = absurd (false≢true h)

-- one without an address comes first
pub d_first : (kind : DCharacter) (d : ℕ) (more : List ℕ)
    → says false 0 (Some d) kind ≡ true → d_by kind 0 (d ∷ 32 ∷ more) ≡ (Some d, true)
d_first kinds.Never d more h = absurd (false≢true h)
d_first (kinds.Fixed graphic) d more h = absurd (false≢true h)
d_first kinds.Optional d more h = absurd (false≢true h)
d_first kinds.Required d more h = refl

-- one after addresses follows a comma
pub d_beyond : (kind : DCharacter) (addresses most d : ℕ) (more : List ℕ) → (most == 0) ≡ false
    → says false addresses (Some d) kind ≡ true → d_by kind most (44 ∷ d ∷ 32 ∷ more) ≡ (Some d, true)
d_beyond kinds.Never addresses most d more some h = absurd (false≢true h)
d_beyond (kinds.Fixed graphic) addresses most d more some h = absurd (false≢true h)
d_beyond kinds.Optional addresses most d more some h = rw some refl
d_beyond kinds.Required addresses most d more some h = rw some refl

-- the operands by their parts
operands_by : (form : Form) (columns beyond_first beyond_second : List ℕ) (a b : OperandField) (read : Read)
    → first_operand Plain form.most columns ≡ (a, beyond_first)
    → second_operand Plain form.most beyond_first ≡ (b, beyond_second)
    → d_of form beyond_second ≡ read
    → operands_of Plain form columns ≡ operands_with form.least a b read
operands_by form columns beyond_first beyond_second a b read first second d = rw (first, second, d) refl

abbrev pub address_field : Address → OperandField
address_field address = fields.Operand (operands.Address address)

or_true : (b : Bool) → (b || true) ≡ true
or_true true = refl
or_true false = refl

and_false : (b : Bool) → (b && false) ≡ false
and_false true = refl
and_false false = refl

-- operands that are as the form asks
abbrev pub whole : OperandField → OperandField → Option ℕ → Operands
whole a b d = record { a = a; b = b; d = d; is_whole = true }

-- nothing but blanks
pub no_operands : (form : Form) (more : List ℕ) (d : Option ℕ) → nat_le form.least 0 ≡ true
    → d_by form.d form.most (32 ∷ more) ≡ (d, true)
    → operands_of Plain form (32 ∷ more) ≡ whole fields.Absent fields.Absent d
no_operands form more d least read =
    operands_by form (32 ∷ more) (32 ∷ more) (32 ∷ more) fields.Absent fields.Absent (d, true)
    (rw (or_true (form.most == 0)) refl) refl read
    ∙ rw least refl

-- a d-character alone
pub d_alone : (form : Form) (d : ℕ) (more : List ℕ) → form.most ≡ 0 → nat_le form.least 0 ≡ true
    → d_by form.d 0 (d ∷ 32 ∷ more) ≡ (Some d, true)
    → operands_of Plain form (d ∷ 32 ∷ more) ≡ whole fields.Absent fields.Absent (Some d)
d_alone form d more most least read =
    operands_by form (d ∷ 32 ∷ more) (d ∷ 32 ∷ more) (d ∷ 32 ∷ more) fields.Absent fields.Absent (Some d, true)
    (rw most refl) (rw (most, and_false (d == 44)) refl) (rw most read)
    ∙ rw least refl

first_address : (most : ℕ) (word rest : List ℕ) (address : Address) → IsAddress word address
    → operand_len false rest ≡ 0 → (most == 0) ≡ false
    → first_operand Plain most (word ++ rest) ≡ (address_field address, rest)
first_address most word rest address this ends some =
    rw (some, this.begins rest) (address_is_read word rest address this ends)

-- an address, and nothing after it that is a second one
pub one_operand : (form : Form) (word rest : List ℕ) (address : Address) (d : Option ℕ) → IsAddress word address
    → operand_len false rest ≡ 0 → (form.most == 0) ≡ false → nat_le form.least 1 ≡ true
    → second_operand Plain form.most rest ≡ (fields.Absent, rest)
    → d_by form.d form.most rest ≡ (d, true)
    → operands_of Plain form (word ++ rest) ≡ whole (address_field address) fields.Absent d
one_operand form word rest address d this ends some least second read =
    operands_by form (word ++ rest) rest rest (address_field address) fields.Absent (d, true)
    (first_address form.most word rest address this ends some) second read
    ∙ rw least refl

-- two addresses
pub two_operands : (form : Form) (word other rest : List ℕ) (address second : Address) (d : Option ℕ)
    → IsAddress word address → IsAddress other second → operand_len false rest ≡ 0
    → (form.most == 0) ≡ false → nat_lt 1 form.most ≡ true → nat_le form.least 2 ≡ true
    → d_by form.d form.most rest ≡ (d, true)
    → operands_of Plain form (word ++ 44 ∷ (other ++ rest)) ≡ whole (address_field address) (address_field second) d
two_operands form word other rest address second d this that ends some more least read =
    operands_by form (word ++ 44 ∷ (other ++ rest)) (44 ∷ (other ++ rest)) rest (address_field address)
    (address_field second) (d, true)
    (first_address form.most word (44 ∷ (other ++ rest)) address this refl some)
    (rw more (address_is_read other rest second that ends)) read
    ∙ rw least refl

-- If the assembler has a mnemonic, the one that is written is one of its own.
use Rattle.std.proofs.Common.{◌≡◌, ℕ, ◌==◌, ◌&&◌, Bool, true, false, not, nat_le, nat_lt, length}
use Rattle.std.proofs.Common.{Option, None, Some, refl}
use Rattle.std.specs.Prelude.{slice_index, ◌||◌}
use Rattle.std.specs.List.{list_all}
use Rattle.std.specs.Option.{option_map_or}
use Rattle.bcd_1401.specs.Graphic.{graphics}
use Rattle.autocoder_statements.specs.SourceLine.{is_blank, is_graphic}
use Rattle.autocoder_statements.specs.Mnemonic.{instructions, instruction_of}
use Rattle.autocoder_statements.specs.declared.mnemonic.DCharacter.{DCharacter}
use Rattle.autocoder_statements.specs.declared.mnemonic.DCharacter.TheVariants as kinds
use Rattle.autocoder_statements.specs.declared.mnemonic.Instruction.{Instruction}
use Rattle.machine_notation.specs.Mnemonic.{columns_of, operations_with_d, mnemonic_of}
use Rattle.machine_notation.specs.declared.mnemonic.Mnemonic.{Mnemonic}
use Rattle.autocoder_deck.specs.Assembled.{has_mnemonic}

-- whether a form's d-character is as a mnemonic says it, after this many addresses
abbrev pub says : Bool → ℕ → Option ℕ → DCharacter → Bool
says says_d addresses None kinds.Never = not says_d
says says_d addresses None (kinds.Fixed graphic) = false
says says_d addresses None kinds.Optional = not says_d
says says_d addresses None kinds.Required = false
says says_d addresses (Some d) kinds.Never = false
says says_d addresses (Some d) (kinds.Fixed graphic) = says_d && (graphic == d)
says says_d addresses (Some d) kinds.Optional = not says_d && nat_lt 0 addresses
says says_d addresses (Some d) kinds.Required = not says_d

-- whether an instruction of the assembler is of an operation with this many addresses, and a d-character as the
-- mnemonic says it; one that is written follows as many addresses as there can be
abbrev pub is_as : Mnemonic → ℕ → ℕ → Option ℕ → Instruction → Bool
is_as mnemonic operation addresses d instruction =
    (instruction.operation == operation) && nat_le instruction.form.least addresses
    && nat_le addresses instruction.form.most && says mnemonic.says_d addresses d instruction.form.d
    && option_map_or (λ d. mnemonic.says_d || (instruction.form.most == addresses)) d true

-- whether a mnemonic is one of the assembler's, for this operation with this many addresses and this d-character
abbrev pub is_good : ℕ → ℕ → Option ℕ → Mnemonic → Bool
is_good operation addresses d mnemonic =
    (length mnemonic.columns == 5) && not (is_blank (slice_index mnemonic.columns 0))
    && list_all is_graphic mnemonic.columns
    && option_map_or (is_as mnemonic operation addresses d) (instruction_of mnemonic.columns) false

abbrev pub follows : Bool → Bool → Bool
follows false b = true
follows true b = b

-- whether what is written for an operation is good if the assembler has a mnemonic for it
abbrev pub is_written_well : ℕ → ℕ → Option ℕ → Bool
is_written_well operation addresses d =
    follows (has_mnemonic operation addresses d)
    (is_good operation addresses d (mnemonic_of operation addresses d))

-- with a d-character after this many addresses
abbrev pub with_d : ℕ → Bool
with_d addresses =
    list_all (λ operation. list_all (λ d. is_written_well operation addresses (Some d)) graphics) graphics

pub none_with_d : with_d 0 ≡ true
unfolding graphics instructions columns_of operations_with_d
none_with_d = refl

pub one_with_d : with_d 1 ≡ true
unfolding graphics instructions columns_of operations_with_d
one_with_d = refl

pub two_with_d : with_d 2 ≡ true
unfolding graphics instructions columns_of operations_with_d
two_with_d = refl

abbrev pub without_d : ℕ → Bool
without_d addresses = list_all (λ operation. is_written_well operation addresses None) graphics

pub none_without_d : without_d 0 ≡ true
unfolding graphics instructions columns_of operations_with_d
none_without_d = refl

pub one_without_d : without_d 1 ≡ true
unfolding graphics instructions columns_of operations_with_d
one_without_d = refl

pub two_without_d : without_d 2 ≡ true
unfolding graphics instructions columns_of operations_with_d
two_without_d = refl

-- An operation that needs both addresses to be those of places is refused without.
use Rattle.std.proofs.Common.{◌≡◌, ℕ, ◌&&◌, true, false, List, [], ◌∷◌, Option, None, Some, Err, refl}
use Rattle.std.proofs.Common.{ap, inl, inr}
use Rattle.std.proofs.lemmas.Bool.{and_cases, false≢true}
use Rattle.std.specs.List.{zip}
use Rattle.std.specs.Option.{option_and_then, option_map}
use Rattle.bcd_1401.specs.declared.cell.Cell.{Cell}
use Rattle.core_1401.specs.Field.{cells_down, field_len_of, pair_len_of}
use Rattle.core_1401.specs.Storage.{Storage, is_in_core}
use Rattle.fields_1401.specs.Arithmetic.{sum_at, difference_at, zero_sum_at, zero_difference_at}
use Rattle.fields_1401.specs.Compare.{compared, comparison_at}
use Rattle.fields_1401.specs.Move.{move_at, move_by}
use Rattle.fields_1401.specs.Refusal.{needed_at, lengths_at, refuse, used_len_of}
use Rattle.fields_1401.specs.declared.done.FieldStop.TheVariants.{Address}
use Rattle.cpu_1401.specs.FieldStep.{after_comparison, after_field}
use Rattle.machine_tables.specs.Operation.{needs_places}
use Rattle.cpu_1401.specs.State.{State}
use Rattle.cpu_1401.specs.Step.{perform}
use Rattle.cpu_1401.specs.Stepped.{stopped}
use Rattle.cpu_1401.specs.declared.instruction.Instruction.{Instruction}
use Rattle.machine_tables.specs.declared.operation.Operation.{Operation}
use Rattle.machine_tables.specs.declared.operation.Operation.TheVariants as op
use Rattle.machine_tables.specs.declared.stop.Stop.TheVariants as stop

-- one of two addresses isn't that of a place
abbrev Outside : Storage → ℕ → ℕ → Type 0
Outside s a b = is_in_core s a && is_in_core s b ≡ false

-- two fields have no length then
beside_none : (cells : List Cell) → zip {K = Cell} {X = Cell} cells [] ≡ []
beside_none [] = refl
beside_none (cell ∷ cells) = refl

no_pair : (s : Storage) (a b : ℕ) → Outside s a b → pair_len_of s a b ≡ None
no_pair s a b out =
    elim (and_cases (is_in_core s a) (is_in_core s b) out) [
      | inl of_a ↦ rw of_a refl
      | inr of_b ↦ rw (of_b, beside_none (cells_down s a)) refl
    ]

-- no places are taken of A beside B
none_needed : (s : Storage) (a b : ℕ) → Outside s a b → needed_at s a b ≡ None
none_needed s a b out =
    elim (and_cases (is_in_core s a) (is_in_core s b) out) [
      | inl of_a ↦ of_length (field_len_of s b) of_a
      | inr of_b ↦ rw of_b refl
    ] where
      taken : ℕ → Option (ℕ × ℕ)
      taken m = option_map (λ u. (u, m)) (used_len_of s a m)

      of_length : (len : Option ℕ) → is_in_core s a ≡ false → option_and_then taken len ≡ None
      of_length None of_a = refl
      of_length (Some m) of_a = rw of_a refl

-- so each of these operations is refused
no_lengths : (s : Storage) (a b : ℕ) → Outside s a b → lengths_at s a b ≡ Err Address
unfolding lengths_at
no_lengths s a b out = ap (refuse a b) (none_needed s a b out)

no_sum : (s : Storage) (a b : ℕ) → Outside s a b → sum_at s a b ≡ Err Address
unfolding sum_at
no_sum s a b out = rw (no_lengths s a b out) refl

no_difference : (s : Storage) (a b : ℕ) → Outside s a b → difference_at s a b ≡ Err Address
unfolding difference_at
no_difference s a b out = rw (no_lengths s a b out) refl

no_zero_sum : (s : Storage) (a b : ℕ) → Outside s a b → zero_sum_at s a b ≡ Err Address
unfolding zero_sum_at
no_zero_sum s a b out = rw (no_lengths s a b out) refl

no_zero_difference : (s : Storage) (a b : ℕ) → Outside s a b → zero_difference_at s a b ≡ Err Address
unfolding zero_difference_at
no_zero_difference s a b out = rw (no_lengths s a b out) refl

no_move : (s : Storage) (a b : ℕ) → Outside s a b → move_at s a b ≡ Err Address
unfolding move_at
no_move s a b out = ap (move_by s a b) (no_pair s a b out)

no_comparison : (s : Storage) (a b : ℕ) → Outside s a b → comparison_at s a b ≡ Err Address
unfolding comparison_at
no_comparison s a b out = ap (compared s a b) (no_pair s a b out)

-- an operation that needs both addresses to be those of places stops as ADDRESS if one isn't
pub refused_outside : (operation : Operation) (this : Instruction) (s : State) → needs_places operation ≡ true
    → Outside s.storage this.a this.b → perform operation this s ≡ stopped stop.Address s
refused_outside op.Add this s needs out = ap (after_field this s) (no_sum s.storage this.a this.b out)
refused_outside op.Subtract this s needs out = ap (after_field this s) (no_difference s.storage this.a this.b out)
refused_outside op.ZeroAdd this s needs out = ap (after_field this s) (no_zero_sum s.storage this.a this.b out)
refused_outside op.ZeroSubtract this s needs out =
    ap (after_field this s) (no_zero_difference s.storage this.a this.b out)
refused_outside op.Move this s needs out = ap (after_field this s) (no_move s.storage this.a this.b out)
refused_outside op.Load this s needs out = absurd (false≢true needs)
refused_outside op.MoveDigit this s needs out = rw out refl
refused_outside op.MoveZone this s needs out = rw out refl
refused_outside op.SetWordMark this s needs out = rw out refl
refused_outside op.ClearWordMark this s needs out = rw out refl
refused_outside op.ClearStorage this s needs out = absurd (false≢true needs)
refused_outside op.Compare this s needs out =
    ap (after_comparison this s) (no_comparison s.storage this.a this.b out)
refused_outside op.ZeroSuppress this s needs out = absurd (false≢true needs)
refused_outside op.Edit this s needs out = absurd (false≢true needs)
refused_outside op.Branch this s needs out = absurd (false≢true needs)
refused_outside op.BranchOnCell this s needs out = absurd (false≢true needs)
refused_outside op.StoreA this s needs out = absurd (false≢true needs)
refused_outside op.StoreB this s needs out = absurd (false≢true needs)
refused_outside op.NoOperation this s needs out = absurd (false≢true needs)
refused_outside op.Halt this s needs out = absurd (false≢true needs)
refused_outside op.SelectStacker this s needs out = absurd (false≢true needs)
refused_outside op.ReadCard this s needs out = absurd (false≢true needs)
refused_outside op.WriteLine this s needs out = absurd (false≢true needs)
refused_outside op.WriteAndRead this s needs out = absurd (false≢true needs)
refused_outside op.PunchCard this s needs out = absurd (false≢true needs)
refused_outside op.ReadAndPunch this s needs out = absurd (false≢true needs)
refused_outside op.WriteAndPunch this s needs out = absurd (false≢true needs)
refused_outside op.WriteReadAndPunch this s needs out = absurd (false≢true needs)
refused_outside op.ControlCarriage this s needs out = absurd (false≢true needs)

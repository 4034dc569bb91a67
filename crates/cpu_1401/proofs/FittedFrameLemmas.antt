-- A step with features in a frame is the step without the frame, in it.
use Rattle.std.proofs.Common.{◌≡◌, ℕ, Bool, Option, None, Some, refl, ◌∙◌, ap}
use Rattle.std.specs.Prelude.{is_some}
use Rattle.bcd_1401.specs.declared.cell.Cell.{Cell}
use Rattle.fields_1401.specs.Load.{has_places}
use Rattle.cpu_1401.specs.Branch.{branch_on_cell, has_char, passes}
use Rattle.cpu_1401.specs.Chaining.{again, keeping, shares_bit}
use Rattle.cpu_1401.specs.Fitting.{after_second, fitted_at, fitted_instruction, fitted_step, perform_fitted, step_as}
use Rattle.cpu_1401.specs.Frame.{Frame, framed, around, IsUnseen}
use Rattle.cpu_1401.specs.State.{State}
use Rattle.cpu_1401.specs.Step.{step}
use Rattle.cpu_1401.specs.Stepped.{Stepped}
use Rattle.machine_tables.specs.declared.fitted.Fitted.{Fitted}
use Rattle.machine_tables.specs.declared.fitted.Fitted.TheVariants as fitted
use Rattle.cpu_1401.specs.declared.instruction.Instruction.{Instruction}
use Rattle.cpu_1401.proofs.FrameLemmas.{either, field_framed, on_cell_framed, step_framed, store_framed}

keeping_framed : (f : Frame) (d : ℕ) (t : Stepped) → keeping d (around f t) ≡ around f (keeping d t)
keeping_framed f d t = either f (is_some t.stop) _ _ _ _ refl refl

branch_framed : (f : Frame) (test : Cell → Bool) (d : ℕ) (this : Instruction) (s : State)
    → keeping d (branch_on_cell test this (framed f s)) ≡ around f (keeping d (branch_on_cell test this s))
branch_framed f test d this s =
    ap (keeping d) (on_cell_framed f test this s) ∙ keeping_framed f d (branch_on_cell test this s)

second_framed : (f : Frame) (this : Instruction) (s : State)
    → after_second this (framed f s) ≡ around f (after_second this s)
second_framed f this s = either f (has_places s.storage this.a 3) _ _ _ _ refl refl

fitted_framed : (f : Frame) (made : Fitted) (this : Instruction) (s : State) → IsUnseen f s
    → perform_fitted made this (framed f s) ≡ around f (perform_fitted made this s)
fitted_framed f fitted.OnCell this s unseen =
    ap (keeping this.d) (step_framed f s unseen) ∙ keeping_framed f this.d (step s)
fitted_framed f fitted.OnBits this s unseen = branch_framed f (shares_bit this.d) this.d this s
fitted_framed f fitted.CharacterAgain this s unseen = branch_framed f (has_char s.chained) s.chained (again this s) s
fitted_framed f fitted.CellAgain this s unseen = branch_framed f (passes s.chained) s.chained (again this s) s
fitted_framed f fitted.BitsAgain this s unseen =
    either f s.features.lengths _ _ _ _ (branch_framed f (shares_bit s.chained) s.chained (again this s) s) refl
fitted_framed f fitted.StoreA this s unseen = store_framed f s.a this s
fitted_framed f fitted.StoreB this s unseen = store_framed f s.b this s
fitted_framed f fitted.StoreSecond this s unseen = second_framed f this s
fitted_framed f fitted.Halt this s unseen = refl
fitted_framed f fitted.Feed this s unseen = refl
fitted_framed f fitted.Multiply this s unseen = field_framed f this s _
fitted_framed f fitted.Divide this s unseen = field_framed f this s _
fitted_framed f fitted.MoveRecord this s unseen = field_framed f this s _
fitted_framed f fitted.ModifyAddress this s unseen = field_framed f this s _
fitted_framed f fitted.MoveTape this s unseen = refl
fitted_framed f fitted.LoadTape this s unseen = refl
fitted_framed f fitted.ControlTape this s unseen = refl
fitted_framed f fitted.NoLength this s unseen = refl

as_framed : (f : Frame) (found : Option Fitted) (s : State) → IsUnseen f s
    → step_as found (framed f s) ≡ around f (step_as found s)
as_framed f None s unseen = step_framed f s unseen
as_framed f (Some made) s unseen = fitted_framed f made (fitted_instruction s) s unseen

-- features don't look at devices
pub fitted_step_framed : (f : Frame) (s : State) → IsUnseen f s → fitted_step (framed f s) ≡ around f (fitted_step s)
unfolding fitted_step
fitted_step_framed f s unseen = as_framed f (fitted_at s) s unseen

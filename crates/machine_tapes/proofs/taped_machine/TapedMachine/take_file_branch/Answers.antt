-- The branch is in core, with its address.
use Rattle.std.proofs.Common.{length, ap, arith}
use Rattle.std.proofs.lemmas.Bool.{and_parts}
use Rattle.machine_tables.specs.declared.regs.Regs.{Regs}
use Rattle.cpu_1401.specs.Fetched.{next_instruction}
use Rattle.machine_tapes.specs.TapedStep.{is_file_branch}
use Rattle.machine_tapes.specs.Tapes.{is_latched}
use Rattle.machine_tapes.proofs.InstructionLemmas.{file_branch_inside}
use Rattle.machine_tapes.proofs.taped_machine.TapedMachine.take_file_branch.Goals as goal

pub effective-to-requires : goal.effective-to-requires
effective-to-requires c =
    let s = c.args.self.now.machine in
    let both = and_parts (is_latched c.args.self.now.tapes) (is_file_branch (next_instruction s)) c.requires in
    let at = ap (λ (regs : Regs). regs.i) c.regs-at.ensures.value in
    let size = ap length c.core.ensures in
    omega (arith, file_branch_inside s both.1, at, size)

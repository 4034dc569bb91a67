-- The text of an instruction that the assembler has a word for is assembled again as its cells.
use Rattle.std.proofs.Common.{◌≡◌, ◌≤◌, true, List, [], ◌∷◌, length, arith}
use Rattle.std.proofs.lemmas.Bool.{false≢true}
use Rattle.bcd_1401.specs.declared.cell.Cell.{Cell}
use Rattle.machine_notation.specs.InstructionText.{instruction_text, IsOwnInstruction}
use Rattle.autocoder_deck.specs.Assembled.{has_word, IsTextOf}
use Rattle.autocoder_deck.proofs.WordLemmas.{written_again}
use Rattle.autocoder_deck.proofs.instruction.put_instruction.Goals as goal

again : (cells : List Cell) → length cells ≤ 8 → IsOwnInstruction cells → has_word cells ≡ true
    → IsTextOf (instruction_text cells) cells
again [] few own h = absurd (false≢true h)
again (operation ∷ beyond) few own h = written_again operation beyond (omega (arith, few)) own.0 own.1 h

pub returns-clause-again : goal.returns-clause-again
returns-clause-again c = again c.args.cells.now c.requires c.put_instruction.ensures.own

-- What was read so far, and what is left to read, are all of them.
use Rattle.std.proofs.Common.{◌≡◌, ◌-◌, length, take}
use Rattle.operate_orders.specs.List.{listed}
use Rattle.operate_orders.specs.Operands.{count_operand}
use Rattle.operate_orders.specs.declared.words.Keyword.TheVariants.{Delete}
use Rattle.operate_orders.proofs.ListLemmas.{with_front}
use Rattle.operate_orders.proofs.lists.numbers.Given as goal

abbrev pub invariant-loop-i : goal.invariant-loop-i
invariant-loop-i l = record {
  so_far : with_front (take l.i l.numbers) (listed Delete count_operand (8 - l.i) l.rest) ≡ listed Delete count_operand 8 l.operands;
  room : length l.numbers ≡ 8;
}

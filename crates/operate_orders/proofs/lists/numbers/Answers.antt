-- Each operand goes in front of what is left.
use Rattle.std.proofs.Common.{◌≡◌, ℕ, suc, ◌+◌, ◌-◌, ◌<◌, ◌++◌, List, [], ◌∷◌, length, take, sym, ◌∙◌, ap, arith, take_all}
use Rattle.std.specs.Prelude.{Option, Ok, Err}
use Rattle.std.proofs.lemmas.Result.{err_from_is_err_and}
use Rattle.std.proofs.lemmas.List.{take_more_set, length-set}
use Rattle.operate_orders.specs.List.{listed, numbers_in}
use Rattle.operate_orders.specs.Operands.{count_operand}
use Rattle.operate_orders.specs.Parts.{operand_in}
use Rattle.operate_orders.specs.declared.fault.OrderFault.{OrderFault}
use Rattle.operate_orders.specs.declared.words.Keyword.TheVariants.{Delete}
use Rattle.operate_orders.proofs.ListLemmas.{with_front, one_listed, none_listed, listed_end, listed_more}
use Rattle.operate_orders.proofs.lists.numbers.Goals as goal

pub loop-i-preserved : goal.loop-i-preserved
loop-i-preserved c =
    let s = c.loop-i.invariant in
    let i = c.loop-i.i in
    let rest : List ℕ = c.loop-i.rest.now in
    let front : List (Option ℕ) = take i c.loop-i.numbers in
    let x : Option ℕ = c.in_ok-found.found in
    let within : i < length c.loop-i.numbers = omega (arith, s.room) in
    let left : 8 - i ≡ suc (8 - (i + 1)) = omega arith in
    let read : count_operand (operand_in rest) ≡ Ok x =
    sym (ap count_operand c.split_operand.ensures.operand) ∙ sym c.count_operand.ensures ∙ c.in_ok-found.was in
    let more = ap (λ (so_far : List (Option ℕ)). with_front so_far (listed Delete count_operand (8 - (i + 1)) c.split_operand.result.1.now))
    (take_more_set c.loop-i.numbers i x within) in
    let there = ap (λ (left : List ℕ). with_front (front ++ x ∷ []) (listed Delete count_operand (8 - (i + 1)) left))
    c.split_operand.ensures.beyond in
    let step = one_listed Delete count_operand (8 - (i + 1)) rest x front read in
    let here = ap (λ (n : ℕ). with_front front (listed Delete count_operand n rest)) left in
    record {
      so_far = more ∙ there ∙ sym step ∙ sym here ∙ s.so_far;
      room = length-set c.loop-i.numbers i c.in_ok-found.found ∙ s.room;
    }

-- a fault of one operand is that of all
pub returns-in_err-found : goal.returns-in_err-found
unfolding numbers_in
returns-in_err-found c =
    let i = c.loop-i.i in
    let rest : List ℕ = c.loop-i.rest.now in
    let front : List (Option ℕ) = take i c.loop-i.numbers in
    let why : OrderFault = c.in_err-found.field-0.0 in
    let p = err_from_is_err_and c.from_residual.result c.from_residual.ensures.1 in
    let left : 8 - i ≡ suc (8 - (i + 1)) = omega arith in
    let read : count_operand (operand_in rest) ≡ Err why =
    sym (ap count_operand c.split_operand.ensures.operand) ∙ sym c.count_operand.ensures ∙ c.in_err-found.was in
    let missed = none_listed Delete count_operand (8 - (i + 1)) rest why front read in
    let here = ap (λ (n : ℕ). with_front front (listed Delete count_operand n rest)) left in
    rw (p.1, p.2) (sym missed ∙ sym here ∙ c.loop-i.invariant.so_far)

pub returns-then-is_end : goal.returns-then-is_end
unfolding numbers_in
returns-then-is_end c =
    let s = c.loop-i.invariant in
    let i = c.loop-i.i in
    let front : List (Option ℕ) = take i c.loop-i.numbers in
    let all : front ≡ c.loop-i.numbers = take_all i c.loop-i.numbers (omega (arith, s.room)) in
    let last : 8 - i ≡ 0 = omega arith in
    let ends = listed_end Delete count_operand (8 - i) c.loop-i.rest.now front last (sym c.is_end.ensures ∙ c.if-is_end.true) in
    ap Ok (sym all) ∙ sym ends ∙ s.so_far

pub returns-else-is_end : goal.returns-else-is_end
unfolding numbers_in
returns-else-is_end c =
    let s = c.loop-i.invariant in
    let i = c.loop-i.i in
    let front : List (Option ℕ) = take i c.loop-i.numbers in
    let last : 8 - i ≡ 0 = omega arith in
    let more = listed_more Delete count_operand (8 - i) c.loop-i.rest.now front last (sym c.is_end.ensures ∙ c.if-is_end.false) in
    sym more ∙ s.so_far

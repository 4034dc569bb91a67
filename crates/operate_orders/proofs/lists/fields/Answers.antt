-- Each operand goes in front of what is left.
use Rattle.std.proofs.Common.{◌≡◌, ℕ, suc, ◌+◌, ◌-◌, ◌<◌, ◌++◌, List, [], ◌∷◌, length, take, sym, ◌∙◌, ap, arith, take_all}
use Rattle.std.specs.Prelude.{Option, Ok, Err}
use Rattle.std.proofs.lemmas.Result.{err_from_is_err_and}
use Rattle.std.proofs.lemmas.List.{take_more_set, length-set}
use Rattle.operate_orders.specs.List.{field, listed, fields_in}
use Rattle.operate_orders.specs.declared.places.Place.{Place}
use Rattle.operate_orders.specs.Parts.{operand_in}
use Rattle.operate_orders.specs.declared.fault.OrderFault.{OrderFault}
use Rattle.operate_orders.specs.declared.words.Keyword.TheVariants.{Print}
use Rattle.operate_orders.proofs.ListLemmas.{with_front, one_listed, none_listed, listed_end, listed_more}
use Rattle.operate_orders.proofs.lists.fields.Goals as goal

pub loop-i-preserved : goal.loop-i-preserved
loop-i-preserved c =
    let s = c.loop-i.invariant in
    let i = c.loop-i.i in
    let rest : List ℕ = c.loop-i.rest.now in
    let front : List (Option Place) = take i c.loop-i.fields in
    let x : Option Place = c.in_ok-found.found in
    let within : i < length c.loop-i.fields = omega (arith, s.room) in
    let left : 8 - i ≡ suc (8 - (i + 1)) = omega arith in
    let read : field (operand_in rest) ≡ Ok x =
    sym (ap field c.split_operand.ensures.operand) ∙ sym c.field.ensures ∙ c.in_ok-found.was in
    let more = ap (λ (so_far : List (Option Place)). with_front so_far (listed Print field (8 - (i + 1)) c.split_operand.result.1.now))
    (take_more_set c.loop-i.fields i x within) in
    let there = ap (λ (left : List ℕ). with_front (front ++ x ∷ []) (listed Print field (8 - (i + 1)) left))
    c.split_operand.ensures.beyond in
    let step = one_listed Print field (8 - (i + 1)) rest x front read in
    let here = ap (λ (n : ℕ). with_front front (listed Print field n rest)) left in
    record {
      so_far = more ∙ there ∙ sym step ∙ sym here ∙ s.so_far;
      room = length-set c.loop-i.fields i c.in_ok-found.found ∙ s.room;
    }

-- a fault of one operand is that of all
pub returns-in_err-found : goal.returns-in_err-found
unfolding fields_in
returns-in_err-found c =
    let i = c.loop-i.i in
    let rest : List ℕ = c.loop-i.rest.now in
    let front : List (Option Place) = take i c.loop-i.fields in
    let why : OrderFault = c.in_err-found.field-0.0 in
    let p = err_from_is_err_and c.from_residual.result c.from_residual.ensures.1 in
    let left : 8 - i ≡ suc (8 - (i + 1)) = omega arith in
    let read : field (operand_in rest) ≡ Err why =
    sym (ap field c.split_operand.ensures.operand) ∙ sym c.field.ensures ∙ c.in_err-found.was in
    let missed = none_listed Print field (8 - (i + 1)) rest why front read in
    let here = ap (λ (n : ℕ). with_front front (listed Print field n rest)) left in
    rw (p.1, p.2) (sym missed ∙ sym here ∙ c.loop-i.invariant.so_far)

pub returns-then-is_end : goal.returns-then-is_end
unfolding fields_in
returns-then-is_end c =
    let s = c.loop-i.invariant in
    let i = c.loop-i.i in
    let front : List (Option Place) = take i c.loop-i.fields in
    let all : front ≡ c.loop-i.fields = take_all i c.loop-i.fields (omega (arith, s.room)) in
    let last : 8 - i ≡ 0 = omega arith in
    let ends = listed_end Print field (8 - i) c.loop-i.rest.now front last (sym c.is_end.ensures ∙ c.if-is_end.true) in
    ap Ok (sym all) ∙ sym ends ∙ s.so_far

pub returns-else-is_end : goal.returns-else-is_end
unfolding fields_in
returns-else-is_end c =
    let s = c.loop-i.invariant in
    let i = c.loop-i.i in
    let front : List (Option Place) = take i c.loop-i.fields in
    let last : 8 - i ≡ 0 = omega arith in
    let more = listed_more Print field (8 - i) c.loop-i.rest.now front last (sym c.is_end.ensures ∙ c.if-is_end.false) in
    sym more ∙ s.so_far

-- One column more: its code is that of the character on tape.
use Rattle.std.proofs.Common.{rules, ◌≡◌, ℕ, ◌+◌, ◌<◌, List, ◌++◌, ◌∷◌, [], length, map, take, get_or, sym, ap, ◌∙◌}
use Rattle.std.proofs.Common.{arith, subst, take_all}
use Rattle.std.proofs.lemmas.Grind.{get_or_default_zero}
use Rattle.std.proofs.lemmas.List.{length-set, map-append, take_more, take_more_set}
use Rattle.program_convert.specs.Parity.{taped}
use Rattle.program_convert.proofs.ReelTextLemmas.{range-set}
use Rattle.program_convert.proofs.reels.card_record.Goals as goal

pub loop-i-preserved : goal.loop-i-preserved
loop-i-preserved c =
    let s = c.loop-i.invariant in
    let i = c.loop-i.i in
    let codes : List ℕ = c.loop-i.codes in
    let code = c.code.result in
    let chars : List ℕ = c.args.card.0 in
    let whole : length chars ≡ 80 = search rules in
    let few : i < length chars = omega (arith, whole, c.loop-i-test.true) in
    let is : code ≡ taped c.args.parity (get_or chars i 0) =
    c.code.ensures.value ∙ c.taped.ensures
    ∙ ap (taped c.args.parity) (get_or_default_zero chars i c.index-card-i.result few) in
    let within : i < length codes = omega (arith, s.len, c.loop-i-test.true) in
    let more : map (taped c.args.parity) (take (i + 1) chars)
    ≡ map (taped c.args.parity) (take i chars) ++ taped c.args.parity (get_or chars i 0) ∷ [] =
    ap (map (taped c.args.parity)) (take_more chars i 0 few)
    ∙ map-append (taped c.args.parity) (take i chars) (get_or chars i 0 ∷ []) in
    record {
      len = length-set codes i code ∙ s.len;
      so_far = take_more_set codes i code within
          ∙ ap (λ (front : List ℕ). front ++ code ∷ []) s.so_far
          ∙ ap (λ (last : ℕ). map (taped c.args.parity) (take i chars) ++ last ∷ []) is
          ∙ sym more;
      range = range-set codes i code c.code.ensures.range s.range;
    }

pub returns-clause-value : goal.returns-clause-value
returns-clause-value c =
    let s = c.loop-i.invariant in
    let codes : List ℕ = c.loop-i.codes in
    let chars : List ℕ = c.args.card.0 in
    let whole : length chars ≡ 80 = search rules in
    let all : c.loop-i.i ≡ 80 = omega (arith, c.loop-i-test.false, c.loop-i.auto.i-end) in
    sym (take_all 80 codes (omega (arith, s.len)))
    ∙ subst (λ (n : ℕ). take n codes ≡ map (taped c.args.parity) (take n chars)) all s.so_far
    ∙ ap (map (taped c.args.parity)) (take_all 80 chars (omega (arith, whole)))

-- One column more, or all of them.
use Rattle.std.proofs.Common.{◌≡◌, ℕ, ◌+◌, ◌-◌, ◌<◌, List, ◌++◌, ◌∷◌, [], length, take, drop, get_or, map, replicate}
use Rattle.std.proofs.Common.{sym, ◌∙◌, ap, arith, subst, take_all}
use Rattle.std.proofs.lemmas.Grind.{drop_more_same}
use Rattle.std.proofs.lemmas.List.{drop-replicate, drop-set-lt, length-set, map-append, take-append-drop, take_more}
use Rattle.std.proofs.lemmas.List.{take_more_set}
use Rattle.devices_1401.specs.declared.card.Card.{Card}
use Rattle.program_convert.specs.Parity.{read_as}
use Rattle.program_convert.proofs.decks.record_card.Goals as goal

pub loop-i-preserved : goal.loop-i-preserved
loop-i-preserved c =
    let s = c.loop-i.invariant in
    let chars : List ℕ = c.args.tape_record.now in
    let i = c.loop-i.i in
    let columns = c.loop-i.columns in
    let less : i < length chars = omega (arith, c.loop-i-test.true, c.len-i-end.ensures.value) in
    let within : i < length columns = omega (arith, less, s.room, c.requires) in
    let is : c.read_as.result ≡ read_as c.args.parity (get_or chars i 0) =
    c.read_as.ensures ∙ ap (λ (n : ℕ). read_as c.args.parity n) c.char.ensures in
    let more : map (read_as c.args.parity) (take (i + 1) chars)
    ≡ map (read_as c.args.parity) (take i chars) ++ read_as c.args.parity (get_or chars i 0) ∷ [] =
    ap (map (read_as c.args.parity)) (take_more chars i 0 less)
    ∙ map-append (read_as c.args.parity) (take i chars) (get_or chars i 0 ∷ []) in
    record {
      so_far = take_more_set columns i c.read_as.result within
          ∙ ap (λ (front : List ℕ). front ++ c.read_as.result ∷ []) s.so_far
          ∙ ap (λ (n : ℕ). map (read_as c.args.parity) (take i chars) ++ n ∷ []) is
          ∙ sym more;
      blank = drop-set-lt (i + 1) columns i c.read_as.result (omega arith)
          ∙ drop_more_same columns (replicate 80 0) i s.blank;
      room = length-set columns i c.read_as.result ∙ s.room;
    }

pub returns : goal.returns
returns c =
    let s = c.loop-i.invariant in
    let chars : List ℕ = c.args.tape_record.now in
    let n = length chars in
    let columns = c.loop-i.columns in
    let all : c.loop-i.i ≡ n = omega (arith, c.loop-i-test.false, c.loop-i.auto.i-end, c.len-i-end.ensures.value) in
    let front : take n columns ≡ map (read_as c.args.parity) chars =
    subst (λ (k : ℕ). take k columns ≡ map (read_as c.args.parity) (take k chars)) all s.so_far
    ∙ ap (map (read_as c.args.parity)) (take_all n chars (omega arith)) in
    let rest : drop n columns ≡ replicate (80 - n) 0 =
    subst (λ (k : ℕ). drop k columns ≡ drop k (replicate 80 0)) all s.blank ∙ drop-replicate n 80 0 in
    let whole : columns ≡ map (read_as c.args.parity) chars ++ replicate (80 - n) 0 =
    sym (take-append-drop n columns)
    ∙ ap (λ (first : List ℕ). first ++ drop n columns) front
    ∙ ap (λ (blanks : List ℕ). map (read_as c.args.parity) chars ++ blanks) rest in
    ap (λ (all_columns : List ℕ). let card : Card = record { 0 = all_columns } in card) whole

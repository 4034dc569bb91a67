-- Each cell is written after those before it, and there is room for all.
use Rattle.std.proofs.Common.{◌≡◌, ℕ, ◌+◌, List, ◌++◌, arith, ap, sym, ◌∙◌, length, take, drop}
use Rattle.bcd_1401.specs.declared.cell.Cell.{Cell}
use Rattle.core_1401.specs.Storage.{cell_at}
use Rattle.machine_tapes.specs.Reel.{Reel, after_write, room_in}
use Rattle.machine_tapes.specs.TapeText.{text_of, text_of_cell}
use Rattle.machine_tapes.proofs.WriteLemmas.{room_after, text_first, text_more, text_within}
use Rattle.machine_tapes.proofs.writing.put_text.Goals as goal

pub begin_text-requires : goal.begin_text-requires
begin_text-requires c =
    let text : Cell → List ℕ = text_of_cell c.args.mode c.args.is_odd in
    let here : c.args.at + 0 ≡ c.args.at = omega arith in
    let within =
    text_within c.args.mode c.args.is_odd c.args.core.now c.args.at 0 c.args.n c.requires.some c.requires.inside in
    let first = ap (λ (q : ℕ). length (text (cell_at c.args.core.now q))) here in
    let got = ap (λ (cell : Cell). length (text cell)) c.get.ensures in
    omega (arith, within, first, got, c.requires.room)

pub loop-i-init : goal.loop-i-init
loop-i-init c =
    let text : Cell → List ℕ = text_of_cell c.args.mode c.args.is_odd in
    c.begin_text.ensures
    ∙ ap (λ (cell : Cell). after_write c.args.reel.now (text cell)) c.get.ensures
    ∙ ap (after_write c.args.reel.now)
    (sym (text_first c.args.mode c.args.is_odd c.args.core.now c.args.at (omega (arith, c.requires.inside))))

pub add_cell-requires-clause-room : goal.add_cell-requires-clause-room
add_cell-requires-clause-room c =
    let text : Cell → List ℕ = text_of_cell c.args.mode c.args.is_odd in
    let so_far : List ℕ = text_of c.args.mode c.args.is_odd (take c.loop-i.i (drop c.args.at c.args.core.now)) in
    let cell : Cell = cell_at c.args.core.now (c.args.at + c.loop-i.i) in
    let within =
    text_within c.args.mode c.args.is_odd c.args.core.now c.args.at c.loop-i.i c.args.n (omega arith) c.requires.inside in
    let room = room_after c.args.reel.now so_far (length (text cell)) (omega (arith, within, c.requires.room)) in
    let got = ap (λ (found : Cell). length (text found)) c.get-in-loop-i.ensures in
    omega (arith, room, got, ap room_in c.loop-i.invariant)

pub add_cell-requires-clause-passed : goal.add_cell-requires-clause-passed
add_cell-requires-clause-passed c =
    omega (arith, ap (λ (reel : Reel). length reel.passed) c.loop-i.invariant)

pub add_cell-requires-clause-ahead : goal.add_cell-requires-clause-ahead
add_cell-requires-clause-ahead c = ap (λ (reel : Reel). reel.ahead) c.loop-i.invariant

pub loop-i-preserved : goal.loop-i-preserved
loop-i-preserved c =
    let text : Cell → List ℕ = text_of_cell c.args.mode c.args.is_odd in
    let so_far : List ℕ = text_of c.args.mode c.args.is_odd (take c.loop-i.i (drop c.args.at c.args.core.now)) in
    c.add_cell.ensures c.args.reel.now so_far c.loop-i.invariant
    ∙ ap (λ (cell : Cell). after_write c.args.reel.now (so_far ++ text cell)) c.get-in-loop-i.ensures
    ∙ ap (after_write c.args.reel.now)
    (sym (text_more c.args.mode c.args.is_odd c.args.core.now c.args.at c.loop-i.i (omega (arith, c.requires.inside))))

pub returns : goal.returns
returns c =
    let all : c.loop-i.i ≡ c.args.n = omega arith in
    c.loop-i.invariant
    ∙ ap (λ (n : ℕ). after_write c.args.reel.now
    (text_of c.args.mode c.args.is_odd (take n (drop c.args.at c.args.core.now)))) all

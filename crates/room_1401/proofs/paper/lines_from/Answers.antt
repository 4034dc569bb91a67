-- One line more is copied, and at the end all that are shown.
use Rattle.std.proofs.Common.{◌≡◌, ◌-◌, min, length, length-set, rules, arith, sym, ap, ◌∙◌, take, ℕ}
use Rattle.room_1401.specs.Paper.{lines_from, window_lines}
use Rattle.room_1401.proofs.PaperLemmas.{all_shown, line_more}
use Rattle.room_1401.proofs.paper.lines_from.Goals as goal

pub loop-i-preserved : goal.loop-i-preserved
loop-i-preserved c =
    let room = c.loop-i.invariant.room in
    record {
      lines = line_more c.loop-i.lines c.args.devices.now.paper c.from-at.result c.loop-i.i c.in-Some.line
          (omega (arith, room)) (sym c.in-Some.ensures) c.loop-i.invariant.lines;
      room = search (rules, length-set);
    }

pub returns : goal.returns
returns c =
    let paper = c.args.devices.now.paper in
    let lines = c.loop-i.lines in
    let all : c.loop-i.i ≡ c.min-len.result = omega arith in
    let count : c.min-len.result ≡ min (length paper - c.from-at.result) window_lines = omega arith in
    ap (λ (n : ℕ). take n lines) (sym all)
    ∙ c.loop-i.invariant.lines
    ∙ all_shown paper c.from-at.result c.loop-i.i (all ∙ count)
    ∙ ap (λ (at : ℕ). lines_from paper at) c.from-at.ensures

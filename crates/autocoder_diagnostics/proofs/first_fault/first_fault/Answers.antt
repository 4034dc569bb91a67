-- One line more is clean, or the source ends without END.
use Rattle.std.proofs.Common.{◌<◌, length, ap, subst, ◌∙◌, arith}
use Rattle.std.proofs.lemmas.Grind.{common_steps}
use Rattle.autocoder_symbols.specs.View.{symbols_view}
use Rattle.autocoder_diagnostics.specs.FirstFault.{place_beyond, IsClean}
use Rattle.autocoder_diagnostics.proofs.FirstFaultLemmas.{next_place_is, next_clean, no_end}
use Rattle.autocoder_diagnostics.proofs.first_fault.first_fault.Goals as goal

pub loop-i-preserved : goal.loop-i-preserved
loop-i-preserved c =
    let low : c.loop-i.i < length c.args.lines.now = omega (arith, c.loop-i-test.true, c.len-i-end.ensures) in
    record {
      value = grind (arith, common_steps);
      place = next_place_is c.args.lines.now c.loop-i.i c.line.result c.loop-i.at c.beyond-at.result
          low c.loop-i.invariant.place
          (c.beyond-at.ensures ∙ ap (place_beyond c.loop-i.at) c.line.ensures.is);
      within = omega (arith, low);
      clean = next_clean (symbols_view c.args.symbols.now) c.args.lines.now c.loop-i.i c.line.result
          c.loop-i.at c.loop-i.invariant.clean low c.loop-i.invariant.place
          (subst (IsClean (symbols_view c.args.symbols.now) c.loop-i.at) c.line.ensures.is c.in_default.ensures.clean);
    }

pub returns-else-at-clause-first : goal.returns-else-at-clause-first
returns-else-at-clause-first c =
    no_end (symbols_view c.args.symbols.now) c.args.lines.now c.loop-i.i c.loop-i.at
    c.loop-i.invariant.clean (omega (arith, c.loop-i-test.false, c.len-i-end.ensures))
    c.loop-i.invariant.within c.loop-i.invariant.place c.if-at.false

-- One code more.
use Rattle.std.proofs.Common.{◌∙◌, arith}
use Rattle.std.proofs.lemmas.Grind.{common_steps}
use Rattle.autocoder_placing.proofs.CharactersLemmas.{one_code_more}
use Rattle.autocoder_placing.proofs.characters.codes_of.Goals as goal

pub loop-i-preserved : goal.loop-i-preserved
loop-i-preserved c = record {
  codes = one_code_more c.loop-i.codes c.args.graphics.now c.loop-i.i c.code.result (grind arith)
      (omega (arith, c.told-graphics, c.loop-i-test.true)) c.loop-i.invariant.codes
      (c.code.ensures.value ∙ c.char_of.ensures);
  room = grind (arith, common_steps);
}

-- One character more after those so far.
use Rattle.std.proofs.Common.{◌≡◌, ◌+◌, [], ◌∷◌, ◌++◌, take, arith, refl, sym, ap, ◌∙◌}
use Rattle.std.proofs.lemmas.Grind.{common_steps}
use Rattle.std.proofs.lemmas.List.{take_more, append-nil}
use Rattle.machine_notation.specs.Characters.{chars_of, graphics_of}
use Rattle.machine_notation.proofs.CharacterLemmas.{graphics_of-push, graphics_again-push}
use Rattle.machine_notation.proofs.characters.put_each.Goals as goal

pub loop-char-init : goal.loop-char-init
unfolding chars_of graphics_of
loop-char-init c = record { text = sym (append-nil c.args.text.now.items); again = refl }

pub loop-char-preserved : goal.loop-char-preserved
loop-char-preserved c =
    let chars = c.args.chars.now in
    let char = c.char-item.result in
    let i = c.loop-char.char-index in
    let more : take (i + 1) chars ≡ take i chars ++ char ∷ [] =
    take_more chars i char (omega arith) ∙ ap (λ each. take i chars ++ each ∷ []) (sym c.char-item.is) in
    record {
      text = rw (more, graphics_of-push (take i chars) char) (grind (arith, common_steps));
      again = rw more (graphics_again-push (take i chars) char c.loop-char.invariant.again c.graphic.ensures.own);
    }

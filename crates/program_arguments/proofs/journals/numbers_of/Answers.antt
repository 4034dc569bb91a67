-- The words are the parts between the commas.
use Rattle.std.proofs.Common.{rules, ◌≡◌, ◌∷◌, ◌++◌, [], arith, map, lit<, subst, sym, eqb}
use Rattle.std.proofs.lemmas.Iterator.{YieldsList}
use Rattle.std.proofs.lemmas.Iterator.Consumers.{YieldsList-end}
use Rattle.std.specs.List.{slice_split}
use Rattle.std.specs.Str.Iter.{split_steps}
use Rattle.std.specs.Str.Pattern.{FindsChar}
use Rattle.std.proofs.lemmas.Iterator.Splits.{YieldsList-from_str_split}
use Rattle.std.proofs.lemmas.Grind.{common_steps}
use Rattle.program_arguments.specs.Options.{AreReadAs}
use Rattle.program_arguments.proofs.NumberLemmas.{number_more, numbers_are}
use Rattle.program_arguments.proofs.journals.numbers_of.Goals as goal

pub loop-word-preserved-then-are_kept : goal.loop-word-preserved-then-are_kept
loop-word-preserved-then-are_kept c = λ fine kept.
    let is : c.push.new.self.items ≡ c.loop-word.numbers.items ++ c.in-Ok.number ∷ [] = grind (arith, common_steps) in
    let read = c.in-Ok.ensures.value.0 in
    let more = number_more c.loop-word.yielded c.in-Some.word c.loop-word.numbers.items c.in-Ok.number
    (c.loop-word.invariant fine c.if-are_kept.true) (read.0.0, read.0.1, read.1) in
    subst (AreReadAs (map (λ word. word.now) (c.loop-word.yielded ++ c.in-Some.word ∷ []))) (sym is) more

pub returns : goal.returns
returns c = λ well.
    let keep = c.keep.ensures well in
    let check = c.check.ensures keep.0 in
    let same : c.into_iter-word-iterator.result ≡ c.split-word-items.result = search rules in
    let parts = subst (λ items. YieldsList (split_steps FindsChar (λ a b. b ≡ a)) (λ word. word.now) items
    (slice_split (λ b. eqb b 44) c.args.text.now)) (sym same)
    (YieldsList-from_str_split 44 c.args.text.now (lit< tt) c.split-word-items.ensures.text
    c.split-word-items.ensures.has_more c.split-word-items.ensures.pattern) in
    let end = YieldsList-end parts c.loop-word.yielded _ c.loop-word.yielded_by _ _ c.in-None.is c.next.ensures.steps in (
      check.0,
      numbers_are c.args.text.now c.loop-word.numbers.items (λ none. absurd (grind (arith, common_steps)))
          (subst (λ words. AreReadAs words c.loop-word.numbers.items) end.0 (c.loop-word.invariant check.1 keep.1)),
    )

-- It is one of them if it has a place among them.
use Rattle.std.proofs.Common.{◌≡◌, List, position, is_some, sym, ap, ◌∙◌}
use Rattle.std.specs.List.{list_any}
use Rattle.std.specs.Prelude.{take}
use Rattle.autocoder_statements.specs.declared.literal.Literal.{Literal}
use Rattle.autocoder_placing.specs.UsedLiterals.{Used, is_one}
use Rattle.autocoder_placing.proofs.FrontLemmas.{some_is}
use Rattle.autocoder_placing.proofs.used_literals.UsedLiterals.contains.Goals as goal

pub returns-clause-ok : goal.returns-clause-ok
returns-clause-ok c =
    let front = c.as_front.result in
    let keys = take front.used front.table.now.literals.keys in
    let all : c.args.self.now.spellings ≡ keys = ap (λ (used : Used). used.spellings) (sym c.as_front.ensures) in
    c.is_some.ensures ∙ ap is_some c.index_of.ensures
    ∙ ap (λ (literal : Literal). is_some (position (is_one literal) keys)) c.in_ok-kept.ensures
    ∙ some_is (is_one c.args.literal) keys
    ∙ ap (λ (keys : List Literal). list_any (is_one c.args.literal) keys) (sym all)

-- The card has all its columns.
use Rattle.std.proofs.Common.{rules, ◌≡◌, ℕ, List, [], ◌∷◌, ◌++◌, length, ◌∙◌, ap, refl, arith}
use Rattle.job_runner.proofs.CardListLemmas.{alone, alone_are}
use Rattle.job_runner.proofs.card_list.CardList.of_card.Goals as goal

pub invariant_of-result : goal.invariant_of-result
invariant_of-result c =
    let card = c.args.card.now in
    let full : length card.0 ≡ 80 = search rules in
    let lens : c.push.new.self.items ≡ 80 ∷ [] =
    c.in_ok-push.ensures.items ∙ ap (λ (before : List ℕ). before ++ 80 ∷ []) c.new-lens.ensures.items in
    let chars : c.extend_from_slice.new.self.items ≡ card.0 =
    c.in_ok-extend_from_slice.ensures.items
    ∙ ap (λ (before : List ℕ). before ++ card.0) c.new-chars.ensures.items in
    rw (lens, chars) (alone_are card full, (omega arith, refl))

pub returns : goal.returns
returns c =
    let card = c.args.card.now in
    let full : length card.0 ≡ 80 = search rules in
    let lens : c.push.new.self.items ≡ 80 ∷ [] =
    c.in_ok-push.ensures.items ∙ ap (λ (before : List ℕ). before ++ 80 ∷ []) c.new-lens.ensures.items in
    let chars : c.extend_from_slice.new.self.items ≡ card.0 =
    c.in_ok-extend_from_slice.ensures.items
    ∙ ap (λ (before : List ℕ). before ++ card.0) c.new-chars.ensures.items in
    rw (lens, chars) (alone card full)

-- A label that has lines has one more; one that has none has its first.
use Rattle.std.proofs.Common.{ℕ, List, [], ◌∷◌, ◌++◌, ◌∙◌, ap, subst, refl, cond, IsSome, Option, Some, Vec, Global}
use Rattle.std.specs.Option.{option_map_or}
use Rattle.indexmap.specs.IndexMap.{get}
use Rattle.autocoder_symbols.specs.Symbols.{same_label}
use Rattle.autocoder_listing.proofs.CrossReferenceLemmas.{used}
use Rattle.autocoder_listing.proofs.cross_reference.note_use.Goals as goal

-- the lines that were found, with one more
abbrev with_one_more : ℕ → Option (Vec ℕ Global) → List ℕ
with_one_more number found = option_map_or (λ (noted : Vec ℕ Global). noted.items) found [] ++ number ∷ []

pub returns-in-Some-clause-noted : goal.returns-in-Some-clause-noted
returns-in-Some-clause-noted c =
    used c.args.uses.now (c.get_mut.follows.lender c.push.new.self) c.args.label c.args.number c.push.new.self
    ((c.get_mut.follows.holds c.push.new.self).3 (subst IsSome c.in-Some.ensures.value refl)).0
    (c.in_ok-push.ensures.items ∙ ap (with_one_more c.args.number) c.in-Some.ensures.value)

pub returns-clause-noted : goal.returns-clause-noted
returns-clause-noted c =
    used c.args.uses.now c.insert.new.self c.args.label c.args.number c.push-2.new.self
    (λ other. c.in_ok-insert.ensures.updates.0 other
    ∙ ap (λ map. cond (same_label c.args.label other) (Some c.push-2.new.self) (get same_label map other))
    c.get_mut.follows.holds-at-none)
    (c.in_ok-push-2.ensures.items ∙ ap (λ lines. lines ++ c.args.number ∷ []) c.new-lines.ensures.items
    ∙ ap (with_one_more c.args.number) c.in_default.ensures.value)

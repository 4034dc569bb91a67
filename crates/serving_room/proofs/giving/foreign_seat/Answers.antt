-- What is left begins with an entry of one of these seats, or of another.
use Rattle.std.proofs.Common.{◌≡◌, ◌+◌, ◌∷◌, ◌∙◌, drop, Some, None, refl, sym, ap}
use Rattle.std.proofs.lemmas.List.{drop_all, drop_more}
use Rattle.room_alone.specs.declared.entry.Entry.{Entry}
use Rattle.serving_room.specs.Giving.{foreign_in}
use Rattle.serving_room.proofs.GivingLemmas.{above_first, below_first, foreign_none, own_first}
use Rattle.serving_room.proofs.giving.foreign_seat.Goals.{then-entry-least-via-then-entry-least}
use Rattle.serving_room.proofs.giving.foreign_seat.Goals.{then-entry-least-via-else-entry-least+then-entry-most}
use Rattle.serving_room.proofs.giving.foreign_seat.Goals as goal

pub loop-entry-init : goal.loop-entry-init
loop-entry-init c = refl

pub returns-then-entry-least-clause-value : goal.returns-then-entry-least-clause-value
returns-then-entry-least-clause-value c =
    let least = c.args.least in
    let most = c.args.most in
    let entries = c.args.entries.now in
    let entry = c.entry-item.result in
    let rest = drop (c.loop-entry.entry-index + 1) entries in
    let here : foreign_in least most (entry ∷ rest) ≡ foreign_in least most entries =
    ap (λ (first : Entry). foreign_in least most (first ∷ rest)) c.entry-item.is
    ∙ sym (ap (foreign_in least most) (drop_more entries c.loop-entry.entry-index entry c.loop-entry-test.true))
    ∙ c.loop-entry.invariant in
    elim c.then-entry-least.branch [
      | then-entry-least-via-then-entry-least w ↦ sym (below_first least most entry rest w.if-entry-least.true) ∙ here
      | then-entry-least-via-else-entry-least+then-entry-most w ↦
          sym (above_first least most entry rest w.if-entry-most.true) ∙ here
    ]

pub loop-entry-preserved : goal.loop-entry-preserved
loop-entry-preserved c =
    let least = c.args.least in
    let most = c.args.most in
    let entries = c.args.entries.now in
    let entry = c.entry-item.result in
    let rest = drop (c.loop-entry.entry-index + 1) entries in
    sym (own_first least most entry rest c.if-entry-least.false c.if-entry-most.false)
    ∙ ap (λ (first : Entry). foreign_in least most (first ∷ rest)) c.entry-item.is
    ∙ sym (ap (foreign_in least most) (drop_more entries c.loop-entry.entry-index entry c.loop-entry-test.true))
    ∙ c.loop-entry.invariant

pub returns-clause-value : goal.returns-clause-value
returns-clause-value c =
    sym (ap (foreign_in c.args.least c.args.most) (drop_all c.loop-entry.entry-index c.args.entries.now c.loop-entry-test.false))
    ∙ c.loop-entry.invariant

pub returns-then-entry-least-clause-none : goal.returns-then-entry-least-clause-none
returns-then-entry-least-clause-none c =
    foreign_none c.args.least c.args.most c.args.entries.now (Some c.entry-item.result.seat)
    (returns-then-entry-least-clause-value c)

pub returns-clause-none : goal.returns-clause-none
returns-clause-none c = foreign_none c.args.least c.args.most c.args.entries.now None (returns-clause-value c)

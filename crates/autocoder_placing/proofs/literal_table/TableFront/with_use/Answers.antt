-- A literal that is among the first is used already; the next of the table goes after them.
use Rattle.std.proofs.Common.{◌≡◌, ◌+◌, Some, false, slice_get, refl, sym, ap, ◌∙◌, arith}
use Rattle.std.specs.List.{list_any}
use Rattle.std.specs.Prelude.{take}
use Rattle.autocoder_placing.specs.UsedLiterals.{is_one}
use Rattle.autocoder_placing.proofs.FrontLemmas.{any_beyond, any_within, next_in}
use Rattle.autocoder_placing.proofs.literal_table.TableFront.with_use.Goals as goal

pub returns-then-i-self : goal.returns-then-i-self
returns-then-i-self c =
    let some = any_within (is_one c.args.literal.now) c.args.self.table.now.literals.keys c.args.self.used c.in_ok-i.i
    (sym c.in_ok-i.ensures.index) c.if-i-self.true in
    rw some refl

pub returns-in_ok-checked_add : goal.returns-in_ok-checked_add
returns-in_ok-checked_add c =
    let keys = c.args.self.table.now.literals.keys in
    let at : c.in_ok-i.i ≡ c.args.self.used = c.if-i-self-2.true in
    let more : c.in_ok-checked_add.field-0 ≡ c.args.self.used + 1 =
    c.in_ok-checked_add.ensures.1 ∙ ap (λ n. n + 1) at in
    let none : list_any (is_one c.args.literal.now) (take c.args.self.used keys) ≡ false =
    any_beyond (is_one c.args.literal.now) keys c.args.self.used c.in_ok-i.i (sym c.in_ok-i.ensures.index)
    (omega (arith, at)) in
    let there : slice_get keys c.args.self.used ≡ Some c.args.literal.now =
    ap (slice_get keys) (sym at) ∙ c.in_ok-i.ensures.stored
    ∙ ap Some (sym c.literal.ensures ∙ c.are_alike.ensures c.if-are_alike.true ∙ c.literal-then-i-self-2.ensures) in
    rw (more, none, next_in keys c.args.self.used c.args.literal.now there) refl

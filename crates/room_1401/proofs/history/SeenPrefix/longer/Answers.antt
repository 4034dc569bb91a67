-- Both fronts are beginnings of one list, so the shorter begins the longer.
use Rattle.std.proofs.Common.{◌≡◌, ◌≤◌, ◌<◌, Bool, true, false, ltb, refl, ap, subst, sym, ◌∙◌, arith, length, List, []}
use Rattle.std.specs.Prelude.{if◌then◌else◌}
use Rattle.std.proofs.lemmas.List.{append-nil}
use Rattle.std.proofs.lemmas.Bool.Decides.{nat_tests}
use mathlib.Core.List.{IsPrefix}
use Rattle.room_alone.specs.declared.entry.SeatedCommand.{SeatedCommand}
use Rattle.room_1401.proofs.PrefixLemmas.{prefix_shorter}
use Rattle.room_1401.proofs.history.SeenPrefix.longer.Goals as goal

longer_is : (test : Bool) (one two : List SeatedCommand) → ltb (length one) (length two) ≡ test
    → length one < length two → two ≡ (if test then two else one)
longer_is true one two is less = refl
longer_is false one two is less =
    let lower : length two ≤ length one = grind (arith, nat_tests) in absurd (omega arith)

first_is : (test : Bool) (one two : List SeatedCommand) → ltb (length one) (length two) ≡ test
    → length two ≤ length one → one ≡ (if test then two else one)
first_is true one two is le =
    let less : length one < length two = grind (arith, nat_tests) in absurd (omega arith)
first_is false one two is le = refl

pub returns-then-self-other-clause-this : goal.returns-then-self-other-clause-this
returns-then-self-other-clause-this g c =
    let one = c.self.inside.seen.log in
    let two = c.other.inside.seen.log in
    let both = c.learn.new.self.log in
    let again = ap (λ seen. seen.log) c.again-both.ensures in
    let this : IsPrefix one both = subst (λ (l : List SeatedCommand). IsPrefix l both) again c.learn.ensures.2 in
    let less : length one ≤ length two = omega (arith, c.self.invariant.0, c.other.invariant.0) in
    rw (c.again.ensures, ← c.self.view_is, ← c.other.view_is)
    (prefix_shorter one two both this c.learn.ensures.3 less)

pub returns-clause-that : goal.returns-clause-that
returns-clause-that g c =
    let one = c.self.inside.seen.log in
    let two = c.other.inside.seen.log in
    let both = c.learn.new.self.log in
    let again = ap (λ seen. seen.log) c.again-both.ensures in
    let this : IsPrefix one both = subst (λ (l : List SeatedCommand). IsPrefix l both) again c.learn.ensures.2 in
    let less : length two ≤ length one = omega (arith, c.self.invariant.0, c.other.invariant.0) in
    rw (c.again-else-self-other.ensures, ← c.self.view_is, ← c.other.view_is)
    (prefix_shorter two one both c.learn.ensures.3 this less)

pub returns-then-self-other-clause-is : goal.returns-then-self-other-clause-is
returns-then-self-other-clause-is g c =
    c.again.ensures
    ∙ longer_is (ltb (length c.args.self.now) (length c.args.other.now)) c.args.self.now c.args.other.now refl
    (omega (arith, c.self.invariant.0, c.other.invariant.0, ap length c.self.view_is, ap length c.other.view_is))

pub returns-then-self-other-clause-that : goal.returns-then-self-other-clause-that
returns-then-self-other-clause-that g c = ([], append-nil c.args.other.now ∙ sym c.again.ensures)

pub returns-clause-is : goal.returns-clause-is
returns-clause-is g c =
    c.again-else-self-other.ensures
    ∙ first_is (ltb (length c.args.self.now) (length c.args.other.now)) c.args.self.now c.args.other.now refl
    (omega (arith, c.self.invariant.0, c.other.invariant.0, ap length c.self.view_is, ap length c.other.view_is))

pub returns-clause-this : goal.returns-clause-this
returns-clause-this g c = ([], append-nil c.args.self.now ∙ sym c.again-else-self-other.ensures)

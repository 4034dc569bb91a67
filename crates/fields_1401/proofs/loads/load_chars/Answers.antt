-- The cells that were loaded are the field at b then.
use Rattle.std.proofs.Common.{rules, ◌≡◌, ◌∙◌, ap, sym, subst}
use Rattle.core_1401.specs.Field.{field_at}
use Rattle.core_1401.specs.Storage.{Storage}
use Rattle.fields_1401.specs.Across.{IsSameBeside}
use Rattle.fields_1401.specs.Outcome.{below_by}
use Rattle.fields_1401.specs.declared.done.Done.{Done}
use Rattle.fields_1401.proofs.AcrossLemmas.{same_beside}
use Rattle.fields_1401.proofs.LoadLemmas.{load_brings_the_field, loaded_outside}
use Rattle.fields_1401.proofs.loads.load_chars.Goals as goal

pub returns-clause-field : goal.returns-clause-field
returns-clause-field c =
    ap (λ core. field_at core c.args.b) c.load_places.ensures.loaded
    ∙ load_brings_the_field c.args.core.now c.args.a c.args.b c.in-Some.n c.in-Some.ensures.in_core (search rules)
    (search rules) c.in-Some.ensures.value

pub returns-clause-beside : goal.returns-clause-beside
returns-clause-beside c =
    let old : Storage = c.args.core.now in
    let new : Storage = c.load_places.new.core in
    let is : c.registers.result.b ≡ below_by c.args.b c.in-Some.n =
    ap (λ (done : Done). done.b) c.registers.ensures ∙ c.below_field-2.ensures.value in
    subst (λ below. IsSameBeside old new c.args.b below) (sym is)
    (same_beside old new c.args.b c.in-Some.n
    (loaded_outside old new c.args.a c.args.b c.in-Some.n c.load_places.ensures.loaded)
    c.in-Some.ensures.some (search rules) c.requires.b)

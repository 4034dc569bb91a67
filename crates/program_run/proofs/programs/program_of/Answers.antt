-- What a source stands for.
use Rattle.std.proofs.Common.{◌≡◌, ℕ, Ok, refl, subst}
use Rattle.autocoder_1401.specs.Assembly.{assembly_in, with_listing}
use Rattle.program_run.proofs.programs.program_of.Goals as goal

pub returns-in-Ok-clause-source : goal.returns-in-Ok-clause-source
returns-in-Ok-clause-source c = (
  with_listing c.args.language c.args.text.now c.in-Ok.image,
  subst (λ (size : ℕ). assembly_in c.args.language size c.args.text.now
      ≡ Ok (with_listing c.args.language c.args.text.now c.in-Ok.image))
      c.size_for.ensures.value c.in-Ok.ensures.exact,
  refl,
)

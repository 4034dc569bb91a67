-- It is called with what was read.
use Rattle.std.proofs.Common.{◌≡◌, ◌∙◌, List, ℕ, Some, ap, refl, rules, string_bytes, subst, sym}
use Rattle.clap.specs.Words.{found_of}
use Rattle.machine_tables.specs.declared.features.Features.{Features}
use Rattle.program_arguments.specs.declared.call.MountedReel.{MountedReel}
use Rattle.program_arguments.specs.Features.{features_in}
use Rattle.program_arguments.specs.Mounting.{AreReelsIn, IsStartIn, fitted_for, program_name}
use Rattle.program_arguments.proofs.MountLemmas.{loads}
use Rattle.program_arguments.proofs.running.run_call.Goals as goal

pub returns : goal.returns
returns c = λ whole.
    let image = c.name-5.ensures whole in
    let trace = c.name-4.ensures image.0 in
    let paper = c.name-3.ensures trace.0 in
    let punch = c.name-2.ensures paper.0 in
    let cards = c.name.ensures punch.0 in
    let file = c.own-file.ensures cards.0 in
    let reels = c.reels_in-reels.ensures file.0 in
    let features = c.features_in-features.ensures reels.0 in
    let switches = c.switches_in-switches.ensures features.0 in
    let found = found_of c.args.matches.now in
    let name = c.args.file.now in
    let start = c.start_in-start.result in
    let same = c.as_slice-mounted.ensures.value in
    let are = subst (λ (each : List MountedReel). AreReelsIn found each) (sym same) reels.1 in
    let begins = c.start_in-start.ensures are in
    let begun = ap (λ (text : List ℕ). Some text) file.1
    ∙ sym (c.program_file.ensures (loads found c.as_slice-mounted.result.now start are begins)) in (
      switches.0,
      (
        _,
        refl,
        record {
          reels = reels.1;
          start = subst (λ (each : List MountedReel). IsStartIn found each start) same begins;
          file = subst (λ (each : List MountedReel). Some (string_bytes c.own-file.result) ≡ program_name name each start)
              same begun;
          cards = cards.1;
          punch = punch.1;
          paper = paper.1;
          trace = trace.1;
          image = image.1;
          language = search rules;
          graphics = search rules;
          source = search rules;
          punched = search rules;
          size = search rules;
          limit = search rules;
          switches = switches.1;
          features = subst
              (λ (each : List MountedReel). c.fitted_for-features.result ≡ fitted_for each (features_in found)) same
              (c.fitted_for-features.ensures
              ∙ ap (λ (each : Features). fitted_for c.as_slice-mounted.result.now each) features.1);
        },
      ),
    )

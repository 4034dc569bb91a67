-- With the blank for each blank, characters stay.
use Rattle.std.proofs.Common.{ℕ, List, is_ok, ap, ◌∙◌}
use Rattle.std.specs.Prelude.{if◌then◌else◌}
use Rattle.machine_tapes.specs.Reel.{after_write}
use Rattle.machine_tapes.proofs.BlockLemmas.{same_blank}
use Rattle.machine_tapes.proofs.reel.Reel.write_record.Goals as goal

pub returns-clause-reel : goal.returns-clause-reel
returns-clause-reel c =
    c.write_with_blank.ensures.reel
    ∙ ap (λ (cs : List ℕ). if is_ok c.write_with_blank.result then after_write c.args.self.now cs else c.args.self.now)
    (same_blank c.args.characters.now)

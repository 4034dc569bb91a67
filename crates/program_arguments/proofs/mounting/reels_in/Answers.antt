-- The reel that is loaded comes first, and is that of a file.
use Rattle.std.proofs.Common.{rules, [], List, ℕ, Option, ap, unwrap_or}
use Rattle.clap.specs.Words.{found_of}
use Rattle.program_arguments.proofs.MountLemmas.{reels_are}
use Rattle.program_arguments.proofs.mounting.reels_in.Goals as goal

pub returns-else-not-can_load : goal.returns-else-not-can_load
returns-else-not-can_load c = λ whole.
    let tapes = c.put_tapes.ensures whole in
    let first = c.put_loaded.ensures tapes.0 in (
      first.0,
      reels_are (found_of c.args.matches.now) _ _ c.put_tapes.new.reels.items c.get_str-loaded.ensures
          (ap (λ (values : Option (List (List ℕ))). unwrap_or values []) c.get_strs.ensures)
          (tapes.1 _ first.1) (search rules),
    )

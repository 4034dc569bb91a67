-- By the bytes that hold them.
use Rattle.std.proofs.Common.{◌≡◌, ◌≤◌, ℕ, true, List, subst}
use Rattle.std.specs.List.{list_all}
use Rattle.machine_tapes.specs.Held.{is_record}
use Rattle.machine_tapes.specs.Reel.{characters_in, most_characters}
use Rattle.machine_tapes.proofs.RecordLemmas.{few_characters, good_records}
use Rattle.machine_tapes.proofs.records.TapeRecords.again.Goals as goal

pub returns-clause-good : goal.returns-clause-good
returns-clause-good c =
    subst (λ (all : List (List ℕ)). list_all is_record all ≡ true) c.self.view_is
    (good_records c.self.inside.bytes.now c.self.invariant.1)

pub returns-clause-most : goal.returns-clause-most
returns-clause-most c =
    subst (λ (all : List (List ℕ)). characters_in all ≤ most_characters) c.self.view_is
    (few_characters c.self.inside.bytes.now c.self.invariant.1)

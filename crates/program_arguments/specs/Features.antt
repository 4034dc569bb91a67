-- The features that an option names (own).
use Rattle.std.specs.Prelude.{ℕ, ◌||◌, Bool, List, codes}
use Rattle.std.specs.List.{list_any}
use Rattle.std.specs.Str.{bytes_eq}
use Rattle.clap.specs.declared.parser.matches.Found.{Found}
use Rattle.machine_tables.specs.Features.{feature_name}
use Rattle.machine_tables.specs.declared.features.Feature.{Feature}
use Rattle.machine_tables.specs.declared.features.Feature.TheVariants.{Multiply, MoveRecord, ModifyAddress, BitTest}
use Rattle.machine_tables.specs.declared.features.Feature.TheVariants.{Lengths, ReadPunchRelease, Tapes}
use Rattle.machine_tables.specs.declared.features.Features.{Features}
use Rattle.program_arguments.specs.Options.{values_in}

-- a feature is named by its name, or among all
abbrev pub is_named : List (List ℕ) → Feature → Bool
is_named names feature =
    list_any (λ each. bytes_eq each (codes "all")) names
    || list_any (λ each. bytes_eq each (feature_name feature)) names

abbrev pub features_named : List (List ℕ) → Features
features_named names =
    record {
      multiply = is_named names Multiply;
      move_record = is_named names MoveRecord;
      modify_address = is_named names ModifyAddress;
      bit_test = is_named names BitTest;
      lengths = is_named names Lengths;
      read_punch_release = is_named names ReadPunchRelease;
      tapes = is_named names Tapes;
    }

-- what `--fit` names; without it there are none
abbrev pub features_in : Found → Features
features_in found = features_named (values_in found (codes "fit"))

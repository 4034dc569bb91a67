-- The features that a machine can be fitted with (A24-1403, "Special Features", from memory; their names are own).
use Rattle.std.specs.Prelude.{ℕ, Bool, true, false, List, [], ◌∷◌, Option, codes, find}
use Rattle.std.specs.List.{list_any}
use Rattle.std.specs.Str.{bytes_eq}
use Rattle.machine_tables.specs.declared.features.Feature.{Feature}
use Rattle.machine_tables.specs.declared.features.Feature.TheVariants.{Multiply, MoveRecord, ModifyAddress, BitTest}
use Rattle.machine_tables.specs.declared.features.Feature.TheVariants.{Lengths, ReadPunchRelease, Tapes}
use Rattle.machine_tables.specs.declared.features.Features.{Features}

-- what a machine is fitted with if nothing was asked for
abbrev pub no_features : Features
no_features = record {
  multiply = false;
  move_record = false;
  modify_address = false;
  bit_test = false;
  lengths = false;
  read_punch_release = false;
  tapes = false;
}

-- the features
abbrev pub feature_list : List Feature
feature_list =
    Multiply ∷ MoveRecord ∷ ModifyAddress ∷ BitTest ∷ Lengths ∷ ReadPunchRelease ∷ Tapes ∷ []

-- their names
abbrev pub feature_name : Feature → List ℕ
feature_name Multiply = codes "multiply"
feature_name MoveRecord = codes "move-record"
feature_name ModifyAddress = codes "modify-address"
feature_name BitTest = codes "bit-test"
feature_name Lengths = codes "lengths"
feature_name ReadPunchRelease = codes "read-punch-release"
feature_name Tapes = codes "tapes"

-- the feature of a name, if one has it
unfoldable pub feature_named : List ℕ → Option Feature
feature_named name = find (λ feature. bytes_eq (feature_name feature) name) feature_list

-- whether a feature is among these
abbrev pub has_feature : Features → Feature → Bool
has_feature features Multiply = features.multiply
has_feature features MoveRecord = features.move_record
has_feature features ModifyAddress = features.modify_address
has_feature features BitTest = features.bit_test
has_feature features Lengths = features.lengths
has_feature features ReadPunchRelease = features.read_punch_release
has_feature features Tapes = features.tapes

-- whether there is a feature among these
abbrev pub are_some : Features → Bool
are_some features = list_any (has_feature features) feature_list

-- these features and one more
abbrev pub with_feature : Features → Feature → Features
with_feature features Multiply = record features { multiply = true }
with_feature features MoveRecord = record features { move_record = true }
with_feature features ModifyAddress = record features { modify_address = true }
with_feature features BitTest = record features { bit_test = true }
with_feature features Lengths = record features { lengths = true }
with_feature features ReadPunchRelease = record features { read_punch_release = true }
with_feature features Tapes = record features { tapes = true }

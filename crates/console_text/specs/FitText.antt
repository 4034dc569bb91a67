-- The text of the command that fits a machine, as a journal has it (own): FIT, and the names of the features in
-- capitals. A console has no such word.
use Rattle.std.specs.Prelude.{ℕ, ◌==◌, ◌&&◌, Bool, true, false, if◌then◌else◌, List, [], ◌∷◌, ◌++◌, length, map}
use Rattle.std.specs.Prelude.{Option, None, Some, codes}
use Rattle.std.specs.Char.{to_ascii_uppercase}
use Rattle.std.specs.List.{flat_map}
use Rattle.std.specs.Option.{option_map_or}
use Rattle.std.specs.Str.{bytes_eq}
use Rattle.machine_notation.specs.Prefix.{after_prefix}
use Rattle.machine_tables.specs.Features.{are_some, feature_list, feature_name, has_feature, no_features}
use Rattle.machine_tables.specs.declared.features.Feature.{Feature}
use Rattle.machine_tables.specs.declared.features.Feature.TheVariants.{Multiply, MoveRecord, ModifyAddress, BitTest}
use Rattle.machine_tables.specs.declared.features.Feature.TheVariants.{Lengths, ReadPunchRelease, Tapes}
use Rattle.machine_tables.specs.declared.features.Features.{Features}
use Rattle.console_text.specs.Words.{blank}

-- the name of a feature in capitals, after a blank
abbrev pub feature_word : Feature → List ℕ
feature_word feature = blank ∷ map to_ascii_uppercase (feature_name feature)

-- a feature's word, if it is among these
abbrev pub word_if : Features → Feature → List ℕ
word_if features feature = if has_feature features feature then feature_word feature else []

-- the words of these features, in the order of all of them, or NONE
abbrev pub words_of : Features → List ℕ
words_of features = if are_some features then flat_map (word_if features) feature_list else codes " NONE"

-- FIT, and what fits the machine
unfoldable pub fit_text : Features → List ℕ
fit_text features = codes "FIT" ++ words_of features

-- whether a feature's word is what a text begins with, and what follows it then
abbrev pub named : Feature → List ℕ → Bool × List ℕ
named feature text = option_map_or (λ rest. (true, rest)) (after_prefix (feature_word feature) text) (false, text)

-- the features whose words a text begins with, in the order of all of them, and what follows them
abbrev pub features_at : List ℕ → Features × List ℕ
features_at text =
    let multiply = named Multiply text in
    let move_record = named MoveRecord multiply.1 in
    let modify_address = named ModifyAddress move_record.1 in
    let bit_test = named BitTest modify_address.1 in
    let lengths = named Lengths bit_test.1 in
    let read_punch_release = named ReadPunchRelease lengths.1 in
    let tapes = named Tapes read_punch_release.1 in (
      record {
        multiply = multiply.0;
        move_record = move_record.0;
        modify_address = modify_address.0;
        bit_test = bit_test.0;
        lengths = lengths.0;
        read_punch_release = read_punch_release.0;
        tapes = tapes.0;
      },
      tapes.1,
    )

-- some features, if nothing follows their words
abbrev pub if_ended : Features × List ℕ → Option Features
if_ended found = if are_some found.0 && (length found.1 == 0) then Some found.0 else None

-- the features that follow FIT
unfoldable pub features_in : List ℕ → Option Features
features_in text = if bytes_eq text (codes " NONE") then Some no_features else if_ended (features_at text)

-- the features whose text this is
unfoldable pub fit_of : List ℕ → Option Features
fit_of text = option_map_or features_in (after_prefix (codes "FIT") text) None

-- The texts of commands that fit a machine, computed.
use Rattle.std.proofs.Common.{◌≡◌, ℕ, true, List, [], ◌∷◌, map, replicate, None, Some, Err, refl}
use Rattle.std.specs.Prelude.{codes}
use Rattle.machine_tables.specs.Features.{no_features, with_feature}
use Rattle.machine_tables.specs.declared.features.Feature.TheVariants.{Multiply, MoveRecord, Lengths}
use Rattle.machine_tables.specs.declared.features.Features.{Features}
use Rattle.machine_commands.specs.declared.command.Command.TheVariants.{Fit}
use Rattle.console_text.specs.declared.line.LineFault.TheVariants.{Word}
use Rattle.console_text.specs.CommandText.{command_text}
use Rattle.console_text.specs.ConsoleLine.{Said, said_by, said_in_words, said_with}
use Rattle.console_text.specs.FitText.{features_in, fit_of, fit_text}
use Rattle.console_text.specs.Words.{beyond_word, keyword_of, word_in}

abbrev all_features : Features
all_features = record {
  multiply = true;
  move_record = true;
  modify_address = true;
  bit_test = true;
  lengths = true;
  read_punch_release = true;
  tapes = true;
}

-- these features, and how they are written
abbrev fits : List (Features × List ℕ)
fits =
    (no_features, codes "FIT NONE") ∷
    (with_feature no_features MoveRecord, codes "FIT MOVE-RECORD") ∷
    (with_feature (with_feature no_features Lengths) Multiply, codes "FIT MULTIPLY LENGTHS") ∷
    (all_features, codes "FIT MULTIPLY MOVE-RECORD MODIFY-ADDRESS BIT-TEST LENGTHS READ-PUNCH-RELEASE TAPES") ∷ []

names_have_an_order : map (λ fit. command_text (Fit fit.0)) fits ≡ map (λ fit. fit.1) fits
unfolding command_text fit_text
names_have_an_order = refl

each_text_is_read : map (λ fit. fit_of fit.1) fits ≡ map (λ fit. Some fit.0) fits
unfolding fit_of features_in
each_text_is_read = refl

-- texts that no journal has
abbrev other_spellings : List (List ℕ)
other_spellings =
    codes "" ∷ codes "FIT" ∷ codes "FIT " ∷ codes "FITNONE" ∷ codes " FIT NONE" ∷ codes "FIT NONE " ∷ codes "fit none" ∷
    codes "FIT LENGTHS MULTIPLY" ∷ codes "FIT LENGTHS LENGTHS" ∷ codes "FIT MULTIPLY  LENGTHS" ∷ codes "FIT lengths" ∷
    codes "FIT LENGTHS " ∷ codes "FIT LENGTHS NONE" ∷ codes "FIT NONE LENGTHS" ∷ codes "FIT LENGTHS,BIT-TEST" ∷
    codes "FIT MOVE RECORD" ∷ codes "FIT ALL" ∷ codes "FIT DISKS" ∷ codes "REGS" ∷ []

no_other_spelling_is_read : map fit_of other_spellings ≡ replicate 19 None
unfolding fit_of features_in
no_other_spelling_is_read = refl

-- what a line says, with all that it consists of open
says : List ℕ → Said
unfolding said_by said_in_words said_with word_in beyond_word keyword_of
says line = said_by line

a_console_has_no_such_word : map says (codes "FIT NONE" ∷ codes "FIT MULTIPLY" ∷ []) ≡ Err Word ∷ Err Word ∷ []
unfolding says
a_console_has_no_such_word = refl

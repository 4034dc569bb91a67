-- What a source means that the plain language takes (own).
use Rattle.std.specs.Prelude.{◌≡◌, ℕ, true, List, Ok, IfOk}
use Rattle.autocoder_statements.specs.Language.{cuts_no_text}
use Rattle.autocoder_statements.specs.declared.language.Language.{Language}
use Rattle.autocoder_statements.specs.declared.language.Language.TheVariants.{Plain}
use Rattle.autocoder_symbols.specs.Reading.{lines_in}
use Rattle.autocoder_1401.specs.Assembly.{assembly_in}
use Rattle.autocoder_1401.specs.declared.assembly.Assembly.{Assembly}

-- A source means in a language what it means in the plain one, where this is its image and its listing: each line says
-- the same, and the image and the listing are the same. So are its tables and its warnings, which are those of the
-- lines.
pub record MeansTheSame (language : Language) (size : ℕ) (source : List ℕ) (plain : Assembly) : Type 0 where
  pub lines : lines_in language source ≡ lines_in Plain source
  pub assembly : assembly_in language size source ≡ Ok plain

-- what the plain language takes, and where it cuts no text, means the same in this one
abbrev pub AgreesWithPlain : Language → ℕ → List ℕ → Type 0
AgreesWithPlain language size source =
    cuts_no_text source ≡ true → IfOk (assembly_in Plain size source) (MeansTheSame language size source)

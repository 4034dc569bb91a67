-- How many places core storage has for a source (own).
use Rattle.std.specs.Prelude.{ℕ, Bool, false, not, List, Option, None, Some, unwrap_or}
use Rattle.std.specs.Option.{option_or}
use Rattle.core_1401.specs.Storage.{is_core_size}
use Rattle.autocoder_statements.specs.Context.{size_asked}
use Rattle.autocoder_statements.specs.declared.language.Language.{Language}

-- a size that was named and that no machine has
abbrev pub is_refused : Option ℕ → Bool
is_refused None = false
is_refused (Some size) = not (is_core_size size)

-- the size that is named, or else the one that the source asks for, or else 4,000
abbrev pub size_for : Option ℕ → Language → List ℕ → ℕ
size_for named language source = unwrap_or (option_or named (size_asked language source)) 4000

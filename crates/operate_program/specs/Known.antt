-- The program at which a person looks (own): its source, which line placed what where, and its labels.
use Rattle.std.specs.Prelude.{◌≡◌, ℕ, Bool, List, pos, Option}
use Rattle.std.specs.List.{find}
use Rattle.std.specs.Ordering.{int_eq}
use Rattle.std.specs.Str.{bytes_eq}
use Rattle.autocoder_listing.specs.Rows.{rows_of}
use Rattle.autocoder_listing.specs.SymbolTable.{symbols_in}
use Rattle.autocoder_listing.specs.declared.rows.Row.{Row}
use Rattle.autocoder_listing.specs.declared.symbol_table.Symbol.{Symbol}
use Rattle.autocoder_statements.specs.Nearness.{word_in}
use Rattle.autocoder_statements.specs.declared.language.Language.{Language}
use Rattle.autocoder_symbols.specs.Reading.{lines_in}

-- a source, the rows of its listing that have an address, and its labels in the order of the lines that declare them
pub record Known : Type 0 where
  pub language : Language
  pub text : List ℕ
  pub rows : List Row
  pub symbols : List Symbol

-- the rows and the symbols are those of the source
pub record IsOfSource (language : Language) (text : List ℕ) (rows : List Row) (symbols : List Symbol) : Type 0 where
  pub rows_are : rows ≡ rows_of (lines_in language text)
  pub symbols_are : symbols ≡ symbols_in (lines_in language text)

-- a symbol has this label
abbrev pub is_named : List ℕ → Symbol → Bool
is_named label symbol = bytes_eq (word_in symbol.label.text) label

-- the first symbol with this label
abbrev pub symbol_named : List Symbol → List ℕ → Option Symbol
symbol_named symbols label = find (is_named label) symbols

-- a symbol has this address as its value
abbrev pub names_place : ℕ → Symbol → Bool
names_place at symbol = int_eq symbol.value (pos at)

-- the first symbol whose value is this address
abbrev pub symbol_at : List Symbol → ℕ → Option Symbol
symbol_at symbols at = find (names_place at) symbols

-- The values of labels, whether they are held in a table of their own or are the first of another's (own).
use Rattle.std.specs.Prelude.{List, take, Option, None, Some}
use Rattle.indexmap.specs.IndexMap.{IndexMap}
use Rattle.autocoder_statements.specs.declared.label.Label.{Label}
use Rattle.autocoder_placing.specs.declared.label_values.Front.{Front}
use Rattle.autocoder_placing.specs.declared.symbol_values.SymbolValue.{SymbolValue}

-- the first of a table
abbrev pub front_values : Front → List (Label × SymbolValue)
front_values front = take front.count front.table.now.entries

-- those of a front, or else of a table
abbrev pub values_in : {S : Type 0} → Option Front → IndexMap Label SymbolValue S → List (Label × SymbolValue)
values_in None own = own.entries
values_in (Some front) own = front_values front

-- The lines of all symbols but those that are left.
use Rattle.std.proofs.Common.{drop}
use Rattle.std.specs.List.{flat_map}
use Rattle.bytes_text.specs.Written.{AddsBut}
use Rattle.operate_program.specs.Statement.{equate}
use Rattle.operate_program.proofs.statement_source.put_equates.Given as goal

abbrev pub invariant-loop-symbol : goal.invariant-loop-symbol
invariant-loop-symbol l =
    AddsBut l.initial.text l.text (flat_map (equate l.language) (drop l.symbol-index l.symbols))
    (flat_map (equate l.language) l.symbols)

-- The first row of these columns is among those that are left.
use Rattle.std.proofs.Common.{◌≡◌, drop, find}
use Rattle.std.specs.Str.{bytes_eq}
use Rattle.autocoder_statements.proofs.mnemonic.row_of.Given as goal

abbrev pub invariant-loop-row : goal.invariant-loop-row
invariant-loop-row g l =
    find (λ row. bytes_eq (g.R.Named.word row) l.columns) (drop l.row-index l.rows)
    ≡ find (λ row. bytes_eq (g.R.Named.word row) l.columns) l.rows

-- The row is looked for in the table.
use Rattle.std.proofs.Common.{◌∙◌, ap, find}
use Rattle.std.specs.Str.{bytes_eq}
use Rattle.autocoder_statements.specs.WideMnemonic.{AWideRow}
use Rattle.autocoder_statements.proofs.wide_mnemonic.wide_row_of.Goals as goal

pub returns : goal.returns
returns c =
    c.row_of.ensures
    ∙ ap (find (λ (row : AWideRow). bytes_eq row.0 c.args.columns.now)) c.wide_instructions.ensures

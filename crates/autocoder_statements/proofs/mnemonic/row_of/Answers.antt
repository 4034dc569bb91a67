-- A row is the first of those that are left, or the first is beyond it.
use Rattle.std.proofs.Common.{◌≡◌, ◌∙◌, ℕ, List, Some, true, false, sym, ap}
use Rattle.std.specs.Str.{bytes_eq}
use Rattle.autocoder_statements.proofs.RowLemmas.{found_here, found_later}
use Rattle.autocoder_statements.proofs.mnemonic.row_of.Goals as goal

pub returns-then-eq : goal.returns-then-eq
returns-then-eq g c =
    let same : bytes_eq (g.R.Named.word c.row-item.result) c.args.columns.now ≡ true =
    sym
    (c.eq.ensures
    ∙ ap (λ (name : List ℕ). bytes_eq name c.args.columns.now) (c.as_slice.ensures ∙ c.name.ensures))
    ∙ c.if-eq.true in
    ap Some c.row-item.is
    ∙ sym
    (found_here (λ row. bytes_eq (g.R.Named.word row) c.args.columns.now) c.args.rows.now c.loop-row.row-index
    c.row-item.result c.loop-row-test.true (rw (← c.row-item.is) same))
    ∙ c.loop-row.invariant

pub loop-row-preserved : goal.loop-row-preserved
loop-row-preserved g c =
    let other : bytes_eq (g.R.Named.word c.row-item.result) c.args.columns.now ≡ false =
    sym
    (c.eq.ensures
    ∙ ap (λ (name : List ℕ). bytes_eq name c.args.columns.now) (c.as_slice.ensures ∙ c.name.ensures))
    ∙ c.if-eq.false in
    sym
    (found_later (λ row. bytes_eq (g.R.Named.word row) c.args.columns.now) c.args.rows.now c.loop-row.row-index
    c.row-item.result c.loop-row-test.true (rw (← c.row-item.is) other))
    ∙ c.loop-row.invariant

-- The next label of the table is added to those before it.
use Rattle.std.proofs.Common.{◌≡◌, ◌+◌, Some, position, slice_get, sym, ap, ◌∙◌}
use Rattle.std.specs.Map.{keys_of}
use Rattle.autocoder_statements.specs.declared.label.Label.{Label}
use Rattle.autocoder_symbols.specs.Symbols.{same_label}
use Rattle.autocoder_placing.specs.declared.symbol_values.SymbolValue.{SymbolValue}
use Rattle.autocoder_placing.proofs.FrontLemmas.{insert_next}
use Rattle.autocoder_placing.proofs.label_values.Front.with.Goals as goal

pub returns-in_ok-checked_add : goal.returns-in_ok-checked_add
returns-in_ok-checked_add c =
    let entries = c.args.self.table.now.entries in
    let same = c.is_entry.ensures c.if-is_entry.true in
    let at : c.in_ok-i.i ≡ c.args.self.count = c.if-i-self.true in
    let more : c.in_ok-checked_add.field-0 ≡ c.args.self.count + 1 = c.in_ok-checked_add.ensures.1 in
    let is : position (same_label c.args.label) (keys_of entries) ≡ Some c.args.self.count =
    sym c.in_ok-i.ensures.index ∙ ap Some at in
    let there : slice_get entries c.args.self.count ≡ Some (c.args.label, c.args.value) =
    ap (slice_get entries) (sym at) ∙ c.in_ok-i.ensures.entry
    ∙ ap (λ (key : Label). Some (key, c.in_ok-i.next.now)) same.0
    ∙ ap (λ (value : SymbolValue). Some (c.args.label, value)) same.1 in
    rw more (sym (insert_next same_label c.args.label c.args.value entries c.args.self.count is there))

-- There is a row if a cell has a word mark.
use Rattle.std.proofs.Common.{◌≡◌, ℕ, ◌-◌, ◌==◌, true, false, length, map, take, arith, subst, sym, ◌∙◌}
use Rattle.std.specs.List.{list_all, suffix_len}
use Rattle.std.proofs.lemmas.List.{append-nil}
use Rattle.bytes_text.specs.Written.{Adds}
use Rattle.bytes_text.proofs.AddsLemmas.{adds}
use Rattle.operate_views.specs.Ruler.{is_unmarked, mark_column, marks_row}
use Rattle.operate_views.proofs.RulerLemmas.{none_marked}
use Rattle.operate_views.proofs.ruler.put_marks_row.Goals as goal

pub returns-then-count-eq0 : goal.returns-then-count-eq0
unfolding marks_row
returns-then-count-eq0 c whole =
    let cells = c.args.cells.now in
    let none : (length cells - suffix_len is_unmarked cells == 0) ≡ true =
    grind (arith, c.if-count-eq0.true, c.unmarked_at_end.ensures.value) in
    let all : list_all is_unmarked cells ≡ true = none_marked cells ∙ none in
    rw all (whole, sym (append-nil c.args.text.now.items))

pub returns : goal.returns
unfolding marks_row
returns c =
    let cells = c.args.cells.now in
    let some : (length cells - suffix_len is_unmarked cells == 0) ≡ false =
    grind (arith, c.if-count-eq0.false, c.unmarked_at_end.ensures.value) in
    let marked : list_all is_unmarked cells ≡ false = none_marked cells ∙ some in
    let old = c.args.text.now in
    let front = c.put.new.self in
    let row = c.put_marks.new.text in
    let marks : Adds front row (map mark_column (take (length cells - suffix_len is_unmarked cells) cells)) =
    subst (λ (n : ℕ). Adds front row (map mark_column (take (length cells - n) cells)))
    c.unmarked_at_end.ensures.value c.put_marks.ensures in
    rw marked
    (adds old row c.put_byte.new.self _ _ (adds old front row _ _ c.put.ensures marks) c.put_byte.ensures)

-- Each pair passed agrees; the first that doesn't is the highest.
use Rattle.std.proofs.Common.{◌≡◌, ◌∙◌, ◌-◌, ◌==◌, ℕ, not, true, false, sym, ap, arith}
use Rattle.core_1401.specs.Storage.{cell_at}
use Rattle.fields_1401.proofs.CompareLemmas.{found_pair, passed_pair, no_pairs}
use Rattle.fields_1401.proofs.LendingLemmas.{char_below}
use Rattle.fields_1401.specs.Compare.{highest_difference}
use Rattle.fields_1401.proofs.comparison.highest_of_few.Goals as goal

pub returns-then-ne-clause-value : goal.returns-then-ne-clause-value
returns-then-ne-clause-value c =
    let s = c.args.core.now in
    let a = c.args.a in
    let b = c.args.b in
    let i = c.from-n.result - 1 - c.loop-beyond.beyond in
    let x = char_below s c.chars-chars.result.now a c.from-a.result i _ _ c.chars-chars.ensures c.from-a.ensures
    c.requires.a.1 c.index-chars-a.is in
    let y = char_below s c.chars-chars.result.now b c.from-b.result i _ _ c.chars-chars.ensures c.from-b.ensures
    c.requires.b.1 c.index-chars-b.is in
    let differs : not ((cell_at s (a - i)).char == (cell_at s (b - i)).char) ≡ true =
    sym (ap (λ (p : ℕ). not (p == (cell_at s (b - i)).char)) x)
    ∙ sym (ap (λ (p : ℕ). not (c.index-chars-a.result == p)) y) ∙ sym c.ne.ensures ∙ c.if-ne.true in
    found_pair s a b c.args.n (c.args.n - c.loop-beyond.beyond) i c.loop-beyond.invariant (omega arith) differs

pub loop-beyond-preserved : goal.loop-beyond-preserved
loop-beyond-preserved c =
    let s = c.args.core.now in
    let a = c.args.a in
    let b = c.args.b in
    let i = c.from-n.result - 1 - c.loop-beyond.beyond in
    let x = char_below s c.chars-chars.result.now a c.from-a.result i _ _ c.chars-chars.ensures c.from-a.ensures
    c.requires.a.1 c.index-chars-a.is in
    let y = char_below s c.chars-chars.result.now b c.from-b.result i _ _ c.chars-chars.ensures c.from-b.ensures
    c.requires.b.1 c.index-chars-b.is in
    let differs : not ((cell_at s (a - i)).char == (cell_at s (b - i)).char) ≡ false =
    sym (ap (λ (p : ℕ). not (p == (cell_at s (b - i)).char)) x)
    ∙ sym (ap (λ (p : ℕ). not (c.index-chars-a.result == p)) y) ∙ sym c.ne.ensures ∙ c.if-ne.false in
    ap (highest_difference s a b) (omega arith)
    ∙ passed_pair s a b c.args.n (c.args.n - c.loop-beyond.beyond) i c.loop-beyond.invariant (omega arith) differs

pub returns-clause-value : goal.returns-clause-value
returns-clause-value c =
    sym (no_pairs c.args.core.now c.args.a c.args.b)
    ∙ ap (highest_difference c.args.core.now c.args.a c.args.b) (omega arith) ∙ c.loop-beyond.invariant

-- If none goes on, more rounds would change nothing.
use Rattle.std.proofs.Common.{◌≡◌, false, ap, sym, ◌∙◌, arith}
use Rattle.autocoder_symbols.specs.Chains.{doublings, go_on, twice_over}
use Rattle.autocoder_symbols.proofs.ChainLinksLemmas.{far_by_then}
use Rattle.autocoder_symbols.proofs.chains.far.Goals as goal

pub returns-then-not-go_on-clause-links : goal.returns-then-not-go_on-clause-links
returns-then-not-go_on-clause-links c =
    let none : go_on (twice_over c.loop-round.round c.args.links.items) ≡ false =
    sym (ap go_on (c.deref.ensures.value ∙ c.loop-round.invariant)) ∙ sym c.go_on.ensures ∙ c.if-not-go_on.true in
    c.loop-round.invariant
    ∙ far_by_then c.loop-round.round doublings c.args.links.items (omega (arith, c.loop-round.auto.round-end)) none

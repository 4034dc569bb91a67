-- One link more is joined.
use Rattle.std.proofs.Common.{◌<◌, [], get_or, length, pos, set, None, Option, ℕ, ap, ◌∙◌, arith}
use Rattle.std.proofs.lemmas.List.{get_or_default}
use Rattle.std.proofs.lemmas.List.Edits.{map_over_more}
use Rattle.autocoder_symbols.specs.Chains.{joined}
use Rattle.autocoder_symbols.specs.declared.chains.Link.{Link}
use Rattle.autocoder_symbols.proofs.chains.join.Goals as goal

pub loop-link-preserved : goal.loop-link-preserved
loop-link-preserved c =
    let blank : Link = record { to = record { text = [] }; next = None; added = pos 0; index = None; last = 0 } in
    let item : Link = get_or c.loop-link.links c.loop-link.link-index blank in
    let inside : c.loop-link.link-index < length c.loop-link.links = omega (arith, c.loop-link-test.true, c.loop-link.auto.links) in
    ap (λ (next : Option ℕ). set c.loop-link.links c.loop-link.link-index (record item { next = next })) c.in_ok-link.ensures.ok
    ∙ map_over_more (joined c.args.labels.now.keys) c.args.links.now c.loop-link.links c.loop-link.link-index item
    (omega (arith, c.loop-link-test.true, c.loop-link.auto.links)) c.loop-link.invariant
    (get_or_default c.loop-link.links c.loop-link.link-index blank item inside)

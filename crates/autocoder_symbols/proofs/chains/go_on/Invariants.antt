-- If one goes on, it is one of those that are left.
use Rattle.std.proofs.Common.{◌≡◌, drop}
use Rattle.autocoder_symbols.specs.Chains.{go_on}
use Rattle.autocoder_symbols.proofs.chains.go_on.Given as goal

abbrev pub invariant-loop-link : goal.invariant-loop-link
invariant-loop-link l = go_on (drop l.link-index l.links) ≡ go_on l.links

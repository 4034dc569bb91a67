-- The links so far, with those that are left followed, are all followed.
use Rattle.std.proofs.Common.{◌≡◌, ◌++◌, drop, map}
use Rattle.autocoder_symbols.specs.Chains.{onward, twice}
use Rattle.autocoder_symbols.proofs.chains.twice.Given as goal

abbrev pub invariant-loop-link : goal.invariant-loop-link
invariant-loop-link l = l.further.items ++ map (onward l.links) (drop l.link-index l.links) ≡ twice l.links

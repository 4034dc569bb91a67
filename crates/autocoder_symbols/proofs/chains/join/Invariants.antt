-- The links so far are joined.
use Rattle.std.proofs.Common.{◌≡◌, ◌++◌, drop, map, take}
use Rattle.autocoder_symbols.specs.Chains.{joined}
use Rattle.autocoder_symbols.proofs.chains.join.Given as goal

abbrev pub invariant-loop-link : goal.invariant-loop-link
invariant-loop-link l =
    l.links ≡ map (joined l.labels.keys) (take l.link-index l.fn.links) ++ drop l.link-index l.fn.links

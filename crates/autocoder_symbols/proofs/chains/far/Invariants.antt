-- They are followed twice as far as often as the loop has run.
use Rattle.std.proofs.Common.{◌≡◌}
use Rattle.autocoder_symbols.specs.Chains.{twice_over}
use Rattle.autocoder_symbols.proofs.chains.far.Given as goal

abbrev pub invariant-loop-round : goal.invariant-loop-round
invariant-loop-round l = l.far.items ≡ twice_over l.round l.initial.far.items

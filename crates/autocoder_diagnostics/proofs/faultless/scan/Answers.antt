-- The symbols are those of the lines.
use Rattle.std.proofs.Common.{◌∙◌, ap, subst, IfNone, IfSome}
use Rattle.autocoder_symbols.specs.Known.{Declared}
use Rattle.autocoder_diagnostics.specs.FirstFault.{first_fault_from, first_place, IsFaultless, IsFirstFault}
use Rattle.autocoder_diagnostics.proofs.faultless.scan.Goals as goal

pub returns-clause-fault : goal.returns-clause-fault
returns-clause-fault c =
    c.first_fault.ensures.value
    ∙ ap (λ (declared : Declared). first_fault_from declared first_place c.args.lines.now) c.requires.declared

pub returns-clause-faultless : goal.returns-clause-faultless
returns-clause-faultless c =
    subst (λ (declared : Declared). IfNone c.first_fault.result (IsFaultless declared c.args.lines.now))
    c.requires.declared c.first_fault.ensures.faultless

pub returns-clause-first : goal.returns-clause-first
returns-clause-first c =
    subst (λ (declared : Declared). IfSome c.first_fault.result (λ fault. IsFirstFault declared c.args.lines.now fault))
    c.requires.declared c.first_fault.ensures.first

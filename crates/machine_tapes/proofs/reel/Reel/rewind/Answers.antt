-- All records are ahead.
use Rattle.std.proofs.Common.{length, sym, ap, ◌∙◌}
use Rattle.machine_tapes.specs.Reel.{Reel, after_rewind}
use Rattle.machine_tapes.proofs.ReelLemmas.{few_ahead, good_ahead, rewound, whole_rewound}
use Rattle.machine_tapes.proofs.reel.Reel.rewind.Goals as goal

pub invariant_of-self : goal.invariant_of-self
invariant_of-self c =
    let reel = c.self.inside in
    let none =
    ap (λ (r : Reel). length r.passed) (rewound reel.bytes.items reel.head reel.end c.self.invariant.0) in (
      whole_rewound reel.bytes.items reel.head reel.end c.self.invariant.0,
      sym none,
    )

pub returns-clause-reel : goal.returns-clause-reel
returns-clause-reel c =
    let reel = c.self.inside in
    rewound reel.bytes.items reel.head reel.end c.self.invariant.0 ∙ ap (λ (r : Reel). after_rewind r) c.self.view_is

pub returns-clause-good : goal.returns-clause-good
returns-clause-good c =
    let reel = c.self.inside in good_ahead reel.bytes.items reel.head reel.end c.self.invariant.0

pub returns-clause-most : goal.returns-clause-most
returns-clause-most c =
    let reel = c.self.inside in few_ahead reel.bytes.items reel.head reel.end c.self.invariant.0

-- All changes but those that are left.
use Rattle.std.proofs.Common.{◌-◌, length}
use Rattle.bytes_text.specs.Written.{AddsBut}
use Rattle.job_steps.specs.Changes.{changes_of, changes_on, changes_text}
use Rattle.job_steps.proofs.WalkLemmas.{Walked}
use Rattle.job_steps.proofs.changes.put_changes.Given as goal

abbrev pub invariant-loop-at : goal.invariant-loop-at
invariant-loop-at l = record {
  walked : Walked l.fn.before l.before l.after l.at;
  text : AddsBut l.initial.text l.text (changes_text (changes_on l.at l.fn.before l.after))
      (changes_text (changes_of l.fn.before l.after));
}

abbrev pub decreases-loop-at : goal.decreases-loop-at
decreases-loop-at l = length l.after - l.at

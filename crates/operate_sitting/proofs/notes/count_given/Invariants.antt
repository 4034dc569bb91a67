-- The cards so far are among the first entries.
use Rattle.std.proofs.Common.{◌≡◌, ◌+◌, drop, ltb}
use Rattle.std.specs.List.{prefix_len}
use Rattle.operate_sitting.proofs.notes.count_given.Given as goal

abbrev pub invariant-loop-place : goal.invariant-loop-place
invariant-loop-place l = record {
  count : l.count ≡ l.place-index;
  places : l.count + prefix_len (λ place. ltb place l.entries) (drop l.place-index l.given)
      ≡ prefix_len (λ place. ltb place l.entries) l.given;
}

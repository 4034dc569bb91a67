-- There is no record, and room for as many characters as there are bytes.
use Rattle.std.proofs.Common.{◌≡◌, ℕ, List, length, refl, ap, ◌∙◌, arith}
use Rattle.std.proofs.Common.{replicate, rules}
use Rattle.std.proofs.lemmas.List.{length-replicate}
use Rattle.machine_tapes.specs.Held.{records_in}
use Rattle.machine_tapes.proofs.ReelLemmas.{held-new}
use Rattle.machine_tapes.proofs.reel.Reel.new.Goals as goal

pub invariant_of-result : goal.invariant_of-result
unfolding records_in
invariant_of-result c =
    let bytes : List ℕ = c.in_ok-vec.field-0.items in
    let zero : ℕ = 0 in
    let all : bytes ≡ replicate c.args.capacity zero = search rules in
    let size : length bytes ≡ c.args.capacity = ap length all ∙ length-replicate c.args.capacity zero in (
      record {
        passed = refl;
        ahead = refl;
        order = omega arith;
        inside = omega arith;
        most = omega (arith, size, c.requires);
      },
      refl,
    )

pub returns : goal.returns
returns c =
    let bytes : List ℕ = c.in_ok-vec.field-0.items in
    let zero : ℕ = 0 in
    let all : bytes ≡ replicate c.args.capacity zero = search rules in
    held-new bytes c.args.capacity (ap length all ∙ length-replicate c.args.capacity zero)

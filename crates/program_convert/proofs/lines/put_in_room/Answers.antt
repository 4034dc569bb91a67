-- A number has 20 digits at most.
use Rattle.std.proofs.Common.{◌≡◌, ℕ, ◌-◌, ◌^◌, ◌<◌, ◌≤◌, List, length, replicate, arith, length-append}
use Rattle.std.proofs.lemmas.Fmt.{length-decimal-le}
use Rattle.std.proofs.lemmas.List.{length-replicate}
use Rattle.std.specs.Fmt.{decimal}
use Rattle.machine_notation.specs.Digits.{digits_in}
use Rattle.program_convert.proofs.lines.put_in_room.Goals as goal

twenty_digits : (width number : ℕ) → width ≤ 20 → number < 2 ^ 64 → length (digits_in width number) ≤ 20
twenty_digits width number narrow small =
    let few : length (decimal number) ≤ 20 = length-decimal-le 20 number (omega arith) (omega arith) (omega arith) in
    let zeros : List ℕ = replicate (width - length (decimal number)) 48 in
    let many : length zeros ≡ width - length (decimal number) =
    length-replicate {A = ℕ} (width - length (decimal number)) 48 in
    omega (arith, few, length-append zeros (decimal number), many)

pub unreachable-requires : goal.unreachable-requires
unreachable-requires c =
    omega (
      arith,
      c.in-Err.ensures.full,
      length-append c.args.words.now (digits_in c.args.width c.args.number),
      twenty_digits c.args.width c.args.number c.requires.width (omega arith),
      c.requires.words,
      c.requires.room,
    )

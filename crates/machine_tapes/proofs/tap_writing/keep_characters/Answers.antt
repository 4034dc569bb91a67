-- One byte more.
use Rattle.std.proofs.Common.{ℕ, ◌%◌, ◌<◌, List, length, get_or, arith}
use Rattle.std.proofs.lemmas.List.{get_or_default}
use Rattle.std.proofs.lemmas.List.Edits.{map_over_more}
use Rattle.machine_tapes.proofs.tap_writing.keep_characters.Goals as goal

pub loop-i-preserved : goal.loop-i-preserved
loop-i-preserved c =
    let bytes : List ℕ = c.args.bytes.now in
    let so_far : List ℕ = c.loop-i.bytes in
    let i : ℕ = c.loop-i.i in
    let byte : ℕ = get_or so_far i 0 in
    let lt : i < length bytes = omega arith in
    let inside : i < length so_far = omega arith in
    map_over_more (λ (b : ℕ). b % 64) bytes so_far i byte lt c.loop-i.invariant
    (get_or_default so_far i 0 byte inside)

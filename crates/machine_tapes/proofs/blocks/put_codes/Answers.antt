-- One character more; the first byte is put once more in the end.
use Rattle.std.proofs.Common.{◌≡◌, ℕ, ◌%◌, ◌<◌, List, length, take, get_or, refl, sym, ◌∙◌, arith}
use Rattle.std.proofs.lemmas.List.{length-set, map_more}
use Rattle.machine_tapes.specs.Held.{characters_of}
use Rattle.machine_tapes.proofs.BlockLemmas.{first_begins, more_characters, more_goes_on, put_others, put_whole}
use Rattle.machine_tapes.proofs.blocks.put_codes.Goals as goal

pub loop-i-preserved : goal.loop-i-preserved
loop-i-preserved c =
    let bytes : List ℕ = c.args.bytes.now in
    let i : ℕ = c.loop-i.i in
    let places : List ℕ = c.loop-i.places in
    let char : ℕ = get_or bytes i 0 % 64 in
    let lt : i < length bytes = omega arith in
    let inside : i < length places = omega (arith, lt, c.loop-i.invariant.size) in
    let again : char % 64 ≡ char = omega arith in
    let few : char < 128 = omega arith in
    record {
      size = length-set places i char ∙ c.loop-i.invariant.size;
      value =
          more_characters places i char (characters_of (take i bytes)) char inside c.loop-i.invariant.value again
          ∙ sym (map_more (λ (b : ℕ). b % 64) bytes i 0 lt);
      goes = more_goes_on places i char inside c.loop-i.invariant.goes few;
    }

pub returns-clause-value : goal.returns-clause-value
returns-clause-value c =
    let bytes : List ℕ = c.args.bytes.now in
    let few : get_or bytes 0 0 % 64 < 64 = omega arith in
    put_whole c.loop-i.places bytes (λ (b : ℕ). b % 64) c.loop-i.i (get_or bytes 0 0 % 64) c.requires.some
    c.loop-i.invariant.size (omega arith) c.loop-i.invariant.value refl few

pub returns-clause-first : goal.returns-clause-first
returns-clause-first c =
    first_begins c.loop-i.places (get_or c.args.bytes.now 0 0 % 64)
    (omega (arith, c.requires.some, c.loop-i.invariant.size))

pub returns-clause-others : goal.returns-clause-others
returns-clause-others c =
    put_others c.loop-i.places c.loop-i.i (length c.args.bytes.now) _ c.requires.some
    c.loop-i.invariant.size (omega arith) c.loop-i.invariant.goes

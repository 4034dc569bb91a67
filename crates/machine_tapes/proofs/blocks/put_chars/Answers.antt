-- One character more; the first byte is put once more in the end.
use Rattle.std.proofs.Common.{◌≡◌, ℕ, ◌%◌, ◌<◌, ◌==◌, List, length, take, map, get_or, sym, ap, ◌∙◌, arith}
use Rattle.std.specs.Prelude.{if◌then◌else◌}
use Rattle.std.proofs.lemmas.List.{get_or_read, length-set, map_more}
use Rattle.machine_tapes.proofs.BlockLemmas.{first_begins, more_characters, more_goes_on, put_others, put_whole}
use Rattle.machine_tapes.proofs.blocks.put_chars.Goals as goal

pub loop-i-preserved : goal.loop-i-preserved
loop-i-preserved c =
    let chars : List ℕ = c.args.characters.now in
    let put_as : ℕ → ℕ = λ char. if char == 0 then c.args.blank else char in
    let i : ℕ = c.loop-i.i in
    let places : List ℕ = c.loop-i.places in
    let code : ℕ = c.code.result in
    let lt : i < length chars = omega arith in
    let inside : i < length places = omega (arith, lt, c.loop-i.invariant.size) in
    let here : code % 64 ≡ put_as (get_or chars i 0) =
    (let same : code % 64 ≡ code = omega (arith, c.code.ensures.range) in same)
    ∙ c.code.ensures.value ∙ c.with_blank-char.ensures
    ∙ ap put_as (get_or_read chars i c.index-characters-i.result lt c.index-characters-i.is 0) in
    record {
      size = length-set places i code ∙ c.loop-i.invariant.size;
      value =
          more_characters places i code (map put_as (take i chars)) (put_as (get_or chars i 0)) inside
          c.loop-i.invariant.value here
          ∙ sym (map_more put_as chars i 0 lt);
      goes = more_goes_on places i code inside c.loop-i.invariant.goes (omega (arith, c.code.ensures.range));
    }

pub returns-clause-value : goal.returns-clause-value
returns-clause-value c =
    let chars : List ℕ = c.args.characters.now in
    let put_as : ℕ → ℕ = λ char. if char == 0 then c.args.blank else char in
    put_whole c.loop-i.places chars put_as c.loop-i.i c.code-code.result c.requires.some
    c.loop-i.invariant.size (omega arith) c.loop-i.invariant.value
    (c.code-code.ensures.value ∙ c.with_blank-begun.ensures
    ∙ ap put_as (get_or_read chars 0 c.index-characters-0.result c.requires.some c.index-characters-0.is 0))
    c.code-code.ensures.range

pub returns-clause-first : goal.returns-clause-first
returns-clause-first c =
    first_begins c.loop-i.places c.code-code.result (omega (arith, c.requires.some, c.loop-i.invariant.size))

pub returns-clause-others : goal.returns-clause-others
returns-clause-others c =
    put_others c.loop-i.places c.loop-i.i (length c.args.characters.now) _ c.requires.some
    c.loop-i.invariant.size (omega arith) c.loop-i.invariant.goes

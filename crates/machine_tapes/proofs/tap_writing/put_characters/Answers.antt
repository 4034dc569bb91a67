-- The characters come after the text.
use Rattle.std.proofs.Common.{◌≡◌, ℕ, ◌-◌, ◌%◌, List, ◌++◌, length, ap, ◌∙◌, arith, length-append}
use Rattle.std.proofs.lemmas.List.{length-map, with_items_is}
use borrow.Rule.Slice.PartMut.{put_mid}
use Rattle.machine_tapes.proofs.TapWriteLemmas.{put_after}
use Rattle.machine_tapes.proofs.tap_writing.put_characters.Goals as goal

pub returns : goal.returns
returns c =
    let old : List ℕ = c.args.text.now.items in
    let bytes : List ℕ = c.bytes.result.now in
    let chars : List ℕ = c.args.tape_record.now in
    let lent : List ℕ = c.deref_mut.result.now in
    let from : ℕ = c.len-from.result in
    let text : List ℕ = put_mid from (length lent - from) lent c.keep_characters.new.bytes in
    let e : lent ≡ old ++ bytes = c.deref_mut.ensures.value ∙ c.in_ok-extend_from_slice.ensures.items in
    let all : text ≡ old ++ chars =
    put_after old bytes lent c.keep_characters.new.bytes chars from
    (c.len-from.ensures ∙ c.args.text.now.ok.0) e c.keep_characters.ensures
    c.bytes.ensures in
    let size : length text ≡ c.extend_from_slice.new.self.len =
    omega (
      arith,
      ap length all,
      ap length e,
      length-append old chars,
      length-append old bytes,
      length-map bytes (λ (b : ℕ). b % 64),
      ap length c.bytes.ensures,
      c.deref_mut.ensures.len,
    ) in
    with_items_is c.extend_from_slice.new.self text size ∙ all

-- Each step writes one place more; what it reads of A is as it was.
use Rattle.std.proofs.Common.{◌≡◌, ℕ, ◌-◌, length, set, get_or, sym, ◌∙◌, ap, arith}
use Rattle.std.proofs.lemmas.List.{length-set}
use Rattle.core_1401.specs.Storage.{Storage, with_char}
use Rattle.fields_1401.specs.Across.{chars_across, units_unzoned, unzoned_down, char_to}
use Rattle.fields_1401.specs.Places.{with_chars, with_all_chars}
use Rattle.fields_1401.specs.Suppress.{suppressed}
use Rattle.fields_1401.proofs.AcrossLemmas.{length-unzoned_across, unzoned_down_is}
use Rattle.fields_1401.proofs.LendingLemmas.{lent_at_first, length-chars_of, still_lent, lent-set}
use Rattle.fields_1401.proofs.LendingLemmas.{length-with_all_chars}
use Rattle.fields_1401.proofs.NumberLemmas.{not_reached}
use Rattle.fields_1401.proofs.PlacesLemmas.{with_chars_none, with_chars_more}
use Rattle.fields_1401.proofs.SuppressLemmas.{length-suppressed, suppressed_left, suppressed_right}
use Rattle.fields_1401.proofs.suppression.put_figures.Goals as goal
use Rattle.fields_1401.proofs.suppression.put_figures.Goals.{then-n-i, else-n-i}

pub loop-i-init : goal.loop-i-init
loop-i-init c =
    let s = c.args.core.now in
    record {
      put = lent_at_first s c.chars_mut-chars.result.now c.chars_mut-chars.ensures.value
          ∙ with_chars_none s c.args.b _;
      size = ap length c.chars_mut-chars.ensures.value ∙ length-chars_of s;
    }

pub loop-i-preserved : goal.loop-i-preserved
loop-i-preserved c =
    let old = c.args.core.now in
    let chars = c.loop-i.chars in
    let a = c.args.a in
    let b = c.args.b in
    let n = c.args.n in
    let i = c.loop-i.i in
    let xs = units_unzoned (chars_across old a n) in
    let blanks = c.requires.blanks in
    let a_in = c.requires.a_in in
    let size = length-suppressed xs ∙ length-unzoned_across old a n a_in c.requires.a_places in
    let kept = char_to (suppressed xs) in
    let held = c.loop-i.invariant.size in
    let put = c.loop-i.invariant.put in
    let place : c.from-in-loop-i.result ≡ b - i = c.from-in-loop-i.ensures in
    let j = length (suppressed xs) - 1 - i in
    let shows : c.if-n-i.char ≡ get_or (suppressed xs) j 0 =
    elim c.if-n-i.branch [
      | then-n-i w ↦ w.char-is ∙ sym (suppressed_left xs j (let lt = w.if-n-i.true in omega arith))
      | else-n-i w ↦ w.char-is ∙ w.unzoned_down-char.ensures
          ∙ ap (λ (k : ℕ). unzoned_down chars k w.from-else-n-i.result) w.from.ensures
          ∙ ap (λ (k : ℕ). unzoned_down chars a k) w.from-else-n-i.ensures
          ∙ unzoned_down_is old chars a n i a_in c.requires.a_places (omega arith)
          (still_lent old chars b i (a - i) kept held put (omega arith)
          (not_reached a n b n i c.requires.apart c.requires.a_places (omega arith) (omega arith)))
          ∙ ap (λ k. get_or xs k 0) (omega arith)
          ∙ sym (suppressed_right xs j (let lt = w.if-n-i.false in omega arith))
    ] in
    record {
      put =
          ap (λ q. with_all_chars old (set chars q c.if-n-i.char)) place
          ∙ lent-set old chars (b - i) c.if-n-i.char (omega arith) held
          ∙ ap (λ (s : Storage). with_char s (b - i) c.if-n-i.char) put
          ∙ ap (λ k. with_char (with_chars old b i kept) (b - i) k) shows
          ∙ with_chars_more old b i kept c.requires.b_in (omega arith);
      size = length-set chars c.from-in-loop-i.result _ ∙ held;
    }

pub returns-clause-put : goal.returns-clause-put
returns-clause-put c =
    let last : c.loop-i.i ≡ c.args.n = omega arith in
    rw last at c.loop-i.invariant.put

pub returns-clause-size : goal.returns-clause-size
returns-clause-size c = length-with_all_chars c.args.core.now c.loop-i.chars

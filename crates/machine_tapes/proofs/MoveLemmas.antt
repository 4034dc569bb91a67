-- The head past a record, and back over one.
use Rattle.std.proofs.Common.{◌≡◌, ℕ, ◌+◌, ◌-◌, ◌<◌, ◌≤◌, true, List, [], ◌∷◌, ◌++◌}
use Rattle.std.proofs.Common.{length, take, drop, get_or, reverse, refl, sym, ap, subst, ◌∙◌, arith}
use Rattle.std.proofs.Common.{length-drop, inl, inr}
use Rattle.std.specs.Prelude.{slice_range, slice_index}
use Rattle.std.specs.List.{prefix_len}
use Rattle.std.proofs.lemmas.List.{drop_at, drop_more}
use Rattle.std.proofs.lemmas.List.{length-take-le, reverse-append}
use Rattle.std.proofs.lemmas.List.{take-take}
use Rattle.machine_tapes.specs.Held.{begins, goes_on, characters_of, records_in, first_size, IsWhole, IsWound}
use Rattle.machine_tapes.specs.Held.{held}
use Rattle.machine_tapes.specs.Reel.{most_characters}
use Rattle.machine_tapes.specs.Reel.{after_backspace, after_pass}
use Rattle.machine_tapes.proofs.HeldLemmas.{whole_first, going_on-append, has_first}
use Rattle.machine_tapes.proofs.HeldLemmas.{IsBlock, length-range, range_split, records_in-append, records_in-block}
use Rattle.std.proofs.lemmas.Bool.{cases_lt}
use Rattle.std.proofs.lemmas.Slice.{between_from_start}
use Rattle.machine_tapes.proofs.RecordLemmas.{records_in-nil}
use Rattle.machine_tapes.proofs.ReelLemmas.{reel_of}

-- a record between two places of the head
pub record Between (bytes : List ℕ) (low high end : ℕ) : Type 0 where
  pub front : IsWhole (slice_range bytes 0 low)
  pub block : IsBlock (slice_range bytes low high)
  pub back : IsWhole (slice_range bytes high end)
  pub first : low ≤ high
  pub last : high ≤ end
  pub inside : end ≤ length bytes
  pub most : length bytes ≤ most_characters

whole_block : (block rest : List ℕ) → IsBlock block → IsWhole rest → IsWhole (block ++ rest)
whole_block block rest one whole = going_on-append block rest whole ∙ one.whole

pub wound_low : (bytes : List ℕ) (low high end : ℕ) → Between bytes low high end → IsWound bytes low end
wound_low bytes low high end at = record {
  passed = at.front;
  ahead =
      ap (prefix_len goes_on) (range_split bytes low high end at.first at.last)
      ∙ whole_block (slice_range bytes low high) (slice_range bytes high end) at.block at.back;
  order = omega (arith, at.first, at.last);
  inside = at.inside;
  most = at.most;
}

pub wound_high : (bytes : List ℕ) (low high end : ℕ) → Between bytes low high end → IsWound bytes high end
wound_high bytes low high end at = record {
  passed =
      let zero : ℕ = 0 in
      ap (prefix_len goes_on) (range_split bytes zero low high (omega arith) at.first)
      ∙ going_on-append (slice_range bytes 0 low) (slice_range bytes low high) at.block.whole ∙ at.front;
  ahead = at.back;
  order = at.last;
  inside = at.inside;
  most = at.most;
}

ahead_low : (bytes : List ℕ) (low high end : ℕ) → Between bytes low high end
    → records_in (slice_range bytes low end) ≡ characters_of (slice_range bytes low high)
    ∷ records_in (slice_range bytes high end)
ahead_low bytes low high end at =
    ap records_in (range_split bytes low high end at.first at.last)
    ∙ records_in-append (slice_range bytes low high) (slice_range bytes high end) at.back
    ∙ ap (λ (front : List (List ℕ)). front ++ records_in (slice_range bytes high end))
    (records_in-block (slice_range bytes low high) at.block)

pub passed_high : (bytes : List ℕ) (low high end : ℕ) → Between bytes low high end
    → reverse (records_in (slice_range bytes 0 high)) ≡ characters_of (slice_range bytes low high)
    ∷ reverse (records_in (slice_range bytes 0 low))
passed_high bytes low high end at =
    let front = records_in (slice_range bytes 0 low) in
    let one = characters_of (slice_range bytes low high) in
    ap (λ (xs : List ℕ). reverse (records_in xs)) (range_split bytes 0 low high (omega arith) at.first)
    ∙ ap reverse (records_in-append (slice_range bytes 0 low) (slice_range bytes low high) at.block.whole
    ∙ ap (λ (back : List (List ℕ)). front ++ back) (records_in-block (slice_range bytes low high) at.block))
    ∙ reverse-append front (one ∷ [])

-- from the one place to the other, and back
pub moved_on : (bytes : List ℕ) (low high end : ℕ) → Between bytes low high end → held bytes high end
    ≡ after_pass (held bytes low end)
moved_on bytes low high end at =
    let front = reverse (records_in (slice_range bytes 0 low)) in
    ap (λ (passed : List (List ℕ)). reel_of passed (records_in (slice_range bytes high end)) (length bytes))
    (passed_high bytes low high end at)
    ∙ ap (λ (ahead : List (List ℕ)). reel_of (take 1 ahead ++ front) (drop 1 ahead) (length bytes))
    (sym (ahead_low bytes low high end at))

pub moved_back : (bytes : List ℕ) (low high end : ℕ) → Between bytes low high end → held bytes low end
    ≡ after_backspace (held bytes high end)
moved_back bytes low high end at =
    let back = records_in (slice_range bytes high end) in
    ap (λ (ahead : List (List ℕ)). reel_of (reverse (records_in (slice_range bytes 0 low))) ahead (length bytes))
    (ahead_low bytes low high end at)
    ∙ ap (λ (passed : List (List ℕ)). reel_of (drop 1 passed) (take 1 passed ++ back) (length bytes))
    (sym (passed_high bytes low high end at))

-- past the first record ahead
pub between_first : (bytes : List ℕ) (head end : ℕ) → IsWound bytes head end
    → 0 < length (slice_range bytes head end)
    → first_size (slice_range bytes head end) ≤ length (slice_range bytes head end)
    → Between bytes head (head + first_size (slice_range bytes head end)) end
between_first bytes head end wound some fits =
    let ahead : List ℕ = slice_range bytes head end in
    let n : ℕ = first_size ahead in
    let size : length ahead ≡ end - head = length-range bytes head end wound.inside in
    let inside : head + n ≤ end = omega (arith, fits, size, wound.order) in
    let first = has_first ahead some wound.ahead in
    let over : head + n - head ≡ n = omega arith in
    let block : slice_range bytes head (head + n) ≡ take n ahead =
    ap (λ k. take k (drop head bytes)) over
    ∙ sym (take-take n (end - head) (drop head bytes) (omega (arith, inside))) in
    let parts : ahead ≡ take n ahead ++ slice_range bytes (head + n) end =
    range_split bytes head (head + n) end (omega arith) inside
    ∙ ap (λ (front : List ℕ). front ++ slice_range bytes (head + n) end) block in
    let rest : drop n ahead ≡ slice_range bytes (head + n) end =
    ap (drop n) parts
    ∙ drop_at (take n ahead) (slice_range bytes (head + n) end) n (length-take-le n ahead fits) in
    record {
      front = wound.passed;
      block = subst IsBlock (sym block) first.block;
      back = subst IsWhole rest first.whole;
      first = omega arith;
      last = inside;
      inside = wound.inside;
      most = wound.most;
    }

-- nothing is ahead
pub at_end : (bytes : List ℕ) (head end : ℕ) → length (slice_range bytes head end) ≡ 0 → held bytes head end
    ≡ after_pass (held bytes head end)
at_end bytes head end none =
    let front = reverse (records_in (slice_range bytes 0 head)) in
    let nothing = records_in-nil (slice_range bytes head end) none in
    ap (λ (ahead : List (List ℕ)). reel_of front ahead (length bytes)) nothing
    ∙ ap (λ (ahead : List (List ℕ)). reel_of (take 1 ahead ++ front) (drop 1 ahead) (length bytes)) (sym nothing)

-- nothing is passed
pub at_start : (bytes : List ℕ) (head end : ℕ) → head ≡ 0 → held bytes head end ≡ after_backspace (held bytes head end)
at_start bytes head end none =
    let back = records_in (slice_range bytes head end) in
    let nothing : reverse (records_in (slice_range bytes 0 head)) ≡ [] =
    ap (λ k. reverse (records_in (slice_range bytes 0 k))) none ∙ ap reverse (records_in-nil [] refl) in
    ap (λ (passed : List (List ℕ)). reel_of passed back (length bytes)) nothing
    ∙ ap (λ (passed : List (List ℕ)). reel_of (drop 1 passed) (take 1 passed ++ back) (length bytes)) (sym nothing)

-- the record that begins with the last byte that begins one
pub block_from : (bytes : List ℕ) (at : ℕ) → at < length bytes → begins (slice_index bytes at) ≡ true
    → prefix_len goes_on (drop (at + 1) bytes) ≡ length bytes - (at + 1) → IsBlock (drop at bytes)
block_from bytes at inside first others =
    let rest : List ℕ = drop (at + 1) bytes in
    let size : length rest ≡ length bytes - (at + 1) = length-drop (at + 1) bytes in
    let block : IsBlock (get_or bytes at 0 ∷ rest) = record {
      some = omega arith;
      whole = whole_first (get_or bytes at 0) rest first;
      one = omega (arith, others, size);
    } in
    subst IsBlock (sym (drop_more bytes at 0 inside)) block

pub between_last : (bytes : List ℕ) (head end at : ℕ) → IsWound bytes head end → at < length (slice_range bytes 0 head)
    → begins (slice_index (slice_range bytes 0 head) at) ≡ true
    → prefix_len goes_on (drop (at + 1) (slice_range bytes 0 head)) ≡ length (slice_range bytes 0 head) - (at + 1)
    → Between bytes at head end
between_last bytes head end at wound inside first others =
    let passed : List ℕ = slice_range bytes 0 head in
    let size : length passed ≡ head - 0 = length-range bytes 0 head (omega (arith, wound.order, wound.inside)) in
    let low : at ≤ head = omega (arith, size, inside) in
    let n : length (slice_range bytes 0 at) ≡ at - 0 =
    length-range bytes 0 at (omega (arith, low, wound.order, wound.inside)) in
    let parts = range_split bytes 0 at head (omega arith) low in
    let at_block : drop at passed ≡ slice_range bytes at head =
    ap (drop at) parts ∙ drop_at (slice_range bytes 0 at) (slice_range bytes at head) at (omega (arith, n)) in
    let block : IsBlock (slice_range bytes at head) =
    subst IsBlock at_block (block_from passed at inside first others) in
    record {
      front =
          sym (going_on-append (slice_range bytes 0 at) (slice_range bytes at head) block.whole)
          ∙ sym (ap (prefix_len goes_on) parts) ∙ wound.passed;
      block = block;
      back = wound.ahead;
      first = low;
      last = wound.order;
      inside = wound.inside;
      most = wound.most;
    }

-- past the record ahead, or nowhere if there is none
first_by : (bytes : List ℕ) (head end : ℕ) → IsWound bytes head end
    → first_size (slice_range bytes head end) ≤ length (slice_range bytes head end)
    → IsWound bytes (head + first_size (slice_range bytes head end)) end
    × (held bytes (head + first_size (slice_range bytes head end)) end ≡ after_pass (held bytes head end))
first_by bytes head end wound fits =
    let n : ℕ = first_size (slice_range bytes head end) in
    elim (cases_lt 0 (length (slice_range bytes head end))) [
      | inl some ↦
          let at = between_first bytes head end wound some fits in (
            wound_high bytes head (head + n) end at,
            moved_on bytes head (head + n) end at,
          )
      | inr none ↦
          let nothing : length (slice_range bytes head end) ≡ 0 = omega (arith, none) in
          let zero : head ≡ head + n = omega (arith, fits, none) in (
            subst (λ k. IsWound bytes k end) zero wound,
            subst (λ k. held bytes k end ≡ after_pass (held bytes head end)) zero (at_end bytes head end nothing),
          )
    ]

pub wound_passed : (bytes lent : List ℕ) (head end n : ℕ) → IsWound bytes head end → lent ≡ bytes
    → n ≡ first_size (slice_range lent head end) → n ≤ length (slice_range lent head end) → IsWound bytes (head + n) end
wound_passed bytes lent head end n wound same size fits =
    let e : n ≡ first_size (slice_range bytes head end) =
    size ∙ ap (λ (xs : List ℕ). first_size (slice_range xs head end)) same in
    let l = ap (λ (xs : List ℕ). length (slice_range xs head end)) same in
    subst (λ k. IsWound bytes (head + k) end) (sym e) (first_by bytes head end wound (omega (arith, e, l, fits))).0

pub passed_on : (bytes lent : List ℕ) (head end n : ℕ) → IsWound bytes head end → lent ≡ bytes
    → n ≡ first_size (slice_range lent head end) → n ≤ length (slice_range lent head end) → held bytes (head + n) end
    ≡ after_pass (held bytes head end)
passed_on bytes lent head end n wound same size fits =
    let e : n ≡ first_size (slice_range bytes head end) =
    size ∙ ap (λ (xs : List ℕ). first_size (slice_range xs head end)) same in
    let l = ap (λ (xs : List ℕ). length (slice_range xs head end)) same in
    ap (λ k. held bytes (head + k) end) e ∙ (first_by bytes head end wound (omega (arith, e, l, fits))).1

pub between_back : (bytes lent : List ℕ) (head end at : ℕ) → IsWound bytes head end → lent ≡ bytes
    → at < length (take head lent) → begins (slice_index (take head lent) at) ≡ true
    → prefix_len goes_on (drop (at + 1) (take head lent)) ≡ length (take head lent) - (at + 1)
    → Between bytes at head end
between_back bytes lent head end at wound same inside first others =
    let e : take head lent ≡ slice_range bytes 0 head =
    ap (take head) same ∙ sym (between_from_start bytes head) in
    between_last bytes head end at wound (subst (λ (xs : List ℕ). at < length xs) e inside)
    (subst (λ (xs : List ℕ). begins (slice_index xs at) ≡ true) e first)
    (subst (λ (xs : List ℕ). prefix_len goes_on (drop (at + 1) xs) ≡ length xs - (at + 1)) e others)

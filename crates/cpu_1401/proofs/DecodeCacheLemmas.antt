-- What is cached of decoded instructions, when word marks change.
use Rattle.std.proofs.Common.{◌≡◌, ◌≢◌, ◌⊎◌, ℕ, ◌+◌, ◌-◌, ◌==◌, ◌<◌, ◌≤◌, min, max, Bool, true, false, List, length}
use Rattle.std.proofs.Common.{set}
use Rattle.std.proofs.Common.{Option, None, Some, Result, Ok, Err, IfOk, OnErr, IfSome, is_ok, if◌then◌else◌}
use Rattle.std.proofs.Common.{slice_index_or, inl, inr, ap, refl, sym, ◌∙◌, ◌%◌, arith, subst}
use Rattle.std.proofs.lemmas.Bool.{cases_eq, cases_lt, false≢true, lt-ltb, le-ltb}
use Rattle.std.proofs.lemmas.Bool.Decides.{nat_tests}
use Rattle.std.proofs.lemmas.List.{ext_get_or, length-map, get_or-set_other, get_or-set_same, length-set}
use Rattle.std.specs.Int.{bit_at}
use Rattle.std.proofs.Math.ListN.{get_or-map}
use Rattle.bcd_1401.specs.declared.cell.Cell.{Cell}
use Rattle.core_1401.specs.EightCells.{AreEightCells, AreEightCodes}
use Rattle.core_1401.specs.PlaceSet.{has_place}
use Rattle.core_1401.specs.Address.{addresses}
use Rattle.core_1401.specs.Field.{field_len_of}
use Rattle.core_1401.specs.Storage.{Storage, blank, cell_at, with_char, with_mark}
use Rattle.cpu_1401.specs.declared.cache_entry.CacheEntry.{CacheEntry}
use Rattle.cpu_1401.specs.DecodeCache.{entry_count, AreMarks, IsCached, IsCurrent, AreBetween, AreCovered, AreInside, IsPart}
use Rattle.cpu_1401.specs.DecodeCache.{IsApart}
use Rattle.cpu_1401.specs.DecodeCache.{IsInside, lowest_written}
use Rattle.fields_1401.specs.Across.{IsSameBeside, IsSameOutside}
use Rattle.fields_1401.specs.Places.{is_within, marks_of}
use Rattle.fields_1401.specs.Outcome.{CarriesOut, Outcome, below_by}
use Rattle.fields_1401.specs.Suppress.{suppress_at, suppress_by}
use Rattle.fields_1401.specs.declared.done.Done.{Done}
use Rattle.fields_1401.specs.declared.done.FieldStop.{FieldStop}
use Rattle.fields_1401.specs.declared.done.FieldStop.TheVariants.{Address}
use Rattle.fields_1401.specs.Outside.{IsMarkedSameOutside}
use Rattle.fields_1401.specs.Quotients.{dividend_at, dividend_len_of, divide_by, quotient_at, terms_of}

-- a word mark by its place
pub mark_at : (s : Storage) (at : ℕ) → slice_index_or (marks_of s) at false ≡ (cell_at s at).mark
mark_at s at = get_or-map (λ (cell : Cell). cell.mark) s at blank

-- the entry of a place keeps the instruction there, if it has that place
pub found : (entries : List CacheEntry) (at k : ℕ) (entry : CacheEntry) → length entries ≡ entry_count
    → at < addresses → k ≡ at % entry_count → entry ≡ slice_index_or entries k entry → entry.at ≡ at
    → IsCached entries at entry
found entries at k entry all some is e there = record {
  some = some;
  inside = omega (arith, all);
  is = ap (λ (q : ℕ). slice_index_or entries q entry) (sym is) ∙ sym e;
  there = there;
}

-- the cells of an instruction that is cached are there, if its codes are
pub are_cells : (s : Storage) (at codes : ℕ) (entry : CacheEntry) → AreMarks (marks_of s) at entry.marks
    → AreEightCodes s at codes → codes ≡ entry.codes → AreEightCells s at entry.codes entry.marks
are_cells s at codes entry marks are e = record {
  are_bytes = sym e ∙ are.are_bytes;
  are_codes = are.are_codes;
  are_bits = λ i lt. marks i lt ∙ mark_at s (at + i);
}

-- an entry that is put in place of another keeps what it says, and nothing else is cached that wasn't
pub cached_beside : (entries : List CacheEntry) (k at : ℕ) (new entry : CacheEntry) → new.at ≢ at
    → IsCached (set entries k new) at entry → IsCached entries at entry
cached_beside entries k at new entry other cache =
    let place : ℕ = at % entry_count in
    let inside : place < length entries = omega (arith, cache.inside, length-set entries k new) in
    let apart : place ≢ k = λ e.
    let is : new ≡ entry =
    sym (get_or-set_same entries k new entry (omega (arith, inside, e)))
    ∙ ap (λ (q : ℕ). slice_index_or (set entries k new) q entry) (sym e) ∙ cache.is in
    other (ap (λ (c : CacheEntry). c.at) is ∙ cache.there) in
    record {
      some = cache.some;
      inside = inside;
      is = sym (get_or-set_other entries k place new entry apart) ∙ cache.is;
      there = cache.there;
    }

pub cached_there : (entries : List CacheEntry) (k at : ℕ) (new entry : CacheEntry) → at % entry_count ≡ k
    → IsCached (set entries k new) at entry → new ≡ entry
cached_there entries k at new entry here cache =
    let inside : k < length entries = omega (arith, cache.inside, here, length-set entries k new) in
    sym (ap (λ (q : ℕ). slice_index_or (set entries k new) q entry) here
    ∙ get_or-set_same entries k new entry inside) ∙ cache.is

-- it has its own word marks
pub current_cached : (entries : List CacheEntry) (s : Storage) (place : ℕ) (new : CacheEntry) → new.at ≡ place
    → IsCurrent entries (marks_of s) → AreEightCells s place new.codes new.marks
    → IsCurrent (set entries (place % entry_count) new) (marks_of s)
current_cached entries s place new own current are =
    let k : ℕ = place % entry_count in
    λ at entry cache. elim (cases_eq at place) [
      | inl here ↦ λ i lt.
          ap (λ (e : CacheEntry). bit_at e.marks i == 1)
          (sym (cached_there entries k at new entry (ap (λ (q : ℕ). q % entry_count) here) cache))
          ∙ are.are_bits i lt ∙ sym (mark_at s (place + i))
          ∙ ap (λ (q : ℕ). slice_index_or (marks_of s) (q + i) false) (sym here)
      | inr other ↦ current at entry (cached_beside entries k at new entry (λ e. other (sym e ∙ own)) cache)
    ]

-- is covered
pub covered_cached : (entries : List CacheEntry) (before covered : List ℕ) (place : ℕ) (new : CacheEntry)
    → new.at ≡ place → AreCovered entries before → ((i : ℕ) → i < 8 → has_place covered (place + i) ≡ true)
    → ((q : ℕ) → has_place before q ≡ true → has_place covered q ≡ true)
    → AreCovered (set entries (place % entry_count) new) covered
covered_cached entries before covered place new own all there more =
    λ at entry cache i lt. elim (cases_eq at place) [
      | inl here ↦ ap (λ (q : ℕ). has_place covered (q + i)) here ∙ there i lt
      | inr other ↦ more (at + i)
          (all at entry (cached_beside entries (place % entry_count) at new entry (λ e. other (sym e ∙ own)) cache) i lt)
    ]

-- and inside
pub inside_cached : (entries : List CacheEntry) (size place : ℕ) (new : CacheEntry) → new.at ≡ place
    → IsInside new place size → AreInside entries size → AreInside (set entries (place % entry_count) new) size
inside_cached entries size place new own within all =
    λ at entry cache. elim (cases_eq at place) [
      | inl here ↦
          let is : new ≡ entry =
          cached_there entries (place % entry_count) at new entry (ap (λ (q : ℕ). q % entry_count) here) cache in
          subst (λ (e : CacheEntry). IsInside e at size) is
          (subst (λ (q : ℕ). IsInside new q size) (sym here) within)
      | inr other ↦
          all at entry (cached_beside entries (place % entry_count) at new entry (λ e. other (sym e ∙ own)) cache)
    ]

-- and between the first place and the last
pub between_cached : (entries : List CacheEntry) (first last from to place : ℕ) (new : CacheEntry) → new.at ≡ place
    → from ≡ min first place → to ≡ max last (place + 7) → AreBetween entries first last
    → AreBetween (set entries (place % entry_count) new) from to
between_cached entries first last from to place new own from_is to_is all =
    λ at entry cache. elim (cases_eq at place) [
      | inl here ↦ (omega (arith, here, from_is), omega (arith, here, to_is))
      | inr other ↦
          let h = all at entry (cached_beside entries (place % entry_count) at new entry (λ e. other (sym e ∙ own)) cache) in
          (omega (arith, h.0, from_is), omega (arith, h.1, to_is))
    ]

-- if no place is covered no instruction is cached
pub apart_uncovered : (entries : List CacheEntry) (covered : List ℕ) (low high : ℕ) → AreCovered entries covered
    → low ≤ high → ((q : ℕ) → low ≤ q → q ≤ high → has_place covered q ≡ false) → IsApart entries low high
apart_uncovered entries covered low high all order none =
    λ at entry cache. elim (cases_lt (at + 7) low) [
      | inl below ↦ inl below
      | inr le ↦ elim (cases_lt high at) [
        | inl above ↦ inr above
        | inr near ↦ elim (cases_lt at low) [
          | inl before ↦ absurd (false≢true (sym (none low (omega arith) order)
              ∙ ap (has_place covered) (omega (arith, before))
              ∙ all at entry cache (low - at) (omega (arith, le, before))))
          | inr from ↦ absurd (false≢true (sym (none at from near)
              ∙ ap (has_place covered) (omega arith)
              ∙ all at entry cache 0 (omega arith)))
        ]
      ]
    ]

-- what is cached is current as long as no word mark of its cells changes
pub current_apart : (old new : List CacheEntry) (s t : Storage) (low high : ℕ) → IsCurrent old (marks_of s)
    → IsPart old new → IsApart new low high
    → ((q : ℕ) → (q < low) ⊎ (high < q) → (cell_at t q).mark ≡ (cell_at s q).mark) → IsCurrent new (marks_of t)
current_apart old new s t low high current part apart same =
    λ at entry cache i lt.
    let stays : (q : ℕ) → (q < low) ⊎ (high < q) → slice_index_or (marks_of s) q false ≡ slice_index_or (marks_of t) q false =
    λ q beside. mark_at s q ∙ sym (same q beside) ∙ sym (mark_at t q) in
    current at entry (part at entry cache) i lt ∙ elim (apart at entry cache) [
      | inl under ↦ stays (at + i) (inl (omega (arith, under, lt)))
      | inr over ↦ stays (at + i) (inr (omega (arith, over)))
    ]

-- what is left of it is
pub current_part : (old new : List CacheEntry) (s t : Storage) → IsCurrent old (marks_of s) → IsPart old new → t ≡ s
    → IsCurrent new (marks_of t)
current_part old new s t current part e =
    subst (λ (u : Storage). IsCurrent new (marks_of u)) (sym e) (λ at entry cache. current at entry (part at entry cache))

-- two places
pub current_two : (old new : List CacheEntry) (s t : Storage) (a b : ℕ) → IsCurrent old (marks_of s)
    → IsPart old new → IsApart new a a → IsApart new b b
    → ((q : ℕ) → q ≢ a → q ≢ b → cell_at t q ≡ cell_at s q) → IsCurrent new (marks_of t)
current_two old new s t a b current part apart_a apart_b same =
    λ at entry cache i lt.
    let not_a : at + i ≢ a = λ e. elim (apart_a at entry cache) [
      | inl under ↦ absurd (omega (arith, e, under, lt))
      | inr over ↦ absurd (omega (arith, e, over))
    ] in
    let not_b : at + i ≢ b = λ e. elim (apart_b at entry cache) [
      | inl under ↦ absurd (omega (arith, e, under, lt))
      | inr over ↦ absurd (omega (arith, e, over))
    ] in
    current at entry (part at entry cache) i lt ∙ mark_at s (at + i)
    ∙ ap (λ (cell : Cell). cell.mark) (sym (same (at + i) not_a not_b)) ∙ sym (mark_at t (at + i))

-- the places from the units down to the one above a register
below_lowest : (units below q : ℕ) → q < lowest_written units below → (below < units) × (q ≤ below)
below_lowest units below q lt =
    elim (cases_lt below units) [
      | inl under ↦
          let is : lowest_written units below ≡ below + 1 =
          ap (λ (b : Bool). if b then below + 1 else 0) (lt-ltb below units under) in
          (under, omega (arith, lt, is))
      | inr over ↦
          let is : lowest_written units below ≡ 0 =
          ap (λ (b : Bool). if b then below + 1 else 0) (le-ltb below units over) in
          absurd (omega (arith, lt, is))
    ]

pub current_written : (old new : List CacheEntry) (s t : Storage) (units below : ℕ) → IsCurrent old (marks_of s)
    → IsPart old new → IsApart new (lowest_written units below) units → IsSameBeside s t units below
    → IsCurrent new (marks_of t)
current_written old new s t units below current part apart same =
    current_apart old new s t (lowest_written units below) units current part apart
    (λ q beside. ap (λ (cell : Cell). cell.mark) (same q (elim beside [
      | inl under ↦ inr (below_lowest units below q under)
      | inr over ↦ inl over
    ])))

-- the same of an operation that may have been refused
pub current_done : (old new : List CacheEntry) (s t : Storage) (units : ℕ) (outcome : Result Done FieldStop)
    → IsCurrent old (marks_of s) → IsPart old new
    → IfOk outcome (λ done. IsApart new (lowest_written units done.b) units)
    → IfOk outcome (λ done. IsSameBeside s t units done.b) → OnErr outcome (t ≡ s) → IsCurrent new (marks_of t)
current_done old new s t units (Ok done) current part apart same unchanged =
    current_written old new s t units done.b current part apart same
current_done old new s t units (Err stop) current part apart same unchanged =
    current_part old new s t current part unchanged

-- word marks that are the same place by place
pub same_marks : (s t : Storage) → length t ≡ length s → ((q : ℕ) → (cell_at t q).mark ≡ (cell_at s q).mark)
    → marks_of t ≡ marks_of s
same_marks s t size same =
    let mark : Cell → Bool = λ (cell : Cell). cell.mark in
    ext_get_or false (marks_of t) (marks_of s) (length-map t mark ∙ size ∙ sym (length-map s mark))
    (λ q lt. mark_at t q ∙ same q ∙ sym (mark_at s q))

-- a cell put at a place
pub current_put : (old new : List CacheEntry) (s t : Storage) (at char : ℕ) (mark : Bool) → IsCurrent old (marks_of s)
    → IsPart old new → IsApart new at at → t ≡ with_mark (with_char s at char) at mark → IsCurrent new (marks_of t)
current_put old new s t at char mark current part apart e =
    let first : Storage = with_char s at char in
    let other : (q : ℕ) → (q < at) ⊎ (at < q) → q ≢ at = λ q beside here. elim beside [
      | inl under ↦ absurd (omega (arith, under, here))
      | inr over ↦ absurd (omega (arith, over, here))
    ] in
    current_apart old new s t at at current part apart
    (λ q beside. ap (λ (u : Storage). (cell_at u q).mark) e
    ∙ ap (λ (cell : Cell). cell.mark)
    (get_or-set_other first at q (record (cell_at first at) { mark = mark }) blank (other q beside)
    ∙ get_or-set_other s at q (record (cell_at s at) { char = char }) blank (other q beside)))

-- the places beside those that zeros were suppressed at
beside_suppressed : (b n q : ℕ) → b < addresses → n ≤ addresses
    → (q < lowest_written b (below_by b n)) ⊎ (b < q) → is_within b n q ≡ false
beside_suppressed b n q range most beside =
    elim beside [
      | inl under ↦
          let h = below_lowest b (below_by b n) q under in
          let low : q + n ≤ b = omega (arith, h.0, h.1, range, most) in
          grind (arith, nat_tests)
      | inr over ↦ grind (arith, nat_tests)
    ]

pub current_suppressed : (old new : List CacheEntry) (s t : Storage) (a b n : ℕ) → IsCurrent old (marks_of s)
    → IsPart old new → IsApart new (lowest_written b (below_by b n)) b → b < addresses → n ≤ addresses
    → IfSome (field_len_of s a) (λ m. IsSameOutside s t b m) → field_len_of s a ≡ Some n → IsCurrent new (marks_of t)
current_suppressed old new s t a b n current part apart range most outside e =
    let same : IsSameOutside s t b n =
    subst (λ (o : Option ℕ). IfSome o (λ m. IsSameOutside s t b m)) e outside in
    current_apart old new s t (lowest_written b (below_by b n)) b current part apart
    (λ q beside. ap (λ (cell : Cell). cell.mark) (same q (beside_suppressed b n q range most beside)))

-- the places beside a dividend keep their word marks
beside_dividend : (b r q : ℕ) → 0 < r → b + r ≤ addresses
    → (q < lowest_written (dividend_at b r) (below_by b 1)) ⊎ (dividend_at b r < q)
    → is_within (dividend_at b r) r q ≡ false
beside_dividend b r q some range beside =
    elim beside [
      | inl under ↦
          let h = below_lowest (dividend_at b r) (below_by b 1) q under in
          let low : q < b = omega (arith, h.0, h.1, range, some) in
          grind (arith, nat_tests)
      | inr over ↦ grind (arith, nat_tests)
    ]

pub current_divided : (old new : List CacheEntry) (s t : Storage) (b r : ℕ) → IsCurrent old (marks_of s)
    → IsPart old new → IsApart new (lowest_written (dividend_at b r) (below_by b 1)) (dividend_at b r)
    → 0 < r → b + r ≤ addresses
    → IfSome (dividend_len_of s b) (λ n. IsMarkedSameOutside s t (dividend_at b n) n) → dividend_len_of s b ≡ Some r
    → IsCurrent new (marks_of t)
current_divided old new s t b r current part apart some range outside e =
    let same : IsMarkedSameOutside s t (dividend_at b r) r =
    subst (λ (o : Option ℕ). IfSome o (λ n. IsMarkedSameOutside s t (dividend_at b n) n)) e outside in
    current_apart old new s t (lowest_written (dividend_at b r) (below_by b 1)) (dividend_at b r) current part apart
    (λ q beside. same q (beside_dividend b r q some range beside))

-- without a dividend nothing is divided
no_terms : (n : Option ℕ) → terms_of n None ≡ None
no_terms None = refl
no_terms (Some n) = refl

no_dividend : (s : Storage) (a b : ℕ) → dividend_len_of s b ≡ None → quotient_at s a b ≡ Err Address
unfolding quotient_at
no_dividend s a b e =
    ap (divide_by s a b) (ap (terms_of (field_len_of s a)) e ∙ no_terms (field_len_of s a))

pub undivided : (s t : Storage) (a b : ℕ) (result : Result Done FieldStop) → dividend_len_of s b ≡ None
    → CarriesOut (quotient_at s a b) s t result → t ≡ s
undivided s t a b (Ok done) e carried =
    absurd (false≢true (ap (λ (o : Outcome). is_ok o) (sym (no_dividend s a b e) ∙ carried.done)))
undivided s t a b (Err stop) e carried = carried.unchanged

-- without a field nothing is moved
no_field : (s : Storage) (a b : ℕ) → field_len_of s a ≡ None → suppress_at s a b ≡ Err Address
unfolding suppress_at
no_field s a b e = ap (suppress_by s a b) e

pub unsuppressed : (s t : Storage) (a b : ℕ) (result : Result Done FieldStop) → field_len_of s a ≡ None
    → CarriesOut (suppress_at s a b) s t result → t ≡ s
unsuppressed s t a b (Ok done) e carried =
    absurd (false≢true (ap (λ (o : Outcome). is_ok o) (sym (no_field s a b e) ∙ carried.done)))
unsuppressed s t a b (Err stop) e carried = carried.unchanged

-- A character more on a reel, by the byte that holds it.
use Rattle.std.proofs.Common.{◌≡◌, ℕ, suc, ◌+◌, ◌-◌, ◌%◌, ◌<◌, true, cond, List, [], ◌∷◌, ◌++◌}
use Rattle.std.proofs.Common.{length, take, drop, reverse, refl, sym, ap, ◌∙◌, arith, length-append}
use Rattle.std.proofs.Common.{set, ◌⊎◌, inl, inr, ◌==◌}
use Rattle.std.specs.Prelude.{slice_range}
use Rattle.std.specs.List.{prefix_len}
use Rattle.std.proofs.Math.Nat.{sub-zero}
use Rattle.std.proofs.lemmas.Bool.{cases_Bool, eq-eqb, le-leb, lt-ltb}
use Rattle.std.proofs.lemmas.List.{append_assoc, length-set}
use Rattle.std.proofs.lemmas.List.{length-reverse, map-append, reverse-append}
use Rattle.std.proofs.lemmas.List.{take_more_set}
use Rattle.std.proofs.lemmas.List.Folds.{prefix_len-append}
use Rattle.machine_tapes.specs.Held.{begins, goes_on, characters_of, records_in, IsWhole, IsWound}
use Rattle.machine_tapes.specs.Held.{held}
use Rattle.machine_tapes.specs.Reel.{longer_first}
use Rattle.machine_tapes.specs.Reel.{after_add, after_write}
use Rattle.machine_tapes.proofs.HeldLemmas.{begins_first, whole_first, going_on-append}
use Rattle.machine_tapes.proofs.HeldLemmas.{IsBlock, records_in-append, records_in-block}
use Rattle.machine_tapes.proofs.RecordLemmas.{records_in-nil, size_from, size_none}
use Rattle.machine_tapes.proofs.ReelLemmas.{reel_of}

pub range_nil : (bytes : List ℕ) (i : ℕ) → slice_range bytes i i ≡ []
range_nil bytes i = let e : i - i ≡ 0 = omega arith in ap (λ n. take n (drop i bytes)) e

-- one byte more, where the head is
range_set : (bytes : List ℕ) (head byte : ℕ) → head < length bytes
    → slice_range (set bytes head byte) 0 (head + 1) ≡ slice_range bytes 0 head ++ byte ∷ []
range_set bytes head byte inside =
    ap (λ k. take k (set bytes head byte)) (sub-zero (head + 1)) ∙ take_more_set bytes head byte inside
    ∙ ap (λ k. take k bytes ++ byte ∷ []) (sym (sub-zero head))

held_longer : (bytes : List ℕ) (head byte : ℕ) → head < length bytes
    → held (set bytes head byte) (head + 1) (head + 1)
    ≡ reel_of (reverse (records_in (slice_range bytes 0 head ++ byte ∷ []))) [] (length bytes)
held_longer bytes head byte inside =
    let after = set bytes head byte in
    ap (λ (passed : List ℕ). reel_of (reverse (records_in passed))
    (records_in (slice_range after (head + 1) (head + 1)))
    (length after)) (range_set bytes head byte inside)
    ∙ ap (λ (ahead : List (List ℕ)). reel_of (reverse (records_in (slice_range bytes 0 head ++ byte ∷ []))) ahead
    (length after)) (records_in-nil (slice_range after (head + 1) (head + 1)) (ap length (range_nil after (head + 1))))
    ∙ ap (reel_of (reverse (records_in (slice_range bytes 0 head ++ byte ∷ []))) []) (length-set bytes head byte)

wound_longer : (bytes : List ℕ) (head end byte : ℕ) → IsWound bytes head end → head < length bytes
    → IsWhole (slice_range bytes 0 head ++ byte ∷ []) → IsWound (set bytes head byte) (head + 1) (head + 1)
wound_longer bytes head end byte wound inside whole =
    let size = length-set bytes head byte in
    record {
      passed = ap (prefix_len goes_on) (range_set bytes head byte inside) ∙ whole;
      ahead = ap (prefix_len goes_on) (range_nil (set bytes head byte) (head + 1));
      order = omega arith;
      inside = omega (arith, size, inside);
      most = omega (arith, size, wound.most);
    }

-- a byte that begins a record
begins_more : (char : ℕ) → begins (128 + char) ≡ true
begins_more char = le-leb 128 (128 + char) (omega arith)

one_char : (char : ℕ) → char < 64 → (128 + char) % 64 ≡ char
one_char char few = omega (arith, few)

single : (byte : ℕ) → begins byte ≡ true → IsBlock (byte ∷ [])
single byte h = record { some = omega arith; whole = whole_first byte [] h; one = refl }

pub begun : (bytes : List ℕ) (head end char : ℕ) → IsWound bytes head end → head < length bytes → char < 64
    → held (set bytes head (128 + char)) (head + 1) (head + 1) ≡ after_write (held bytes head end) (char ∷ [])
begun bytes head end char wound inside few =
    let byte = 128 + char in
    let block = single byte (begins_more char) in
    let front = records_in (slice_range bytes 0 head) in
    held_longer bytes head byte inside
    ∙ ap (λ (records : List (List ℕ)). reel_of (reverse records) [] (length bytes))
    (records_in-append (slice_range bytes 0 head) (byte ∷ []) block.whole
    ∙ ap (λ (back : List (List ℕ)). front ++ back) (records_in-block (byte ∷ []) block)
    ∙ ap (λ (c : ℕ). front ++ (c ∷ []) ∷ []) (one_char char few))
    ∙ ap (λ (passed : List (List ℕ)). reel_of passed [] (length bytes)) (reverse-append front ((char ∷ []) ∷ []))

pub wound_begun : (bytes : List ℕ) (head end char : ℕ) → IsWound bytes head end → head < length bytes
    → IsWound (set bytes head (128 + char)) (head + 1) (head + 1)
wound_begun bytes head end char wound inside =
    let block = single (128 + char) (begins_more char) in
    wound_longer bytes head end (128 + char) wound inside
    (going_on-append (slice_range bytes 0 head) ((128 + char) ∷ []) block.whole ∙ wound.passed)

-- the bytes of the last record, and those before it
record HasLast (bytes : List ℕ) : Type 0 where
  front : List ℕ
  block : List ℕ
  parts : bytes ≡ front ++ block
  one : IsBlock block

last_of : (xs : List ℕ) → (prefix_len goes_on xs ≡ length xs) ⊎ HasLast xs
last_of [] = inl refl
last_of (x ∷ xs) =
    elim (last_of xs) [
      | inl none ↦
          elim (cases_Bool (goes_on x)) [
            | inl on ↦ let size = size_from x xs on in inl (omega (arith, size, none))
            | inr new ↦
                inr (record {
                  front = [];
                  block = x ∷ xs;
                  parts = refl;
                  one = record { some = omega arith; whole = size_none x xs new; one = ap suc none };
                })
          ]
      | inr last ↦
          inr (record {
            front = x ∷ last.front;
            block = last.block;
            parts = ap (λ (ys : List ℕ). x ∷ ys) last.parts;
            one = last.one;
          })
    ]

-- a record with one character more
block_longer : (block : List ℕ) (byte : ℕ) → IsBlock block → goes_on byte ≡ true → IsBlock (block ++ byte ∷ [])
block_longer [] byte one on = let some : 0 < 0 = one.some in absurd (omega (arith, some))
block_longer (x ∷ xs) byte one on =
    let all : prefix_len goes_on xs ≡ length xs = omega (arith, one.one) in
    let same : (prefix_len goes_on xs == length xs) ≡ true = eq-eqb (prefix_len goes_on xs) (length xs) all in
    let size : prefix_len goes_on (xs ++ byte ∷ []) ≡ length xs + prefix_len goes_on (byte ∷ []) =
    prefix_len-append goes_on xs (byte ∷ [])
    ∙ ap (λ b. cond b (length xs + prefix_len goes_on (byte ∷ [])) (prefix_len goes_on xs)) same in
    let last : prefix_len goes_on (byte ∷ []) ≡ 1 = size_from byte [] on in
    record {
      some = omega arith;
      whole = whole_first x (xs ++ byte ∷ []) (begins_first x xs one.whole);
      one = omega (arith, size, last, length-append xs (byte ∷ []));
    }

longer_by : (bytes front block : List ℕ) (byte : ℕ) → bytes ≡ front ++ block → IsBlock block → goes_on byte ≡ true
    → reverse (records_in (bytes ++ byte ∷ [])) ≡ longer_first (reverse (records_in bytes)) (byte % 64)
longer_by bytes front block byte parts one on =
    let more = block_longer block byte one on in
    let records = records_in front in
    let was : reverse (records_in bytes) ≡ characters_of block ∷ reverse records =
    ap (λ (xs : List ℕ). reverse (records_in xs)) parts
    ∙ ap reverse (records_in-append front block one.whole
    ∙ ap (λ (back : List (List ℕ)). records ++ back) (records_in-block block one))
    ∙ reverse-append records (characters_of block ∷ []) in
    let now : reverse (records_in (bytes ++ byte ∷ [])) ≡ characters_of (block ++ byte ∷ []) ∷ reverse records =
    ap (λ (xs : List ℕ). reverse (records_in (xs ++ byte ∷ []))) parts
    ∙ ap (λ (xs : List ℕ). reverse (records_in xs)) (append_assoc front block (byte ∷ []))
    ∙ ap reverse (records_in-append front (block ++ byte ∷ []) more.whole
    ∙ ap (λ (back : List (List ℕ)). records ++ back) (records_in-block (block ++ byte ∷ []) more))
    ∙ reverse-append records (characters_of (block ++ byte ∷ []) ∷ []) in
    now
    ∙ ap (λ (characters : List ℕ). characters ∷ reverse records)
    (map-append (λ (b : ℕ). b % 64) block (byte ∷ []))
    ∙ ap (λ (passed : List (List ℕ)). longer_first passed (byte % 64)) (sym was)

size_some : (bytes : List ℕ) → IsWhole bytes → prefix_len goes_on bytes ≡ length bytes → length bytes ≡ 0
size_some bytes whole none = omega (arith, whole, none)

pub longer : (bytes : List ℕ) (byte : ℕ) → IsWhole bytes → 0 < length (records_in bytes) → goes_on byte ≡ true
    → reverse (records_in (bytes ++ byte ∷ [])) ≡ longer_first (reverse (records_in bytes)) (byte % 64)
longer bytes byte whole some on =
    elim (last_of bytes) [
      | inl none ↦
          let nothing = ap length (records_in-nil bytes (size_some bytes whole none)) in
          absurd (omega (arith, nothing, some))
      | inr last ↦ longer_by bytes last.front last.block byte last.parts last.one on
    ]

whole_longer : (bytes : List ℕ) (byte : ℕ) → IsWhole bytes → 0 < length (records_in bytes)
    → IsWhole (bytes ++ byte ∷ [])
whole_longer [] byte whole some =
    let nothing = ap length (records_in-nil [] refl) in absurd (omega (arith, nothing, some))
whole_longer (x ∷ xs) byte whole some = whole_first x (xs ++ byte ∷ []) (begins_first x xs whole)

small : (char : ℕ) → char < 64 → (goes_on char ≡ true) × (char % 64 ≡ char)
small char few = (lt-ltb char 128 (omega (arith, few)), omega (arith, few))

some_passed : (records : List (List ℕ)) → 0 < length (reverse records) → 0 < length records
some_passed records some = let size = length-reverse records in omega (arith, size, some)

pub added : (bytes : List ℕ) (head end char : ℕ) → IsWound bytes head end → head < length bytes → char < 64
    → 0 < length (held bytes head end).passed → (held bytes head end).ahead ≡ []
    → held (set bytes head char) (head + 1) (head + 1) ≡ after_add (held bytes head end) char
added bytes head end char wound inside few some none =
    let passed = slice_range bytes 0 head in
    let here = small char few in
    held_longer bytes head char inside
    ∙ ap (λ (records : List (List ℕ)). reel_of records [] (length bytes))
    (longer passed char wound.passed (some_passed (records_in passed) some) here.0)
    ∙ ap (λ (c : ℕ). reel_of (longer_first (reverse (records_in passed)) c) [] (length bytes)) here.1
    ∙ ap (λ (ahead : List (List ℕ)). reel_of (longer_first (reverse (records_in passed)) char) ahead (length bytes))
    (sym none)

pub wound_added : (bytes : List ℕ) (head end char : ℕ) → IsWound bytes head end → head < length bytes
    → 0 < length (held bytes head end).passed → IsWound (set bytes head char) (head + 1) (head + 1)
wound_added bytes head end char wound inside some =
    let passed = slice_range bytes 0 head in
    wound_longer bytes head end char wound inside
    (whole_longer passed char wound.passed (some_passed (records_in passed) some))

-- The bytes of a record, put where the head is.
use Rattle.std.proofs.Common.{◌≡◌, ℕ, suc, ◌+◌, ◌-◌, ◌%◌, ◌<◌, ◌≤◌, ◌==◌, Bool, true, false, cond, List, [], ◌∷◌, ◌++◌}
use Rattle.std.proofs.Common.{length, take, drop, set, map, reverse, get_or, refl, sym, ap, subst, ◌∙◌, arith}
use Rattle.std.proofs.Common.{length-append, length-drop}
use Rattle.std.specs.Prelude.{slice_range, slice_index}
use Rattle.std.specs.List.{prefix_len}
use Rattle.std.proofs.Common.{inl, inr}
use Rattle.std.proofs.lemmas.Bool.{cases_Bool, eq-eqb, eqb-true, le-leb, lt-ltb}
use Rattle.std.proofs.lemmas.List.{length-take-le, map-append, reverse-append, take_all, take_more_set}
use Rattle.std.proofs.lemmas.List.Folds.{prefix_len-append}
use Rattle.std.proofs.lemmas.List.Sums.{prefix_len-le-length}
use Rattle.std.proofs.lemmas.Slice.{between_from_start, take-put_mid}
use borrow.Rule.Slice.PartMut.{put_mid}
use Rattle.machine_tapes.specs.Held.{begins, goes_on, characters_of, held, records_in, IsWound}
use Rattle.machine_tapes.specs.Reel.{Reel, after_write}
use Rattle.machine_tapes.proofs.AddLemmas.{range_nil}
use Rattle.machine_tapes.proofs.HeldLemmas.{IsBlock, going_on-append, records_in-append, records_in-block}
use Rattle.machine_tapes.proofs.MoveLemmas.{block_from}
use Rattle.machine_tapes.proofs.RecordLemmas.{records_in-nil, size_from}
use Rattle.machine_tapes.proofs.ReelLemmas.{reel_of}

-- one byte more that goes on
pub more_characters : (places : List ℕ) (i byte : ℕ) (chars : List ℕ) (char : ℕ) → i < length places
    → characters_of (take i places) ≡ chars → byte % 64 ≡ char
    → characters_of (take (i + 1) (set places i byte)) ≡ chars ++ char ∷ []
more_characters places i byte chars char inside same here =
    ap characters_of (take_more_set places i byte inside)
    ∙ map-append (λ (b : ℕ). b % 64) (take i places) (byte ∷ [])
    ∙ ap (λ (front : List ℕ). front ++ (byte % 64) ∷ []) same ∙ ap (λ c. chars ++ c ∷ []) here

pub more_goes_on : (places : List ℕ) (i byte : ℕ) → i < length places → prefix_len goes_on (take i places) ≡ i
    → byte < 128 → prefix_len goes_on (take (i + 1) (set places i byte)) ≡ i + 1
more_goes_on places i byte inside goes few =
    let front : List ℕ = take i places in
    let size : length front ≡ i = length-take-le i places (omega (arith, inside)) in
    let same : (prefix_len goes_on front == length front) ≡ true =
    eq-eqb (prefix_len goes_on front) (length front) (omega (arith, goes, size)) in
    let last : prefix_len goes_on (byte ∷ []) ≡ 1 = size_from byte [] (lt-ltb byte 128 few) in
    let whole : prefix_len goes_on (front ++ byte ∷ []) ≡ length front + prefix_len goes_on (byte ∷ []) =
    prefix_len-append goes_on front (byte ∷ [])
    ∙ ap (λ b. cond b (length front + prefix_len goes_on (byte ∷ [])) (prefix_len goes_on front)) same in
    ap (prefix_len goes_on) (take_more_set places i byte inside) ∙ omega (arith, whole, size, last)

-- the first byte begins the record
pub first_characters : (places chars : List ℕ) (char : ℕ) → 0 < length places → characters_of places ≡ chars
    → char ≡ get_or chars 0 0 → char < 64 → characters_of (set places 0 (128 + char)) ≡ chars
first_characters [] chars char some same here few = absurd (omega (arith, some))
first_characters (x ∷ xs) chars char some same here few =
    let code : (128 + char) % 64 ≡ char = omega (arith, few) in
    let was : x % 64 ≡ get_or chars 0 0 = ap (λ (cs : List ℕ). get_or cs 0 0) same in
    ap (λ c. c ∷ characters_of xs) (code ∙ here ∙ sym was) ∙ same

pub first_begins : (places : List ℕ) (char : ℕ) → 0 < length places
    → begins (slice_index (set places 0 (128 + char)) 0) ≡ true
first_begins [] char some = absurd (omega (arith, some))
first_begins (x ∷ xs) char some = le-leb 128 (128 + char) (omega arith)

others_by : (b : Bool) (n m : ℕ) → n ≤ m → cond b (1 + n) 0 ≡ suc m → n ≡ m
others_by true n m le h = omega arith
others_by false n m le h = absurd (omega arith)

pub first_others : (places : List ℕ) (byte : ℕ) → 0 < length places → prefix_len goes_on places ≡ length places
    → prefix_len goes_on (drop 1 (set places 0 byte)) ≡ length places - 1
first_others [] byte some all = absurd (omega (arith, some))
first_others (x ∷ xs) byte some all =
    others_by (goes_on x) (prefix_len goes_on xs) (length xs) (prefix_len-le-length goes_on xs) all
    ∙ omega arith

-- all characters are put, and the first byte then
first_mapped : (f : ℕ → ℕ) (chars : List ℕ) → 0 < length chars → f (get_or chars 0 0) ≡ get_or (map f chars) 0 0
first_mapped f [] some = absurd (omega (arith, some))
first_mapped f (x ∷ xs) some = refl

pub put_whole : (places chars : List ℕ) (f : ℕ → ℕ) (i char : ℕ) → 0 < length chars → length places ≡ length chars
    → i ≡ length chars → characters_of (take i places) ≡ map f (take i chars) → char ≡ f (get_or chars 0 0) → char < 64
    → characters_of (set places 0 (128 + char)) ≡ map f chars
put_whole places chars f i char some size all value here few =
    let same : characters_of places ≡ map f chars =
    ap characters_of (sym (take_all i places (omega (arith, size, all)))) ∙ value
    ∙ ap (λ (cs : List ℕ). map f cs) (take_all i chars (omega (arith, all))) in
    first_characters places (map f chars) char (omega (arith, some, size)) same (here ∙ first_mapped f chars some) few

pub put_others : (places : List ℕ) (i n byte : ℕ) → 0 < n → length places ≡ n → i ≡ n
    → prefix_len goes_on (take i places) ≡ i → prefix_len goes_on (drop 1 (set places 0 byte)) ≡ n - 1
put_others places i n byte some size all goes =
    let whole = ap (prefix_len goes_on) (take_all i places (omega (arith, size, all))) in
    let others = first_others places byte (omega (arith, some, size)) (omega (arith, whole, goes, size, all)) in
    omega (arith, others, size)

-- with the blank for each blank, characters stay
one_blank : (char : ℕ) → cond (char == 0) 0 char ≡ char
one_blank char =
    elim (cases_Bool (char == 0)) [
      | inl zero ↦ ap (λ b. cond b 0 char) zero ∙ sym (eqb-true char 0 zero)
      | inr other ↦ ap (λ b. cond b 0 char) other
    ]

pub same_blank : (chars : List ℕ) → map (λ char. cond (char == 0) 0 char) chars ≡ chars
same_blank [] = refl
same_blank (x ∷ xs) = cc (one_blank x, same_blank xs)

-- bytes that are a record
pub is_block : (block : List ℕ) (n : ℕ) → 0 < n → length block ≡ n → begins (slice_index block 0) ≡ true
    → prefix_len goes_on (drop 1 block) ≡ n - 1 → IsBlock block
is_block block n some size first others =
    block_from block 0 (omega (arith, some, size)) first (omega (arith, others, size))

-- put where the head is
length_put : (bytes block : List ℕ) (head n : ℕ) → length block ≡ n → head + n ≤ length bytes
    → length (put_mid head n bytes block) ≡ length bytes
length_put bytes block head n size inside =
    omega (
      arith,
      length-append (take head bytes) (block ++ drop n (drop head bytes)),
      length-append block (drop n (drop head bytes)),
      length-take-le head bytes (omega (arith, inside)),
      length-drop n (drop head bytes),
      length-drop head bytes,
      size,
    )

range_put : (bytes block : List ℕ) (head n : ℕ) → length block ≡ n → head + n ≤ length bytes
    → slice_range (put_mid head n bytes block) 0 (head + n) ≡ slice_range bytes 0 head ++ block
range_put bytes block head n size inside =
    between_from_start (put_mid head n bytes block) (head + n)
    ∙ take-put_mid head n bytes block (head + n) (omega (arith, size)) (omega (arith, inside))
    ∙ ap (λ (front : List ℕ). front ++ block) (sym (between_from_start bytes head))

wound_at : (bytes block : List ℕ) (head end n : ℕ) → IsWound bytes head end → IsBlock block
    → length block ≡ n → head + n ≤ length bytes
    → IsWound (put_mid head n bytes block) (head + n) (head + n)
wound_at bytes block head end n wound one size inside =
    let same = length_put bytes block head n size inside in
    record {
      passed =
          ap (prefix_len goes_on) (range_put bytes block head n size inside)
          ∙ going_on-append (slice_range bytes 0 head) block one.whole ∙ wound.passed;
      ahead = ap (prefix_len goes_on) (range_nil (put_mid head n bytes block) (head + n));
      order = omega arith;
      inside = omega (arith, same, inside);
      most = omega (arith, same, wound.most);
    }

held_at : (bytes block chars : List ℕ) (head end n : ℕ) → IsBlock block → characters_of block ≡ chars
    → length block ≡ n → head + n ≤ length bytes
    → held (put_mid head n bytes block) (head + n) (head + n) ≡ after_write (held bytes head end) chars
held_at bytes block chars head end n one same size inside =
    let after : List ℕ = put_mid head n bytes block in
    let front = records_in (slice_range bytes 0 head) in
    ap (λ (passed : List ℕ). reel_of (reverse (records_in passed))
    (records_in (slice_range after (head + n) (head + n))) (length after)) (range_put bytes block head n size inside)
    ∙ ap (λ (ahead : List (List ℕ)). reel_of (reverse (records_in (slice_range bytes 0 head ++ block))) ahead
    (length after)) (records_in-nil (slice_range after (head + n) (head + n)) (ap length (range_nil after (head + n))))
    ∙ ap (reel_of (reverse (records_in (slice_range bytes 0 head ++ block))) [])
    (length_put bytes block head n size inside)
    ∙ ap (λ (records : List (List ℕ)). reel_of (reverse records) [] (length bytes))
    (records_in-append (slice_range bytes 0 head) block one.whole
    ∙ ap (λ (back : List (List ℕ)). front ++ back) (records_in-block block one)
    ∙ ap (λ (cs : List ℕ). front ++ cs ∷ []) same)
    ∙ ap (λ (passed : List (List ℕ)). reel_of passed [] (length bytes)) (reverse-append front (chars ∷ []))

-- as a slice of the bytes was lent
over : (head n : ℕ) → head + n - head ≡ n
over head n = omega arith

pub length_lent : (bytes lent block : List ℕ) (head n : ℕ) → lent ≡ bytes → length block ≡ n → head + n ≤ length bytes
    → length (put_mid head (head + n - head) lent block) ≡ length lent
length_lent bytes lent block head n same size inside =
    ap (λ k. length (put_mid head k lent block)) (over head n)
    ∙ length_put lent block head n size (omega (arith, inside, ap length same))

pub wound_put : (bytes lent block : List ℕ) (head end n : ℕ) → IsWound bytes head end → lent ≡ bytes → IsBlock block
    → length block ≡ n → head + n ≤ length bytes
    → IsWound (put_mid head (head + n - head) lent block) (head + n) (head + n)
wound_put bytes lent block head end n wound same one size inside =
    subst (λ k. IsWound (put_mid head k lent block) (head + n) (head + n)) (sym (over head n))
    (subst (λ (xs : List ℕ). IsWound (put_mid head n xs block) (head + n) (head + n)) (sym same)
    (wound_at bytes block head end n wound one size inside))

pub held_put : (bytes lent block chars : List ℕ) (head end n : ℕ) → lent ≡ bytes → IsBlock block
    → characters_of block ≡ chars → length block ≡ n → head + n ≤ length bytes
    → held (put_mid head (head + n - head) lent block) (head + n) (head + n) ≡ after_write (held bytes head end) chars
held_put bytes lent block chars head end n same one value size inside =
    ap (λ k. held (put_mid head k lent block) (head + n) (head + n)) (over head n)
    ∙ ap (λ (xs : List ℕ). held (put_mid head n xs block) (head + n) (head + n)) same
    ∙ held_at bytes block chars head end n one value size inside

pub counted_put : (bytes lent block : List ℕ) (head end n : ℕ) → lent ≡ bytes → IsBlock block
    → length block ≡ n → head + n ≤ length bytes
    → length (held (put_mid head (head + n - head) lent block) (head + n) (head + n)).passed
    ≡ length (held bytes head end).passed + 1
counted_put bytes lent block head end n same one size inside =
    let more =
    ap (λ (reel : Reel). length reel.passed)
    (held_put bytes lent block (characters_of block) head end n same one refl size inside) in
    omega (arith, more)

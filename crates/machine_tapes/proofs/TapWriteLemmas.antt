-- The text that is written of records is that of a reel with these records.
use Rattle.std.proofs.Common.{◌≡◌, ℕ, ◌%◌, ◌<◌, ◌≤◌, ◌==◌, cond, Bool, true, false, inl, inr, List, [], ◌∷◌, ◌++◌}
use Rattle.std.proofs.Common.{length, Ok, Err, refl, sym, ap, subst, ◌∙◌, arith}
use Rattle.std.proofs.Common.{◌-◌, take, drop, length-append, length-drop}
use Rattle.std.specs.Prelude.{nat_le, nat_lt, slice_range}
use Rattle.std.specs.List.{list_all}
use Rattle.std.proofs.lemmas.Bool.{and_from, and_parts, cases_Bool, eqb-false, eqb-true, le-leb, leb-true, lt-ltb}
use Rattle.std.proofs.lemmas.Bool.{ltb-true}
use Rattle.std.proofs.lemmas.List.{append-nil, drop_at, nil_from_length, take_all, take_at}
use borrow.Rule.Slice.PartMut.{put_mid}
use Rattle.machine_tapes.specs.declared.fault.TapFault.TheVariants.{Long}
use Rattle.machine_tapes.specs.Front.{is_character}
use Rattle.machine_tapes.specs.Held.{characters_of, is_record}
use Rattle.machine_tapes.specs.Reel.{characters_in, is_tape_mark, mark_char, most_characters, tape_mark}
use Rattle.machine_tapes.specs.TapGrammar.{IsBody, IsTapOf, ends, has_mark, has_record}
use Rattle.machine_tapes.specs.TapReading.{in_reel, records_read}
use Rattle.machine_tapes.specs.TapText.{data_text, length_text, odd_byte, record_text, tap_text}
use Rattle.machine_tapes.proofs.GrammarLemmas.{is_read}

odd_by : (b : Bool) (n : ℕ) → ((n % 2) == 0) ≡ b → length (cond {A = List ℕ} b [] (0 ∷ [])) ≡ n % 2
odd_by true n e = sym (eqb-true (n % 2) 0 e)
odd_by false n e = let odd = eqb-false (n % 2) 0 e in omega (arith, odd)

odd_size : (n : ℕ) → length (odd_byte n) ≡ n % 2
unfolding odd_byte
odd_size n = odd_by ((n % 2) == 0) n refl

-- characters are read as they are
all_characters : (characters : List ℕ) → list_all (λ char. nat_lt char 64) characters ≡ true
    → (list_all is_character characters ≡ true) × (characters_of characters ≡ characters)
all_characters [] h = (refl, refl)
all_characters (char ∷ rest) h =
    let parts = and_parts (nat_lt char 64) (list_all (λ char. nat_lt char 64) rest) h in
    let few : char < 64 = ltb-true char 64 parts.0 in
    let more = all_characters rest parts.1 in
    let same : char % 64 ≡ char = omega (arith, few) in (
      and_from (is_character char) (list_all is_character rest) (lt-ltb char 128 (omega (arith, few))) more.0,
      ap (λ (c : ℕ). c ∷ characters_of rest) same ∙ ap (λ (cs : List ℕ). char ∷ cs) more.1,
    )

-- a good record as a body
record IsGood (characters : List ℕ) : Type 0 where
  body : IsBody characters (odd_byte (length characters))
  same : characters_of characters ≡ characters

is_good : (characters : List ℕ) → is_record characters ≡ true → IsGood characters
is_good characters h =
    let size = and_parts (nat_le 1 (length characters)) (nat_le (length characters) most_characters) in
    let parts = and_parts _ (list_all (λ char. nat_lt char 64) characters) h in
    let sizes = size parts.0 in
    let one = leb-true 1 (length characters) sizes.0 in
    let most = leb-true (length characters) most_characters sizes.1 in
    let all = all_characters characters parts.1 in
    record {
      body = record {
        some = omega (arith, one);
        few = omega (arith, most);
        all = all.0;
        more = odd_size (length characters);
      };
      same = all.1;
    }

-- a tape mark
mark_is : (characters : List ℕ) → is_tape_mark characters ≡ true → characters ≡ tape_mark
mark_is [] h = absurd cc
mark_is (char ∷ []) h = ap (λ (c : ℕ). c ∷ []) (eqb-true char mark_char h)
mark_is (char ∷ next ∷ characters) h = absurd cc

text_of_mark : (characters : List ℕ) → is_tape_mark characters ≡ true → record_text characters ≡ length_text 0
unfolding record_text
text_of_mark characters mark = ap (λ b. cond b (length_text 0) (data_text characters)) mark

text_of_data : (characters : List ℕ) → is_tape_mark characters ≡ false → record_text characters ≡ data_text characters
unfolding record_text
text_of_data characters other = ap (λ b. cond b (length_text 0) (data_text characters)) other

-- one record more in front
one_more : (characters rest : List ℕ) (records : List (List ℕ)) → IsGood characters → IsTapOf rest records
    → IsTapOf (record_text characters ++ rest) (characters ∷ records)
one_more characters rest records good of =
    elim (cases_Bool (is_tape_mark characters)) [
      | inl mark ↦
          let text = ap (λ (xs : List ℕ). xs ++ rest) (sym (text_of_mark characters mark)) in
          let same = ap (λ (cs : List ℕ). cs ∷ records) (sym (mark_is characters mark)) in
          subst (λ (all : List (List ℕ)). IsTapOf (record_text characters ++ rest) all) same
          (subst (λ (xs : List ℕ). IsTapOf xs (tape_mark ∷ records)) text (has_mark rest records of))
      | inr other ↦
          let text = ap (λ (xs : List ℕ). xs ++ rest) (sym (text_of_data characters other)) in
          let same = ap (λ (cs : List ℕ). cs ∷ records) good.same in
          subst (λ (all : List (List ℕ)). IsTapOf (record_text characters ++ rest) all) same
          (subst (λ (xs : List ℕ). IsTapOf xs (characters_of characters ∷ records)) text
          (has_record characters (odd_byte (length characters)) rest records good.body of))
    ]

pub tap_text-first : (characters : List ℕ) (records : List (List ℕ)) → tap_text (characters ∷ records)
    ≡ record_text characters ++ tap_text records
unfolding tap_text
tap_text-first characters records = refl

pub tap_text-none : tap_text [] ≡ []
unfolding tap_text
tap_text-none = refl

-- the text of records is that of a reel with them
pub is_written : (records : List (List ℕ)) → list_all is_record records ≡ true → IsTapOf (tap_text records) records
unfolding tap_text
is_written [] good = ends
is_written (characters ∷ records) good =
    let parts = and_parts (is_record characters) (list_all is_record records) good in
    one_more characters (tap_text records) records (is_good characters parts.0) (is_written records parts.1)

-- such a text is read as its records
pub tap_read : (text : List ℕ) (records : List (List ℕ)) → IsTapOf text records
    → characters_in records ≤ most_characters → records_read text ≡ Ok records
tap_read text records of few =
    let fits : nat_le (characters_in records) most_characters ≡ true =
    le-leb (characters_in records) most_characters few in
    ap in_reel (is_read of 0) ∙ ap (λ b. cond b (Ok records) (Err Long)) fits

pub tap_again : (records : List (List ℕ)) → list_all is_record records ≡ true → characters_in records ≤ most_characters
    → records_read (tap_text records) ≡ Ok records
tap_again records good few = tap_read (tap_text records) records (is_written records good) few

-- the characters of bytes, put where the bytes were added to a text
pub put_after : (old bytes lent put chars : List ℕ) (from : ℕ) → from ≡ length old → lent ≡ old ++ bytes
    → put ≡ characters_of (slice_range lent from (length lent)) → characters_of bytes ≡ chars
    → put_mid from (length lent - from) lent put ≡ old ++ chars
put_after old bytes lent put chars from start added kept same =
    let n : ℕ = length lent - from in
    let size : n ≡ length bytes = omega (arith, start, ap length added, length-append old bytes) in
    let front : take from lent ≡ old = ap (take from) added ∙ take_at old bytes from (sym start) in
    let back : drop from lent ≡ bytes = ap (drop from) added ∙ drop_at old bytes from (sym start) in
    let mid : slice_range lent from (length lent) ≡ bytes =
    ap (take n) back ∙ take_all n bytes (omega (arith, size)) in
    let rest : drop n (drop from lent) ≡ [] =
    ap (drop n) back ∙ nil_from_length (drop n bytes) (omega (arith, length-drop n bytes, size)) in
    let here : put ≡ chars = kept ∙ ap (λ (xs : List ℕ). characters_of xs) mid ∙ same in
    ap (λ (xs : List ℕ). xs ++ (put ++ drop n (drop from lent))) front
    ∙ ap (λ (xs : List ℕ). old ++ (put ++ xs)) rest
    ∙ ap (λ (xs : List ℕ). old ++ (xs ++ [])) here
    ∙ ap (λ (xs : List ℕ). old ++ xs) (append-nil chars)

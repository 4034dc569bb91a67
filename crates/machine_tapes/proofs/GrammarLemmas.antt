-- A text is read exactly if it is that of a reel, and as its records.
use Rattle.std.proofs.Common.{◌≡◌, ℕ, zero, suc, ◌+◌, ◌-◌, ◌%◌, ◌<◌, ◌≤◌, true, inl, inr, List, [], ◌∷◌, ◌++◌, length}
use Rattle.std.proofs.Common.{take, drop, get_or, Option, Some, None, Result, Ok, Err, refl, sym, ap, subst, ◌∙◌, arith}
use Rattle.std.proofs.Common.{length-append, length-drop, IfOk, Bool, false, cond}
use Rattle.std.specs.Prelude.{nat_le}
use Rattle.std.specs.List.{prefix_len}
use Rattle.std.proofs.Math.Seq.{take-add}
use Rattle.std.proofs.lemmas.Bool.{cases_eq, cases_lt}
use Rattle.std.proofs.lemmas.List.{append_assoc, drop-drop, drop_at, get_or-drop, length-take-le, take-append-drop}
use Rattle.std.proofs.lemmas.Nat.{le_bytes_4}
use Rattle.machine_tapes.specs.declared.fault.TapFault.{TapFault}
use Rattle.machine_tapes.specs.declared.fault.TapFault.TheVariants.{Cut, Flagged, Unequal, Character, Long}
use Rattle.machine_tapes.specs.Front.{Holds, end_length, flag, front_in, is_character, number_in, padded}
use Rattle.machine_tapes.specs.Held.{characters_of}
use Rattle.machine_tapes.specs.Reel.{Reel, characters_in, most_characters, tape_mark}
use Rattle.machine_tapes.specs.TapGrammar.{IsBody, IsTapOf, ends, ends_early, has_mark, has_record}
use Rattle.machine_tapes.specs.TapReading.{Gives, Read, in_reel, read_from, records_read, with_first}
use Rattle.machine_tapes.specs.TapText.{between_lengths, length_text}
use Rattle.machine_tapes.proofs.BodyLemmas.{body_front, body_size, length_four, number_again, pass_all}
use Rattle.machine_tapes.proofs.FrontLemmas.{front_cut, front_end, front_flagged, front_mark, front_record}
use Rattle.machine_tapes.proofs.FrontLemmas.{sized_character, sized_cut, sized_holds, sized_unequal}
use Rattle.machine_tapes.proofs.TapReadLemmas.{read_ends, read_fails, read_holds}

some_number : (n : ℕ) (rest : List ℕ) → 0 < length (length_text n ++ rest)
some_number n rest = omega (arith, length-append (length_text n) rest, length_four n)

-- a record, and what is read after it
read_more : (at size : ℕ) (front rest characters : List ℕ) (records : List (List ℕ))
    → front_in at (front ++ rest) ≡ Holds characters size → length front ≡ size → 0 < size
    → read_from (at + size) 0 rest ≡ Ok records → read_from at 0 (front ++ rest) ≡ Ok (characters ∷ records)
read_more at size front rest characters records holds e some more =
    let inside : size ≤ length (front ++ rest) = omega (arith, length-append front rest, e) in
    read_holds at (front ++ rest) characters size holds some inside
    ∙ ap (λ (xs : List ℕ). with_first characters (read_from (at + size) 0 xs)) (drop_at front rest size e)
    ∙ ap (with_first characters) more

-- the text of a reel is read as its records
pub is_read : {text : List ℕ} {records : List (List ℕ)} → IsTapOf text records → (at : ℕ)
    → read_from at 0 text ≡ Ok records
unfolding read_from
is_read ends at = refl
is_read (ends_early rest) at =
    read_ends at (length_text end_length ++ rest)
    (front_end at end_length (length_text end_length ++ rest) (some_number end_length rest)
    (number_again end_length rest (omega arith)) refl)
is_read (has_mark rest records of) at =
    read_more at 4 (length_text 0) rest tape_mark records
    (front_mark at 0 (length_text 0 ++ rest) (some_number 0 rest) (number_again 0 rest (omega arith)) refl)
    (length_four 0) (omega arith) (is_read of (at + 4))
is_read (has_record bytes odd rest records body of) at =
    let size : ℕ = 4 + padded (length bytes) + 4 in
    read_more at size (between_lengths bytes odd) rest (characters_of bytes) records (body_front at bytes odd rest body)
    (body_size bytes odd body.more) (omega arith) (is_read of (at + size))

-- numbers that are bytes
abbrev pub AreBytes : List ℕ → Type 0
AreBytes text = (i : ℕ) → get_or text i 0 < 256

bytes_left : (text : List ℕ) (n : ℕ) → AreBytes text → AreBytes (drop n text)
bytes_left text n each i = subst (λ (b : ℕ). b < 256) (sym (get_or-drop n text i 0)) (each (n + i))

four_bytes : (a b c d : ℕ) → a < 256 → b < 256 → c < 256 → d < 256 → (i : ℕ)
    → get_or (a ∷ b ∷ c ∷ d ∷ []) i 0 < 256
four_bytes a b c d ha hb hc hd zero = ha
four_bytes a b c d ha hb hc hd (suc zero) = hb
four_bytes a b c d ha hb hc hd (suc (suc zero)) = hc
four_bytes a b c d ha hb hc hd (suc (suc (suc zero))) = hd
four_bytes a b c d ha hb hc hd (suc (suc (suc (suc i)))) = omega arith

same_some : (a b : ℕ) → Some a ≡ Some b → b ≡ a
same_some a b h = cc

-- the length at the front, and the rest
number_parts : (text : List ℕ) (n : ℕ) → AreBytes text → number_in text ≡ Some n
    → (text ≡ length_text n ++ drop 4 text) × (4 ≤ length text)
unfolding number_in length_text
number_parts [] n each h = absurd cc
number_parts (a ∷ []) n each h = absurd cc
number_parts (a ∷ b ∷ []) n each h = absurd cc
number_parts (a ∷ b ∷ c ∷ []) n each h = absurd cc
number_parts (a ∷ b ∷ c ∷ d ∷ rest) n each h =
    let four = le_bytes_4 (a ∷ b ∷ c ∷ d ∷ []) n refl (four_bytes a b c d (each 0) (each 1) (each 2) (each 3))
    (same_some _ n h) in (ap (λ (xs : List ℕ). xs ++ rest) (sym four), omega arith)

-- what is read has no fault
no_fault : (at : ℕ) (text : List ℕ) (records : List (List ℕ)) (fault : TapFault) → read_from at 0 text ≡ Ok records
    → read_from at 0 text ≡ Err fault → ⊥
no_fault at text records fault h bad = cc

-- the first record read, and the others
record HasFirst (characters : List ℕ) (read : Read) (records : List (List ℕ)) : Type 0 where
  left : List (List ℕ)
  read_is : read ≡ Ok left
  same : characters ∷ left ≡ records

first_of : (characters : List ℕ) (read : Read) (records : List (List ℕ)) → with_first characters read ≡ Ok records
    → HasFirst characters read records
first_of characters (Ok left) records h = record { left = left; read_is = refl; same = cc }
first_of characters (Err fault) records h = absurd cc

-- shorter texts that are read are those of reels
abbrev Shorter : List ℕ → Type 0
Shorter text = (rest : List ℕ) (from : ℕ) (left : List (List ℕ)) → length rest < length text → AreBytes rest
    → read_from from 0 rest ≡ Ok left → IsTapOf rest left

by_mark : (text : List ℕ) (at n : ℕ) (records : List (List ℕ)) → 0 < length text → AreBytes text → Shorter text
    → read_from at 0 text ≡ Ok records → number_in text ≡ Some n → n ≡ 0 → IsTapOf text records
by_mark text at n records some each shorter h number none =
    let parts = number_parts text n each number in
    let rest : List ℕ = drop 4 text in
    let first = first_of tape_mark (read_from (at + 4) 0 rest) records
    (sym (read_holds at text tape_mark 4 (front_mark at n text some number none) (omega arith) parts.1) ∙ h) in
    let less : length rest < length text = omega (arith, length-drop 4 text, parts.1) in
    let of = shorter rest (at + 4) first.left less (bytes_left text 4 each) first.read_is in
    let e : text ≡ length_text 0 ++ rest = parts.0 ∙ ap (λ (k : ℕ). length_text k ++ rest) none in
    subst (λ (all : List (List ℕ)). IsTapOf text all) first.same
    (subst (λ (xs : List ℕ). IsTapOf xs (tape_mark ∷ first.left)) (sym e) (has_mark rest first.left of))

no_record : (records : List (List ℕ)) (read : Read) → read ≡ Ok records → read ≡ Ok [] → [] ≡ records
no_record records read h none = cc

by_end : (text : List ℕ) (at n : ℕ) (records : List (List ℕ)) → 0 < length text → AreBytes text
    → read_from at 0 text ≡ Ok records → number_in text ≡ Some n → n ≡ end_length → IsTapOf text records
by_end text at n records some each h number end =
    let parts = number_parts text n each number in
    let rest : List ℕ = drop 4 text in
    let none = no_record records (read_from at 0 text) h (read_ends at text (front_end at n text some number end)) in
    let e : text ≡ length_text end_length ++ rest = parts.0 ∙ ap (λ (k : ℕ). length_text k ++ rest) end in
    subst (λ (all : List (List ℕ)). IsTapOf text all) none
    (subst (λ (xs : List ℕ). IsTapOf xs []) (sym e) (ends_early rest))

regroup : (a b c d e : List ℕ) → a ++ ((b ++ c) ++ (d ++ e)) ≡ (((a ++ b) ++ c) ++ d) ++ e
regroup a b c d e = sym (simp append_assoc)

by_body : (text : List ℕ) (at n m : ℕ) (records : List (List ℕ)) → 0 < length text → AreBytes text → Shorter text
    → read_from at 0 text ≡ Ok records → number_in text ≡ Some n → 0 < n → n < flag
    → number_in (drop (4 + padded n) text) ≡ Some m → m ≡ n
    → n ≤ prefix_len is_character (take n (drop 4 text)) → IsTapOf text records
by_body text at n m records some each shorter h number low high second same all =
    let parts = number_parts text n each number in
    let after : List ℕ = drop (4 + padded n) text in
    let back = number_parts after m (bytes_left text (4 + padded n) each) second in
    let inside : 4 + padded n + 4 ≤ length text = omega (arith, back.1, length-drop (4 + padded n) text) in
    let size : ℕ = 4 + padded n + 4 in
    let body : List ℕ = drop 4 text in
    let bytes : List ℕ = take n body in
    let odd : List ℕ = take (n % 2) (drop n body) in
    let rest : List ℕ = drop size text in
    let front : front_in at text ≡ Holds (characters_of bytes) size =
    front_record at n text some number low high ∙ sized_holds at n text bytes (second ∙ ap Some same) refl all in
    let first = first_of (characters_of bytes) (read_from (at + size) 0 rest) records
    (sym (read_holds at text (characters_of bytes) size front (omega arith) inside) ∙ h) in
    let less : length rest < length text = omega (arith, length-drop size text, inside) in
    let of = shorter rest (at + size) first.left less (bytes_left text size each) first.read_is in
    let left : length body ≡ length text - 4 = length-drop 4 text in
    let sized : length bytes ≡ n = length-take-le n body (omega (arith, left, inside)) in
    let odd_sized : length odd ≡ n % 2 =
    length-take-le (n % 2) (drop n body) (omega (arith, left, inside, length-drop n body)) in
    let is_body : IsBody bytes odd = record {
      some = omega (arith, sized, low);
      few = omega (arith, sized, high);
      all = pass_all bytes (omega (arith, sized, all));
      more = odd_sized ∙ ap (λ (k : ℕ). k % 2) (sym sized);
    } in
    let tail : after ≡ length_text n ++ rest =
    back.0 ∙ ap (λ (k : ℕ). length_text k ++ drop 4 after) same
    ∙ ap (λ (xs : List ℕ). length_text n ++ xs) (drop-drop 4 (4 + padded n) text) in
    let split : body ≡ (bytes ++ odd) ++ (length_text n ++ rest) =
    sym (take-append-drop (padded n) body)
    ∙ ap (λ (xs : List ℕ). xs ++ drop (padded n) body) (take-add n (n % 2) body)
    ∙ ap (λ (xs : List ℕ). (bytes ++ odd) ++ xs) (drop-drop (padded n) 4 text ∙ tail) in
    let whole : text ≡ between_lengths bytes odd ++ rest =
    parts.0 ∙ ap (λ (xs : List ℕ). length_text n ++ xs) split ∙ regroup (length_text n) bytes odd (length_text n) rest
    ∙ ap (λ (k : ℕ). (((length_text k ++ bytes) ++ odd) ++ length_text k) ++ rest) (sym sized) in
    subst (λ (found : List (List ℕ)). IsTapOf text found) first.same
    (subst (λ (xs : List ℕ). IsTapOf xs (characters_of bytes ∷ first.left)) (sym whole)
    (has_record bytes odd rest first.left is_body of))

by_after : (text : List ℕ) (at n : ℕ) (records : List (List ℕ)) (after : Option ℕ) → 0 < length text → AreBytes text
    → Shorter text → read_from at 0 text ≡ Ok records → number_in text ≡ Some n → 0 < n → n < flag
    → number_in (drop (4 + padded n) text) ≡ after → IsTapOf text records
by_after text at n records None some each shorter h number low high second =
    absurd (no_fault at text records (Cut at) h
    (read_fails at text (Cut at) (front_record at n text some number low high ∙ sized_cut at n text second)))
by_after text at n records (Some m) some each shorter h number low high second =
    let bytes : List ℕ = take n (drop 4 text) in
    let good : ℕ = prefix_len is_character bytes in
    let front = front_record at n text some number low high in
    elim (cases_eq m n) [
      | inl same ↦
          elim (cases_lt good n) [
            | inl few ↦
                absurd (no_fault at text records (Character (at + 4 + good)) h
                (read_fails at text (Character (at + 4 + good))
                (front ∙ sized_character at n good text bytes (second ∙ ap Some same) refl refl few)))
            | inr all ↦ by_body text at n m records some each shorter h number low high second same all
          ]
      | inr other ↦
          absurd (no_fault at text records (Unequal (at + (4 + padded n))) h
          (read_fails at text (Unequal (at + (4 + padded n))) (front ∙ sized_unequal at n m text second other)))
    ]

by_number : (text : List ℕ) (at : ℕ) (records : List (List ℕ)) (number : Option ℕ) → 0 < length text → AreBytes text
    → Shorter text → read_from at 0 text ≡ Ok records → number_in text ≡ number → IsTapOf text records
by_number text at records None some each shorter h number =
    absurd (no_fault at text records (Cut at) h (read_fails at text (Cut at) (front_cut at text some number)))
by_number text at records (Some n) some each shorter h number =
    elim (cases_eq n 0) [
      | inl none ↦ by_mark text at n records some each shorter h number none
      | inr more ↦
          elim (cases_lt n flag) [
            | inl low ↦
                by_after text at n records (number_in (drop (4 + padded n) text)) some each shorter h number
                (omega (arith, more)) low refl
            | inr high ↦
                elim (cases_eq n end_length) [
                  | inl end ↦ by_end text at n records some each h number end
                  | inr other ↦
                      absurd (no_fault at text records (Flagged at) h
                      (read_fails at text (Flagged at) (front_flagged at n text some number high other)))
                ]
          ]
    ]

none_read : (at : ℕ) (records : List (List ℕ)) → read_from at 0 [] ≡ Ok records → [] ≡ records
unfolding read_from
none_read at records h = cc

shorter_by : (k : ℕ) (text : List ℕ) (at : ℕ) (records : List (List ℕ)) → length text ≤ k → AreBytes text
    → read_from at 0 text ≡ Ok records → IsTapOf text records
shorter_by k [] at records few each h =
    subst (λ (all : List (List ℕ)). IsTapOf [] all) (none_read at records h) ends
shorter_by zero (byte ∷ bytes) at records few each h = absurd (omega arith)
shorter_by (suc k) (byte ∷ bytes) at records few each h =
    by_number (byte ∷ bytes) at records (number_in (byte ∷ bytes)) (omega arith) each
    (λ rest from left less is_bytes more. shorter_by k rest from left (omega arith) is_bytes more) h refl

-- a text that is read is that of a reel with these records
pub is_tap : (text : List ℕ) (at : ℕ) (records : List (List ℕ)) → AreBytes text → read_from at 0 text ≡ Ok records
    → IsTapOf text records
is_tap text at records each h = shorter_by (length text) text at records (omega arith) each h

within_by : (fits : Bool) (found records : List (List ℕ)) → cond {A = Read} fits (Ok found) (Err Long) ≡ Ok records
    → ◌≡◌ {A = Read} (Ok found) (Ok records)
within_by true found records h = h
within_by false found records h = absurd cc

read_within : (read : Read) (records : List (List ℕ)) → in_reel read ≡ Ok records → read ≡ Ok records
read_within (Ok found) records h = within_by (nat_le (characters_in found) most_characters) found records h
read_within (Err fault) records h = absurd cc

-- what a call reads of a text is the reel whose text it is
pub is_found : (result : Result Reel TapFault) (capacity : ℕ) (text : List ℕ) → AreBytes text
    → Gives result capacity (records_read text) → IfOk result (λ reel. IsTapOf text reel.ahead)
is_found (Ok reel) capacity text each gives =
    is_tap text 0 reel.ahead each (read_within (read_from 0 0 text) reel.ahead gives.0)
is_found (Err fault) capacity text each gives = tt

-- A record between its lengths, at the front of a text.
use Rattle.std.proofs.Common.{◌≡◌, ℕ, ◌+◌, ◌%◌, ◌^◌, ◌<◌, ◌≤◌, cond, true, inl, inr, List, [], ◌∷◌, ◌++◌, length, take}
use Rattle.std.proofs.Common.{drop, Some, suc, refl, sym, ap, ◌∙◌, arith, length-append}
use Rattle.std.specs.List.{list_all, prefix_len}
use Rattle.std.proofs.lemmas.Bool.{and_from, and_parts, cases_Bool}
use Rattle.std.proofs.lemmas.List.{append_assoc, drop_at, take_at}
use Rattle.std.proofs.lemmas.Nat.{from_le_bytes-to_le_bytes_4}
use Rattle.machine_tapes.specs.Front.{Holds, front_in, is_character, number_in, padded}
use Rattle.machine_tapes.specs.Held.{characters_of}
use Rattle.machine_tapes.specs.TapGrammar.{IsBody}
use Rattle.machine_tapes.specs.TapText.{between_lengths, length_text}
use Rattle.machine_tapes.proofs.FrontLemmas.{front_record, sized_holds}

-- four bytes
pub length_four : (n : ℕ) → length (length_text n) ≡ 4
unfolding length_text
length_four n = refl

pub number_again : (n : ℕ) (rest : List ℕ) → n < 2 ^ 32 → number_in (length_text n ++ rest) ≡ Some n
unfolding length_text number_in
number_again n rest few = ap Some (from_le_bytes-to_le_bytes_4 n few)

-- bytes that are characters, as many as there are at the front
pub all_pass : (bytes : List ℕ) → list_all is_character bytes ≡ true → prefix_len is_character bytes ≡ length bytes
all_pass [] h = refl
all_pass (byte ∷ bytes) h =
    let parts = and_parts (is_character byte) (list_all is_character bytes) h in
    let more = all_pass bytes parts.1 in
    let size : 1 + prefix_len is_character bytes ≡ suc (length bytes) = omega (arith, more) in
    ap (λ b. cond b (1 + prefix_len is_character bytes) 0) parts.0 ∙ size

pub pass_all : (bytes : List ℕ) → length bytes ≤ prefix_len is_character bytes → list_all is_character bytes ≡ true
pass_all [] h = refl
pass_all (byte ∷ bytes) h =
    elim (cases_Bool (is_character byte)) [
      | inl good ↦
          let size = ap (λ b. cond b (1 + prefix_len is_character bytes) 0) good in
          and_from (is_character byte) (list_all is_character bytes) good (pass_all bytes (omega (arith, size, h)))
      | inr bad ↦
          let size = ap (λ b. cond b (1 + prefix_len is_character bytes) 0) bad in absurd (omega (arith, size, h))
    ]

-- how many bytes it takes
pub body_size : (bytes odd : List ℕ) → length odd ≡ length bytes % 2
    → length (between_lengths bytes odd) ≡ 4 + padded (length bytes) + 4
body_size bytes odd e =
    let n : ℕ = length bytes in
    omega (
      arith,
      length-append (length_text n ++ bytes ++ odd) (length_text n),
      length-append (length_text n ++ bytes) odd,
      length-append (length_text n) bytes,
      length_four n,
      e,
    )

pub body_front : (at : ℕ) (bytes odd rest : List ℕ) → IsBody bytes odd
    → front_in at (between_lengths bytes odd ++ rest) ≡ Holds (characters_of bytes) (4 + padded (length bytes) + 4)
body_front at bytes odd rest body =
    let n : ℕ = length bytes in
    let text : List ℕ = between_lengths bytes odd ++ rest in
    let front : List ℕ = length_text n ++ bytes ++ odd in
    let tail : List ℕ = odd ++ (length_text n ++ rest) in
    let by_end : text ≡ front ++ (length_text n ++ rest) = append_assoc front (length_text n) rest in
    let by_start : text ≡ length_text n ++ (bytes ++ tail) =
    by_end ∙ append_assoc (length_text n ++ bytes) odd (length_text n ++ rest)
    ∙ append_assoc (length_text n) bytes tail in
    let fits : n < 2 ^ 32 = omega (arith, body.few) in
    let number : number_in text ≡ Some n = ap number_in by_start ∙ number_again n (bytes ++ tail) fits in
    let same : take n (drop 4 text) ≡ bytes =
    ap (λ (xs : List ℕ). take n (drop 4 xs)) by_start
    ∙ ap (take n) (drop_at (length_text n) (bytes ++ tail) 4 (length_four n)) ∙ take_at bytes tail n refl in
    let front_size : length front ≡ 4 + padded n =
    omega (
      arith,
      length-append (length_text n ++ bytes) odd,
      length-append (length_text n) bytes,
      length_four n,
      body.more,
    ) in
    let after : number_in (drop (4 + padded n) text) ≡ Some n =
    ap (λ (xs : List ℕ). number_in (drop (4 + padded n) xs)) by_end
    ∙ ap number_in (drop_at front (length_text n ++ rest) (4 + padded n) front_size) ∙ number_again n rest fits in
    let some : 0 < length text =
    omega (arith, ap length by_start, length-append (length_text n) (bytes ++ tail), length_four n) in
    let all = all_pass bytes body.all in
    front_record at n text some number body.some body.few
    ∙ sized_holds at n text bytes after (sym same) (omega (arith, all))

-- What a text begins with, by its parts.
use Rattle.std.proofs.Common.{◌≡◌, ℕ, ◌+◌, ◌<◌, ◌≤◌, ◌==◌, cond, Bool, true, false, List, [], ◌∷◌, length}
use Rattle.std.proofs.Common.{take, drop, get_or, Some, None, refl, sym, ap, ◌∙◌, arith}
use Rattle.std.specs.Prelude.{nat_le, nat_lt}
use Rattle.std.specs.Int.{w32, from_le_bytes}
use Rattle.std.specs.List.{prefix_len}
use Rattle.std.proofs.lemmas.Bool.{eq-eqb, le-leb, le-ltb, lt-leb, lt-ltb, ne_eqb}
use Rattle.machine_tapes.specs.declared.fault.TapFault.TheVariants.{Cut, Flagged, Unequal, Character}
use Rattle.machine_tapes.specs.Held.{characters_of}
use Rattle.machine_tapes.specs.Reel.{tape_mark}
use Rattle.machine_tapes.specs.Front.{Front, Holds, Ends, Fails, end_length, flag, front_between, front_by, front_in}
use Rattle.machine_tapes.specs.Front.{front_of, front_sized, is_character, number_in, padded}

-- the number in four bytes, and in fewer
pub number_some : (text : List ℕ) → 4 ≤ length text
    → number_in text
    ≡ Some (from_le_bytes w32 (get_or text 0 0 ∷ get_or text 1 0 ∷ get_or text 2 0 ∷ get_or text 3 0 ∷ []))
unfolding number_in
number_some [] h = absurd (omega arith)
number_some (a ∷ []) h = absurd (omega arith)
number_some (a ∷ b ∷ []) h = absurd (omega arith)
number_some (a ∷ b ∷ c ∷ []) h = absurd (omega arith)
number_some (a ∷ b ∷ c ∷ d ∷ rest) h = refl

pub number_none : (text : List ℕ) → length text < 4 → number_in text ≡ None
unfolding number_in
number_none [] h = refl
number_none (a ∷ []) h = refl
number_none (a ∷ b ∷ []) h = refl
number_none (a ∷ b ∷ c ∷ []) h = refl
number_none (a ∷ b ∷ c ∷ d ∷ rest) h = absurd (omega arith)

-- a record of a length
pub sized_cut : (at n : ℕ) (text : List ℕ) → number_in (drop (4 + padded n) text) ≡ None
    → front_sized at text n ≡ Fails (Cut at)
unfolding front_sized
sized_cut at n text none = ap (front_between at n (take n (drop 4 text))) none

pub sized_unequal : (at n after : ℕ) (text : List ℕ) → number_in (drop (4 + padded n) text) ≡ Some after
    → (after ≡ n → ⊥) → front_sized at text n ≡ Fails (Unequal (at + (4 + padded n)))
unfolding front_sized
sized_unequal at n after text some other =
    ap (front_between at n (take n (drop 4 text))) some
    ∙ ap (λ b. cond b (front_of at n (take n (drop 4 text))) (Fails (Unequal (at + (4 + padded n)))))
    (ne_eqb after n other)

sized_equal : (at n : ℕ) (text : List ℕ) → number_in (drop (4 + padded n) text) ≡ Some n
    → front_sized at text n ≡ front_of at n (take n (drop 4 text))
unfolding front_sized
sized_equal at n text some =
    ap (front_between at n (take n (drop 4 text))) some
    ∙ ap (λ b. cond b (front_of at n (take n (drop 4 text))) (Fails (Unequal (at + (4 + padded n)))))
    (eq-eqb n n refl)

pub sized_character : (at n good : ℕ) (text bytes : List ℕ) → number_in (drop (4 + padded n) text) ≡ Some n
    → bytes ≡ take n (drop 4 text) → good ≡ prefix_len is_character bytes → good < n
    → front_sized at text n ≡ Fails (Character (at + 4 + good))
sized_character at n good text bytes some same e few =
    let test : nat_lt (prefix_len is_character bytes) n ≡ true =
    lt-ltb (prefix_len is_character bytes) n (omega (arith, e, few)) in
    sized_equal at n text some ∙ ap (front_of at n) (sym same)
    ∙ ap (λ b. cond b (Fails (Character (at + 4 + prefix_len is_character bytes)))
    (Holds (characters_of bytes) (4 + padded n + 4)))
    test
    ∙ ap (λ k. Fails (Character (at + 4 + k))) (sym e)

pub sized_holds : (at n : ℕ) (text bytes : List ℕ) → number_in (drop (4 + padded n) text) ≡ Some n
    → bytes ≡ take n (drop 4 text) → n ≤ prefix_len is_character bytes
    → front_sized at text n ≡ Holds (characters_of bytes) (4 + padded n + 4)
sized_holds at n text bytes some same all =
    sized_equal at n text some ∙ ap (front_of at n) (sym same)
    ∙ ap (λ b. cond b (Fails (Character (at + 4 + prefix_len is_character bytes)))
    (Holds (characters_of bytes) (4 + padded n + 4)))
    (le-ltb (prefix_len is_character bytes) n all)

-- by the length at the front
front_some : (at : ℕ) (text : List ℕ) → 0 < length text → front_in at text ≡ front_by at text (number_in text)
unfolding front_in
front_some at [] some = absurd (omega arith)
front_some at (byte ∷ bytes) some = refl

pub front_cut : (at : ℕ) (text : List ℕ) → 0 < length text → number_in text ≡ None → front_in at text ≡ Fails (Cut at)
front_cut at text some none = front_some at text some ∙ ap (front_by at text) none

-- the choices of front_by
abbrev choice : ℕ → List ℕ → ℕ → Bool → Bool → Bool → Front
choice at text n zero end flagged =
    cond zero (Holds tape_mark 4) (cond end Ends (cond flagged (Fails (Flagged at)) (front_sized at text n)))

chosen : (at n : ℕ) (text : List ℕ) (zero end flagged : Bool) → 0 < length text → number_in text ≡ Some n
    → (n == 0) ≡ zero → (n == end_length) ≡ end → nat_le flag n ≡ flagged
    → front_in at text ≡ choice at text n zero end flagged
chosen at n text zero end flagged some number z e f =
    front_some at text some ∙ ap (front_by at text) number
    ∙ ap (λ b. choice at text n b (n == end_length) (nat_le flag n)) z
    ∙ ap (λ b. choice at text n zero b (nat_le flag n)) e ∙ ap (λ b. choice at text n zero end b) f

pub front_mark : (at n : ℕ) (text : List ℕ) → 0 < length text → number_in text ≡ Some n → n ≡ 0
    → front_in at text ≡ Holds tape_mark 4
front_mark at n text some number zero =
    chosen at n text true (n == end_length) (nat_le flag n) some number (eq-eqb n 0 zero) refl refl

pub front_end : (at n : ℕ) (text : List ℕ) → 0 < length text → number_in text ≡ Some n → n ≡ end_length
    → front_in at text ≡ Ends
front_end at n text some number end =
    chosen at n text false true (nat_le flag n) some number (ne_eqb n 0 (λ zero. omega (arith, zero, end)))
    (eq-eqb n end_length end) refl

pub front_flagged : (at n : ℕ) (text : List ℕ) → 0 < length text → number_in text ≡ Some n → flag ≤ n
    → (n ≡ end_length → ⊥) → front_in at text ≡ Fails (Flagged at)
front_flagged at n text some number high other =
    chosen at n text false false true some number (ne_eqb n 0 (λ zero. omega (arith, zero, high)))
    (ne_eqb n end_length other) (le-leb flag n high)

pub front_record : (at n : ℕ) (text : List ℕ) → 0 < length text → number_in text ≡ Some n → 0 < n → n < flag
    → front_in at text ≡ front_sized at text n
front_record at n text some number low high =
    chosen at n text false false false some number (ne_eqb n 0 (λ zero. omega (arith, zero, low)))
    (ne_eqb n end_length (λ end. omega (arith, end, high))) (lt-leb flag n high)

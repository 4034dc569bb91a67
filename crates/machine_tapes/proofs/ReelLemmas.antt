-- A reel by the bytes that hold it: its records, its room, and its head at the load point.
use Rattle.std.proofs.Common.{◌≡◌, ℕ, ◌-◌, ◌≤◌, true, List, [], ◌++◌}
use Rattle.std.proofs.Common.{length, refl, sym, ap, ◌∙◌, arith}
use Rattle.std.specs.Prelude.{slice_range}
use Rattle.std.specs.List.{list_all, prefix_len}
use Rattle.std.proofs.lemmas.List.{reverse-reverse}
use Rattle.machine_tapes.specs.Held.{goes_on, records_in, is_record, IsWhole, IsWound}
use Rattle.machine_tapes.specs.Held.{held}
use Rattle.machine_tapes.specs.Reel.{Reel, characters_in, most_characters, mounted, records_of, room_in}
use Rattle.machine_tapes.specs.Reel.{after_rewind}
use Rattle.machine_tapes.proofs.HeldLemmas.{going_on-append}
use Rattle.machine_tapes.proofs.HeldLemmas.{length-range, range_split, records_in-append}
use Rattle.machine_tapes.proofs.RecordLemmas.{characters-reverse, counted, few_characters, good_records}

-- a reel of its parts
abbrev pub reel_of : List (List ℕ) → List (List ℕ) → ℕ → Reel
reel_of passed ahead capacity = record { passed = passed; ahead = ahead; capacity = capacity }

-- the records of a reel, and the characters of those passed
pub all_records : (bytes : List ℕ) (head end : ℕ) → IsWound bytes head end
    → records_in (slice_range bytes 0 end) ≡ records_of (held bytes head end)
all_records bytes head end wound =
    ap records_in (range_split bytes 0 head end (omega arith) wound.order)
    ∙ records_in-append (slice_range bytes 0 head) (slice_range bytes head end) wound.ahead
    ∙ ap (λ (front : List (List ℕ)). front ++ records_in (slice_range bytes head end))
    (sym (reverse-reverse (records_in (slice_range bytes 0 head))))

pub whole_all : (bytes : List ℕ) (head end : ℕ) → IsWound bytes head end → IsWhole (slice_range bytes 0 end)
whole_all bytes head end wound =
    ap (prefix_len goes_on) (range_split bytes 0 head end (omega arith) wound.order)
    ∙ going_on-append (slice_range bytes 0 head) (slice_range bytes head end) wound.ahead
    ∙ wound.passed

pub room_left : (bytes : List ℕ) (head end : ℕ) → IsWound bytes head end → room_in (held bytes head end)
    ≡ length bytes - head
room_left bytes head end wound =
    let passed = slice_range bytes 0 head in
    let size : length passed ≡ head - 0 = length-range bytes 0 head (omega (arith, wound.order, wound.inside)) in
    let count : characters_in (records_in passed) ≡ head = omega (arith, counted passed, wound.passed, size) in
    ap (λ n. length bytes - n) (characters-reverse (records_in passed) ∙ count)

-- the head is at the load point
pub rewound : (bytes : List ℕ) (head end : ℕ) → IsWound bytes head end → held bytes 0 end
    ≡ after_rewind (held bytes head end)
unfolding records_in
rewound bytes head end wound =
    ap (λ (records : List (List ℕ)). reel_of [] records (length bytes)) (all_records bytes head end wound)

pub whole_rewound : (bytes : List ℕ) (head end : ℕ) → IsWound bytes head end → IsWound bytes 0 end
whole_rewound bytes head end wound = record {
  passed = refl;
  ahead = whole_all bytes head end wound;
  order = omega arith;
  inside = wound.inside;
  most = wound.most;
}

-- a new reel
pub held-new : (bytes : List ℕ) (capacity : ℕ) → length bytes ≡ capacity → held bytes 0 0 ≡ mounted [] capacity
unfolding records_in
held-new bytes capacity e = ap (reel_of [] []) e

pub good_ahead : (bytes : List ℕ) (head end : ℕ) → IsWound bytes head end
    → list_all is_record (records_in (slice_range bytes 0 end)) ≡ true
good_ahead bytes head end wound =
    good_records (slice_range bytes 0 end)
    (omega (arith, length-range bytes 0 end wound.inside, wound.inside, wound.most))

pub few_ahead : (bytes : List ℕ) (head end : ℕ) → IsWound bytes head end
    → characters_in (records_in (slice_range bytes 0 end)) ≤ most_characters
few_ahead bytes head end wound =
    few_characters (slice_range bytes 0 end)
    (omega (arith, length-range bytes 0 end wound.inside, wound.inside, wound.most))

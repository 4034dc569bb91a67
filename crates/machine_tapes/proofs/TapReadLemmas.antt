-- What is read of a text, by what it begins with.
use Rattle.std.proofs.Common.{◌≡◌, ℕ, zero, suc, ◌+◌, ◌-◌, ◌%◌, ◌<◌, ◌≤◌, cond, List, [], ◌∷◌, ◌++◌, length, drop}
use Rattle.std.proofs.Common.{reverse, Ok, Err, IsOk, refl, sym, ap, subst, ◌∙◌, arith, length-drop, rules}
use Rattle.std.proofs.Math.Nat.{add-zero}
use Rattle.std.proofs.lemmas.Bool.{le-leb, lt-leb}
use Rattle.std.proofs.lemmas.Grind.{reverse_onto}
use Rattle.std.proofs.lemmas.List.{append-nil, append_assoc, length-map, reverse-reverse}
use Rattle.std.proofs.lemmas.List.Sums.{sum_by-append, sum_by-cons}
use Rattle.machine_tapes.specs.declared.fault.TapFault.{TapFault}
use Rattle.machine_tapes.specs.declared.fault.TapFault.TheVariants.{Memory, Cut, Flagged, Unequal, Character, Long}
use Rattle.machine_tapes.specs.Held.{characters_of}
use Rattle.machine_tapes.specs.Reel.{Reel, characters_in, most_characters}
use Rattle.machine_tapes.specs.Front.{Ends, Fails, BeginsWithRecord, Front, Holds, front_in}
use Rattle.machine_tapes.specs.TapReading.{Gives, IsOfText, Read, counted_on}
use Rattle.machine_tapes.specs.TapReading.{in_reel, read_by, read_from, records_or_none, with_first}
use Rattle.machine_tapes.proofs.RecordLemmas.{characters-reverse}
use Rattle.machine_tapes.proofs.ReelLemmas.{reel_of}

-- bytes that belong to the record before
pub skip : (at k : ℕ) (text : List ℕ) → k ≤ length text → read_from at k text ≡ read_from (at + k) 0 (drop k text)
unfolding read_from
skip at zero [] h = refl
skip at (suc k) [] h = absurd (omega arith)
skip at zero (byte ∷ bytes) h = ap (λ n. read_from n 0 (byte ∷ bytes)) (sym (add-zero at))
skip at (suc k) (byte ∷ bytes) h =
    let e : at + 1 + k ≡ at + suc k = omega arith in
    skip (at + 1) k bytes (omega arith) ∙ ap (λ n. read_from n 0 (drop k bytes)) e

holds_by : (at : ℕ) (byte : ℕ) (bytes characters : List ℕ) (size : ℕ)
    → front_in at (byte ∷ bytes) ≡ Holds characters (suc size) → size ≤ length bytes
    → read_from at 0 (byte ∷ bytes) ≡ with_first characters (read_from (at + suc size) 0 (drop size bytes))
unfolding read_from
holds_by at byte bytes characters size front inside =
    let e : at + 1 + size ≡ at + suc size = omega arith in
    let less : suc size - 1 ≡ size = omega arith in
    ap (λ (f : Front). read_by f (λ more. read_from (at + 1) more bytes)) front
    ∙ ap (λ k. with_first characters (read_from (at + 1) k bytes)) less
    ∙ ap (with_first characters) (skip (at + 1) size bytes inside ∙ ap (λ n. read_from n 0 (drop size bytes)) e)

-- a record, and what follows it
pub read_holds : (at : ℕ) (text characters : List ℕ) (size : ℕ) → front_in at text ≡ Holds characters size
    → 0 < size → size ≤ length text
    → read_from at 0 text ≡ with_first characters (read_from (at + size) 0 (drop size text))
read_holds at text characters zero front some inside = absurd (omega arith)
read_holds at [] characters (suc size) front some inside = absurd (omega arith)
read_holds at (byte ∷ bytes) characters (suc size) front some inside =
    holds_by at byte bytes characters size front (omega arith)

-- the end, and a fault
pub read_ends : (at : ℕ) (text : List ℕ) → front_in at text ≡ Ends → read_from at 0 text ≡ Ok []
unfolding read_from
read_ends at [] front = refl
read_ends at (byte ∷ bytes) front = ap (λ (f : Front). read_by f (λ more. read_from (at + 1) more bytes)) front

pub read_fails : (at : ℕ) (text : List ℕ) (fault : TapFault) → front_in at text ≡ Fails fault
    → read_from at 0 text ≡ Err fault
unfolding read_from front_in
read_fails at [] fault front = absurd cc
read_fails at (byte ∷ bytes) fault front =
    ap (λ (f : Front). read_by f (λ more. read_from (at + 1) more bytes)) front

-- after the first record of what is left of a text
pub read_first : (whole text bytes beyond : List ℕ) → length text ≤ length whole
    → BeginsWithRecord (length whole - length text) text bytes beyond
    → read_from (length whole - length text) 0 text
    ≡ with_first (characters_of bytes) (read_from (length whole - length beyond) 0 beyond)
read_first whole text bytes beyond inside first =
    let left : length beyond ≡ length text - first.size = ap length first.rest ∙ length-drop first.size text in
    let some : 0 < first.size = omega (arith, left, first.more, first.inside) in
    let e : length whole - length text + first.size ≡ length whole - length beyond =
    omega (arith, left, first.inside, inside) in
    read_holds (length whole - length text) text (characters_of bytes) first.size first.front some first.inside
    ∙ ap (λ n. with_first (characters_of bytes) (read_from n 0 (drop first.size text))) e
    ∙ ap (λ (xs : List ℕ). with_first (characters_of bytes) (read_from (length whole - length beyond) 0 xs))
    (sym first.rest)

from_start : (text : List ℕ) → read_from 0 0 text ≡ read_from (length text - length text) 0 text
from_start text = let e : 0 ≡ length text - length text = omega arith in ap (λ n. read_from n 0 text) e

-- counting characters
counted_first : (count : ℕ) (bytes : List ℕ) (read : Read)
    → counted_on count (with_first (characters_of bytes) read) ≡ counted_on (count + length bytes) read
counted_first count bytes (Ok records) =
    let one = sum_by-cons length (characters_of bytes) records in
    let size = length-map bytes (λ (byte : ℕ). byte % 64) in
    let e : count + characters_in (characters_of bytes ∷ records) ≡ count + length bytes + characters_in records =
    omega (arith, one, size) in
    ap Ok e
counted_first count bytes (Err fault) = refl

pub count_start : (text : List ℕ) → counted_on 0 (read_from (length text - length text) 0 text)
    ≡ counted_on 0 (read_from 0 0 text)
count_start text = ap (counted_on 0) (sym (from_start text))

pub count_more : (whole text bytes beyond : List ℕ) (count : ℕ) (read : Read) → length text ≤ length whole
    → BeginsWithRecord (length whole - length text) text bytes beyond
    → counted_on count (read_from (length whole - length text) 0 text) ≡ counted_on 0 read
    → counted_on (count + length bytes) (read_from (length whole - length beyond) 0 beyond) ≡ counted_on 0 read
count_more whole text bytes beyond count read inside first so_far =
    sym (counted_first count bytes (read_from (length whole - length beyond) 0 beyond))
    ∙ sym (ap (counted_on count) (read_first whole text bytes beyond inside first)) ∙ so_far

-- the count at the end, by what is read
count_by : (read : Read) (count : ℕ) → Ok (count + 0) ≡ counted_on 0 read → IsOk read
    × (characters_in (records_or_none read) ≡ count)
count_by (Ok records) count e =
    let same : count + 0 ≡ 0 + characters_in records = cc in (search rules, omega (arith, same))
count_by (Err fault) count e = absurd cc

pub count_long : (read : Read) (count : ℕ) → Ok (count + 0) ≡ counted_on 0 read → most_characters < count
    → Err Long ≡ counted_on 0 (in_reel read)
count_long (Ok records) count e many =
    let same : count + 0 ≡ 0 + characters_in records = cc in
    sym (ap (λ b. counted_on 0 (cond b (Ok records) (Err Long)))
    (lt-leb (characters_in records) most_characters (omega (arith, same, many))))
count_long (Err fault) count e many = absurd cc

pub count_whole : (read : Read) (count : ℕ) → Ok (count + 0) ≡ counted_on 0 read → count ≤ most_characters
    → Ok count ≡ counted_on 0 (in_reel read)
count_whole (Ok records) count e few =
    let same : count + 0 ≡ 0 + characters_in records = cc in
    let sum : count ≡ 0 + characters_in records = omega (arith, same) in
    ap Ok sum
    ∙ sym (ap (λ b. counted_on 0 (cond b (Ok records) (Err Long)))
    (le-leb (characters_in records) most_characters (omega (arith, same, few))))
count_whole (Err fault) count e few = absurd cc

pub count_fails : (read : Read) (fault : TapFault) → Err fault ≡ counted_on 0 read
    → Err fault ≡ counted_on 0 (in_reel read)
count_fails (Ok records) fault e = absurd cc
count_fails (Err found) fault e = e

-- a text with a fault
abbrev failed : TapFault → Read
failed fault = Err fault

-- records in front of what is read
abbrev pub after_all : List (List ℕ) → Read → Read
after_all front (Ok records) = Ok (front ++ records)
after_all front (Err fault) = Err fault

after_first : (front : List (List ℕ)) (characters : List ℕ) (read : Read)
    → after_all front (with_first characters read) ≡ after_all (front ++ characters ∷ []) read
after_first front characters (Ok records) = ap Ok (sym (append_assoc front (characters ∷ []) records))
after_first front characters (Err fault) = refl

none_before : (read : Read) → after_all [] read ≡ read
none_before (Ok records) = refl
none_before (Err fault) = refl

pub wind_start : (text : List ℕ) → after_all [] (read_from (length text - length text) 0 text) ≡ read_from 0 0 text
wind_start text = none_before (read_from (length text - length text) 0 text) ∙ sym (from_start text)

pub wind_more : (whole text bytes beyond : List ℕ) (passed : List (List ℕ)) (read : Read)
    → length text ≤ length whole → BeginsWithRecord (length whole - length text) text bytes beyond
    → after_all (reverse passed) (read_from (length whole - length text) 0 text) ≡ read
    → after_all (reverse (characters_of bytes ∷ passed)) (read_from (length whole - length beyond) 0 beyond) ≡ read
wind_more whole text bytes beyond passed read inside first so_far =
    let rest = read_from (length whole - length beyond) 0 beyond in
    ap (λ (front : List (List ℕ)). after_all front rest) (reverse_onto passed (characters_of bytes) [])
    ∙ sym (after_first (reverse passed) (characters_of bytes) rest)
    ∙ sym (ap (after_all (reverse passed)) (read_first whole text bytes beyond inside first)) ∙ so_far

-- there is room for the next record, if the text is read
room_by : (passed : List (List ℕ)) (bytes : List ℕ) (rest read : Read) (capacity : ℕ)
    → after_all (reverse passed) (with_first (characters_of bytes) rest) ≡ read → IsOk read
    → characters_in (records_or_none read) ≤ capacity → length bytes ≤ capacity - characters_in passed
room_by passed bytes (Ok records) read capacity e good room =
    let all : characters_in (records_or_none read) ≡ characters_in (reverse passed ++ characters_of bytes ∷ records) =
    ap (λ (r : Read). characters_in (records_or_none r)) (sym e) in
    let parts = sum_by-append length (reverse passed) (characters_of bytes ∷ records) in
    let one = sum_by-cons length (characters_of bytes) records in
    let size = length-map bytes (λ (byte : ℕ). byte % 64) in
    omega (arith, all, parts, one, size, characters-reverse passed, room)
room_by passed bytes (Err fault) read capacity e good room =
    let bad : IsOk (failed fault) = subst (λ (r : Read). IsOk r) (sym e) good in absurd (search rules)

pub wind_room : (whole text bytes beyond : List ℕ) (passed : List (List ℕ)) (read : Read) (capacity : ℕ)
    → length text ≤ length whole → BeginsWithRecord (length whole - length text) text bytes beyond
    → after_all (reverse passed) (read_from (length whole - length text) 0 text) ≡ read → IsOk read
    → characters_in (records_or_none read) ≤ capacity → length bytes ≤ capacity - characters_in passed
wind_room whole text bytes beyond passed read capacity inside first so_far good room =
    room_by passed bytes (read_from (length whole - length beyond) 0 beyond) read capacity
    (sym (ap (after_all (reverse passed)) (read_first whole text bytes beyond inside first)) ∙ so_far) good room

-- all is read
pub wind_end : (passed : List (List ℕ)) (rest read : Read) → rest ≡ Ok [] → after_all (reverse passed) rest ≡ read
    → passed ≡ reverse (records_or_none read)
wind_end passed rest read none so_far =
    sym (reverse-reverse passed) ∙ ap reverse (sym (append-nil (reverse passed)))
    ∙ ap (λ (r : Read). reverse (records_or_none r)) (sym (ap (after_all (reverse passed)) none) ∙ so_far)

pub wind_fails : (passed : List (List ℕ)) (rest read : Read) (fault : TapFault) → rest ≡ Err fault
    → after_all (reverse passed) rest ≡ read → IsOk read → ⊥
wind_fails passed rest read fault bad so_far good =
    let e : read ≡ Err fault = sym so_far ∙ ap (after_all (reverse passed)) bad in
    let not_ok : IsOk (failed fault) = subst (λ (r : Read). IsOk r) e good in search rules

-- what a call answers
pub gives_fault : (fault : TapFault) (capacity : ℕ) (read : Read) → Err fault ≡ counted_on 0 read → IsOfText fault
    → Gives (Err fault) capacity read
gives_fault Memory capacity read e own = absurd own
gives_fault (Cut at) capacity (Ok records) e own = absurd cc
gives_fault (Cut at) capacity (Err found) e own = let same : found ≡ Cut at = cc in ap Err same
gives_fault (Flagged at) capacity (Ok records) e own = absurd cc
gives_fault (Flagged at) capacity (Err found) e own = let same : found ≡ Flagged at = cc in ap Err same
gives_fault (Unequal at) capacity (Ok records) e own = absurd cc
gives_fault (Unequal at) capacity (Err found) e own = let same : found ≡ Unequal at = cc in ap Err same
gives_fault (Character at) capacity (Ok records) e own = absurd cc
gives_fault (Character at) capacity (Err found) e own = let same : found ≡ Character at = cc in ap Err same
gives_fault Long capacity (Ok records) e own = absurd cc
gives_fault Long capacity (Err found) e own = let same : found ≡ Long = cc in ap Err same

-- a reel by its parts
pub same_reel : (reel old : Reel) (passed : List (List ℕ)) → reel.passed ≡ passed → reel.ahead ≡ old.ahead
    → reel.capacity ≡ old.capacity → reel ≡ record old { passed = passed }
same_reel reel old passed p a c =
    ap (λ (records : List (List ℕ)). reel_of records reel.ahead reel.capacity) p
    ∙ ap (λ (records : List (List ℕ)). reel_of passed records reel.capacity) a ∙ ap (reel_of passed old.ahead) c

-- Texts of reels worked out by hand, and a file written by SIMH.
use Rattle.std.proofs.Common.{◌≡◌, ℕ, List, [], ◌∷◌, Ok, Err, refl, arith}
use Rattle.machine_tapes.specs.declared.fault.TapFault.TheVariants.{Cut, Flagged, Unequal, Character}
use Rattle.machine_tapes.specs.Front.{front_in, front_sized, number_in}
use Rattle.machine_tapes.specs.TapGrammar.{IsTapOf, ends, ends_early, has_mark, has_record}
use Rattle.machine_tapes.specs.TapReading.{read_from, records_read}
use Rattle.machine_tapes.specs.TapText.{length_text, odd_byte, record_text, tap_text}

lengths_begin_with_the_low_byte : length_text 67305985 ≡ 1 ∷ 2 ∷ 3 ∷ 4 ∷ []
unfolding length_text
lengths_begin_with_the_low_byte = refl

-- two characters, then three
an_even_record : record_text (49 ∷ 50 ∷ []) ≡ 2 ∷ 0 ∷ 0 ∷ 0 ∷ 49 ∷ 50 ∷ 2 ∷ 0 ∷ 0 ∷ 0 ∷ []
unfolding length_text odd_byte record_text
an_even_record = refl

an_odd_record : record_text (49 ∷ 50 ∷ 51 ∷ []) ≡ 3 ∷ 0 ∷ 0 ∷ 0 ∷ 49 ∷ 50 ∷ 51 ∷ 0 ∷ 3 ∷ 0 ∷ 0 ∷ 0 ∷ []
unfolding length_text odd_byte record_text
an_odd_record = refl

a_tape_mark : record_text (15 ∷ []) ≡ 0 ∷ 0 ∷ 0 ∷ 0 ∷ []
unfolding length_text odd_byte record_text
a_tape_mark = refl

-- two files of a record each
two_files : tap_text ((49 ∷ 50 ∷ []) ∷ (15 ∷ []) ∷ (51 ∷ []) ∷ (15 ∷ []) ∷ [])
    ≡ 2 ∷ 0 ∷ 0 ∷ 0 ∷ 49 ∷ 50 ∷ 2 ∷ 0 ∷ 0 ∷ 0 ∷ 0 ∷ 0 ∷ 0 ∷ 0
    ∷ 1 ∷ 0 ∷ 0 ∷ 0 ∷ 51 ∷ 0 ∷ 1 ∷ 0 ∷ 0 ∷ 0 ∷ 0 ∷ 0 ∷ 0 ∷ 0 ∷ []
unfolding length_text odd_byte record_text tap_text
two_files = refl

-- The 46 bytes that i1401 of SIMH 3.8.1 wrote for moves of ABC, A B9 and Z to %U1, with a tape mark after ABC and two
-- after Z. It leaves the character before in the byte after Z.
abbrev simh_text : List ℕ
simh_text =
    3 ∷ 0 ∷ 0 ∷ 0 ∷ 49 ∷ 50 ∷ 51 ∷ 0 ∷ 3 ∷ 0 ∷ 0 ∷ 0 ∷ 0 ∷ 0 ∷ 0 ∷ 0
    ∷ 4 ∷ 0 ∷ 0 ∷ 0 ∷ 49 ∷ 16 ∷ 50 ∷ 9 ∷ 4 ∷ 0 ∷ 0 ∷ 0
    ∷ 1 ∷ 0 ∷ 0 ∷ 0 ∷ 25 ∷ 16 ∷ 1 ∷ 0 ∷ 0 ∷ 0 ∷ 0 ∷ 0 ∷ 0 ∷ 0 ∷ 0 ∷ 0 ∷ 0 ∷ 0 ∷ []

abbrev simh_records : List (List ℕ)
simh_records =
    (49 ∷ 50 ∷ 51 ∷ []) ∷ (15 ∷ []) ∷ (49 ∷ 16 ∷ 50 ∷ 9 ∷ []) ∷ (25 ∷ []) ∷ (15 ∷ []) ∷ (15 ∷ []) ∷ []

what_simh_wrote_is_read : records_read simh_text ≡ Ok simh_records
unfolding front_in front_sized number_in read_from
what_simh_wrote_is_read = refl

-- the same with a byte 0 after Z
what_is_written_of_it : tap_text simh_records
    ≡ 3 ∷ 0 ∷ 0 ∷ 0 ∷ 49 ∷ 50 ∷ 51 ∷ 0 ∷ 3 ∷ 0 ∷ 0 ∷ 0 ∷ 0 ∷ 0 ∷ 0 ∷ 0
    ∷ 4 ∷ 0 ∷ 0 ∷ 0 ∷ 49 ∷ 16 ∷ 50 ∷ 9 ∷ 4 ∷ 0 ∷ 0 ∷ 0
    ∷ 1 ∷ 0 ∷ 0 ∷ 0 ∷ 25 ∷ 0 ∷ 1 ∷ 0 ∷ 0 ∷ 0 ∷ 0 ∷ 0 ∷ 0 ∷ 0 ∷ 0 ∷ 0 ∷ 0 ∷ 0 ∷ []
unfolding length_text odd_byte record_text tap_text
what_is_written_of_it = refl

an_empty_text_is_an_empty_reel : records_read [] ≡ Ok []
unfolding read_from
an_empty_text_is_an_empty_reel = refl

-- A with its parity
parity_is_dropped : records_read (1 ∷ 0 ∷ 0 ∷ 0 ∷ 113 ∷ 255 ∷ 1 ∷ 0 ∷ 0 ∷ 0 ∷ []) ≡ Ok ((49 ∷ []) ∷ [])
unfolding front_in front_sized number_in read_from
parity_is_dropped = refl

-- A record of 8-4-2-1 alone is a tape mark, whichever way it is written.
a_mark_as_a_record : records_read (1 ∷ 0 ∷ 0 ∷ 0 ∷ 15 ∷ 0 ∷ 1 ∷ 0 ∷ 0 ∷ 0 ∷ []) ≡ Ok ((15 ∷ []) ∷ [])
unfolding front_in front_sized number_in read_from
a_mark_as_a_record = refl

-- What follows a length of all ones isn't read.
all_ones_end_it : records_read (0 ∷ 0 ∷ 0 ∷ 0 ∷ 255 ∷ 255 ∷ 255 ∷ 255 ∷ 9 ∷ 9 ∷ []) ≡ Ok ((15 ∷ []) ∷ [])
unfolding front_in front_sized number_in read_from
all_ones_end_it = refl

-- the end in a length, in the characters, before the byte after them, and in the length after them
cut_in_a_length : records_read (0 ∷ 0 ∷ 0 ∷ 0 ∷ 2 ∷ 0 ∷ 0 ∷ []) ≡ Err (Cut 4)
unfolding front_in front_sized number_in read_from
cut_in_a_length = refl

cut_in_a_record : records_read (2 ∷ 0 ∷ 0 ∷ 0 ∷ 49 ∷ []) ≡ Err (Cut 0)
unfolding front_in front_sized number_in read_from
cut_in_a_record = refl

no_byte_after_an_odd_record : records_read (0 ∷ 0 ∷ 0 ∷ 0 ∷ 1 ∷ 0 ∷ 0 ∷ 0 ∷ 49 ∷ 1 ∷ 0 ∷ 0 ∷ 0 ∷ []) ≡ Err (Cut 4)
unfolding front_in front_sized number_in read_from
no_byte_after_an_odd_record = refl

cut_in_the_length_after : records_read (2 ∷ 0 ∷ 0 ∷ 0 ∷ 49 ∷ 50 ∷ 2 ∷ 0 ∷ 0 ∷ []) ≡ Err (Cut 0)
unfolding front_in front_sized number_in read_from
cut_in_the_length_after = refl

-- the first length with bit 31
a_record_with_an_error : records_read (0 ∷ 0 ∷ 0 ∷ 0 ∷ 2 ∷ 0 ∷ 0 ∷ 128 ∷ 49 ∷ 50 ∷ 2 ∷ 0 ∷ 0 ∷ 128 ∷ [])
    ≡ Err (Flagged 4)
unfolding front_in front_sized number_in read_from
a_record_with_an_error = refl

a_gap : records_read (254 ∷ 255 ∷ 255 ∷ 255 ∷ []) ≡ Err (Flagged 0)
unfolding front_in front_sized number_in read_from
a_gap = refl

-- 2 before, 3 after
lengths_that_differ : records_read (0 ∷ 0 ∷ 0 ∷ 0 ∷ 2 ∷ 0 ∷ 0 ∷ 0 ∷ 49 ∷ 50 ∷ 3 ∷ 0 ∷ 0 ∷ 0 ∷ []) ≡ Err (Unequal 10)
unfolding front_in front_sized number_in read_from
lengths_that_differ = refl

-- the second of three bytes has bit 7
bit_seven_is_none : records_read (3 ∷ 0 ∷ 0 ∷ 0 ∷ 49 ∷ 178 ∷ 51 ∷ 0 ∷ 3 ∷ 0 ∷ 0 ∷ 0 ∷ []) ≡ Err (Character 5)
unfolding front_in front_sized number_in read_from
bit_seven_is_none = refl

-- The lengths are looked at before the characters, and the first record before the second.
lengths_come_first : records_read (2 ∷ 0 ∷ 0 ∷ 0 ∷ 49 ∷ 178 ∷ 3 ∷ 0 ∷ 0 ∷ 0 ∷ []) ≡ Err (Unequal 6)
unfolding front_in front_sized number_in read_from
lengths_come_first = refl

the_first_fault_counts : records_read (2 ∷ 0 ∷ 0 ∷ 0 ∷ 49 ∷ 178 ∷ 2 ∷ 0 ∷ 0 ∷ 0 ∷ 2 ∷ []) ≡ Err (Character 5)
unfolding front_in front_sized number_in read_from
the_first_fault_counts = refl

-- The grammar has a tape mark before a length of all ones, and A with its parity before a byte that can be anything.
a_mark_before_the_end : IsTapOf (0 ∷ 0 ∷ 0 ∷ 0 ∷ 255 ∷ 255 ∷ 255 ∷ 255 ∷ 9 ∷ []) ((15 ∷ []) ∷ [])
unfolding length_text
a_mark_before_the_end = has_mark (255 ∷ 255 ∷ 255 ∷ 255 ∷ 9 ∷ []) [] (ends_early (9 ∷ []))

an_odd_record_with_parity : IsTapOf (1 ∷ 0 ∷ 0 ∷ 0 ∷ 113 ∷ 255 ∷ 1 ∷ 0 ∷ 0 ∷ 0 ∷ []) ((49 ∷ []) ∷ [])
unfolding length_text
an_odd_record_with_parity =
    has_record (113 ∷ []) (255 ∷ []) [] []
    (record { some = omega arith; few = omega arith; all = refl; more = refl }) ends

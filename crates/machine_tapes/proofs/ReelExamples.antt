-- Reels worked out by hand, with A, B, C and D as 49 to 52.
use Rattle.std.proofs.Common.{◌≡◌, true, false, [], ◌∷◌, refl}
use Rattle.machine_tapes.specs.Held.{first_size, held, is_record, records_in}
use Rattle.machine_tapes.specs.Reel.{Reel, after_add, after_backspace, after_pass, after_rewind, after_write}
use Rattle.machine_tapes.specs.Reel.{is_tape_mark, mounted, records_of, room_in, tape_mark}

-- AB, a tape mark and C, written one after the other
abbrev three : Reel
three = after_write (after_write (after_write (mounted [] 10) (49 ∷ 50 ∷ [])) tape_mark) (51 ∷ [])

the_newest_comes_first : three
    ≡ record { passed = (51 ∷ []) ∷ (15 ∷ []) ∷ (49 ∷ 50 ∷ []) ∷ []; ahead = []; capacity = 10 }
the_newest_comes_first = refl

four_of_ten_are_taken : room_in three ≡ 6
four_of_ten_are_taken = refl

a_rewind_leaves_all_ahead : after_rewind three ≡ mounted ((49 ∷ 50 ∷ []) ∷ (15 ∷ []) ∷ (51 ∷ []) ∷ []) 10
a_rewind_leaves_all_ahead = refl

rewound_it_has_room_for_ten : room_in (after_rewind three) ≡ 10
rewound_it_has_room_for_ten = refl

-- Backspace stays at the load point, and a pass at the end.
backspace_stays_at_the_load_point : after_backspace (after_rewind three) ≡ after_rewind three
backspace_stays_at_the_load_point = refl

a_pass_stays_at_the_end : after_pass three ≡ three
a_pass_stays_at_the_end = refl

a_backspace_and_a_pass : after_pass (after_backspace three) ≡ three
a_backspace_and_a_pass = refl

-- D is written over the tape mark, and C is gone too.
what_was_ahead_is_gone : records_of (after_write (after_backspace (after_backspace three)) (52 ∷ []))
    ≡ (49 ∷ 50 ∷ []) ∷ (52 ∷ []) ∷ []
what_was_ahead_is_gone = refl

a_record_grows : after_add (after_write (mounted [] 10) (49 ∷ [])) 50 ≡ after_write (mounted [] 10) (49 ∷ 50 ∷ [])
a_record_grows = refl

-- bit 7 begins each record
bytes_of_three : records_in (177 ∷ 50 ∷ 143 ∷ 179 ∷ []) ≡ (49 ∷ 50 ∷ []) ∷ (15 ∷ []) ∷ (51 ∷ []) ∷ []
unfolding records_in
bytes_of_three = refl

the_head_between_them : held (177 ∷ 50 ∷ 143 ∷ 179 ∷ 0 ∷ 0 ∷ []) 2 4
    ≡ record { passed = (49 ∷ 50 ∷ []) ∷ []; ahead = (15 ∷ []) ∷ (51 ∷ []) ∷ []; capacity = 6 }
unfolding records_in
the_head_between_them = refl

the_first_takes_two : first_size (177 ∷ 50 ∷ 143 ∷ 179 ∷ []) ≡ 2
the_first_takes_two = refl

-- 8-4-2-1 alone is a tape mark
alone_it_is_a_mark : is_tape_mark (15 ∷ []) ≡ true
alone_it_is_a_mark = refl

twice_it_is_none : is_tape_mark (15 ∷ 15 ∷ []) ≡ false
twice_it_is_none = refl

another_is_none : is_tape_mark (14 ∷ []) ≡ false
another_is_none = refl

nothing_is_no_record : is_record [] ≡ false
nothing_is_no_record = refl

sixty_four_is_no_character : is_record (63 ∷ 64 ∷ []) ≡ false
sixty_four_is_no_character = refl

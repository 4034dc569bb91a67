-- Entries by their seats, and seats that gave the commands of entries.
use Rattle.std.proofs.Common.{◌≡◌, ℕ, zero, suc, ◌+◌, ◌<◌, ◌≤◌, ◌⊎◌, inl, inr, Bool, true, false, nat_lt, ◌||◌}
use Rattle.std.proofs.Common.{if◌then◌else◌, List, [], ◌∷◌, ◌++◌, take, drop, length, get_or, slice_set, Option, None}
use Rattle.std.proofs.Common.{Some, All, ◌↔◌}
use Rattle.std.proofs.Common.{refl, sym, ap, subst, ◌∙◌, arith}
use Rattle.std.proofs.lemmas.Bool.{cases_lt}
use Rattle.std.proofs.lemmas.Bool.Decides.{nat_tests}
use Rattle.std.proofs.lemmas.Option.{none-some}
use Rattle.std.proofs.lemmas.List.Elements.{All-cons, All-head, All-nil, All-tail}
use Rattle.std.proofs.lemmas.List.{drop_more, get_or-map, length-take-le, take-append-drop}
use Rattle.std.proofs.Math.Seq.{map-set_same, set-append_seam}
use Rattle.machine_commands.specs.declared.answer.Answer.{Answer}
use Rattle.room_alone.specs.declared.entry.Entry.{Entry}
use Rattle.room_1401.specs.Seen.{SeatView, Carries}
use Rattle.console_1401.specs.Served.{AreAllSeats}
use Rattle.serving_room.specs.Giving.{Gives, GiveAll, IsSeated, foreign_in, giver}
use Rattle.serving_room.proofs.PlacesLemmas.{length_seats, number_at}

chosen : (below above : Bool) (least most : ℕ) (entry : Entry) (entries : List Entry) → nat_lt entry.seat least ≡ below
    → nat_lt most entry.seat ≡ above
    → foreign_in least most (entry ∷ entries)
    ≡ (if below || above then Some entry.seat else foreign_in least most entries)
chosen below above least most entry entries is_below is_above =
    ap (λ test. if test || nat_lt most entry.seat then Some entry.seat else foreign_in least most entries) is_below
    ∙ ap (λ test. if below || test then Some entry.seat else foreign_in least most entries) is_above

-- the first entry is of one of these seats
pub own_first : (least most : ℕ) (entry : Entry) (entries : List Entry) → least ≤ entry.seat → entry.seat ≤ most
    → foreign_in least most (entry ∷ entries) ≡ foreign_in least most entries
own_first least most entry entries low high =
    chosen false false least most entry entries (grind (arith, nat_tests)) (grind (arith, nat_tests))

-- the first entry is of a seat below them
pub below_first : (least most : ℕ) (entry : Entry) (entries : List Entry) → entry.seat < least
    → foreign_in least most (entry ∷ entries) ≡ Some entry.seat
below_first least most entry entries low =
    chosen true (nat_lt most entry.seat) least most entry entries (grind (arith, nat_tests)) refl

by_first : (below : Bool) (least most : ℕ) (entry : Entry) (entries : List Entry) → nat_lt entry.seat least ≡ below
    → nat_lt most entry.seat ≡ true → foreign_in least most (entry ∷ entries) ≡ Some entry.seat
by_first true least most entry entries is_below is_above = chosen true true least most entry entries is_below is_above
by_first false least most entry entries is_below is_above = chosen false true least most entry entries is_below is_above

-- the first entry is of a seat above them
pub above_first : (least most : ℕ) (entry : Entry) (entries : List Entry) → most < entry.seat
    → foreign_in least most (entry ∷ entries) ≡ Some entry.seat
above_first least most entry entries high =
    by_first (nat_lt entry.seat least) least most entry entries refl (grind (arith, nat_tests))

seated_by : (most : ℕ) (entry : Entry) (entries : List Entry) (i : ℕ) (d : Entry)
    → (most < entry.seat) ⊎ (entry.seat ≤ most)
    → ((k : ℕ) → foreign_in 0 most entries ≡ None → k < length entries → (get_or entries k d).seat ≤ most)
    → foreign_in 0 most (entry ∷ entries) ≡ None → i < suc (length entries)
    → (get_or (entry ∷ entries) i d).seat ≤ most
seated_by most entry entries i d (inl high) more none less =
    absurd (none-some entry.seat (sym none ∙ above_first 0 most entry entries high))
seated_by most entry entries zero d (inr high) more none less = high
seated_by most entry entries (suc i) d (inr high) more none less =
    more i (sym (own_first 0 most entry entries (omega arith) high) ∙ none) (omega arith)

-- if no seat is foreign, each entry's is one of them
pub seated : (most : ℕ) (entries : List Entry) (i : ℕ) (d : Entry) → foreign_in 0 most entries ≡ None
    → i < length entries → (get_or entries i d).seat ≤ most
seated most [] i d none less = absurd (omega arith)
seated most (entry ∷ entries) i d none less =
    seated_by most entry entries i d (cases_lt most entry.seat) (λ k. seated most entries k d) none less

seated_first : (least most : ℕ) (entry : Entry) (entries : List Entry) → (entry.seat < least) ⊎ (least ≤ entry.seat)
    → (most < entry.seat) ⊎ (entry.seat ≤ most)
    → (foreign_in least most entries ≡ None → All (IsSeated least most) entries)
    → foreign_in least most (entry ∷ entries) ≡ None → All (IsSeated least most) (entry ∷ entries)
seated_first least most entry entries (inl low) high more none =
    absurd (none-some entry.seat (sym none ∙ below_first least most entry entries low))
seated_first least most entry entries (inr low) (inl high) more none =
    absurd (none-some entry.seat (sym none ∙ above_first least most entry entries high))
seated_first least most entry entries (inr low) (inr high) more none =
    All-cons (IsSeated least most) entry entries (low, high) (more (sym (own_first least most entry entries low high) ∙ none))

-- if no seat is foreign, each entry is of one of these seats
pub all_seated : (least most : ℕ) (entries : List Entry) → foreign_in least most entries ≡ None
    → All (IsSeated least most) entries
all_seated least most [] none = All-nil (IsSeated least most)
all_seated least most (entry ∷ entries) none =
    seated_first least most entry entries (cases_lt entry.seat least) (cases_lt most entry.seat)
    (all_seated least most entries) none

-- if each entry is of one of these seats, no seat is foreign
pub none_foreign : (least most : ℕ) (entries : List Entry) → All (IsSeated least most) entries
    → foreign_in least most entries ≡ None
none_foreign least most [] all = refl
none_foreign least most (entry ∷ entries) all =
    let own = All-head (IsSeated least most) entry entries all in
    own_first least most entry entries own.0 own.1
    ∙ none_foreign least most entries (All-tail (IsSeated least most) entry entries all)

-- what is found is no seat exactly if each entry is of one of these
pub foreign_none : (least most : ℕ) (entries : List Entry) (found : Option ℕ) → found ≡ foreign_in least most entries
    → (found ≡ None) ↔ All (IsSeated least most) entries
foreign_none least most entries found is =
    ((λ none. all_seated least most entries (sym is ∙ none)), (λ all. is ∙ none_foreign least most entries all))

-- the seat at an index has the next number
pub seat_number : (n : ℕ) (seats : List SeatView) (at : ℕ) (seat : SeatView) → AreAllSeats n seats → at < n
    → seat ≡ get_or seats at seat → seat.number ≡ at + 1
seat_number n seats at seat all less is =
    ap (λ (it : SeatView). it.number) is
    ∙ sym (get_or-map (λ (it : SeatView). it.number) seats at seat 0 (omega (arith, length_seats n seats all)))
    ∙ ap (λ numbers. get_or numbers at 0) all
    ∙ number_at n at less

-- all seats are there after one of them has changed, and kept its number
pub seats_stay : (n : ℕ) (seats : List SeatView) (at : ℕ) (before after : SeatView) → AreAllSeats n seats
    → before ≡ get_or seats at before → after.number ≡ before.number → AreAllSeats n (slice_set seats at after)
seats_stay n seats at before after all is same =
    map-set_same (λ (seat : SeatView). seat.number) seats at after before (same ∙ ap (λ (it : SeatView). it.number) is) ∙ all

-- the seat at an index gave the command of an entry
pub gives_at : (n size : ℕ) (entry : Entry) (seats : List SeatView) (at : ℕ) (before after : SeatView) (answer : Answer)
    → AreAllSeats n seats → at < n → at + 1 ≡ giver entry → before ≡ get_or seats at before
    → after.number ≡ before.number → after.made ≡ before.made + 1
    → Carries size before.list after.list before.number entry.command answer
    → Gives size entry seats (slice_set seats at after)
gives_at n size entry seats at before after answer all less by is number made carried =
    let inside : at < length seats = omega (arith, less, length_seats n seats all) in
    let front = take at seats in
    let beyond = drop (at + 1) seats in
    let split : seats ≡ front ++ before ∷ beyond =
    sym (take-append-drop at seats)
    ∙ ap (λ rest. front ++ rest) (drop_more seats at before inside ∙ ap (λ first. first ∷ beyond) (sym is)) in
    let len : length front ≡ at = length-take-le at seats (omega (arith, inside)) in
    record {
      front = front;
      beyond = beyond;
      before = before;
      after = after;
      old_is = split;
      new_is = ap (λ all. slice_set all at after) split
          ∙ subst (λ place. slice_set (front ++ before ∷ beyond) place after ≡ front ++ after ∷ beyond) len
          (set-append_seam front before beyond after);
      of = seat_number n seats at before all less is ∙ by;
      number = number;
      made = made;
      answer = answer;
      carried = carried;
    }

-- one command more
pub give_more : (size : ℕ) (entries : List Entry) (entry : Entry) (old seats new : List SeatView)
    → GiveAll size entries old seats → Gives size entry seats new → GiveAll size (entries ++ entry ∷ []) old new
give_more size [] entry old seats new all last =
    (new, subst (λ before. Gives size entry before new) (sym all) last, refl)
give_more size (first ∷ entries) entry old seats new all last =
    (all.0, all.1, give_more size entries entry all.0 seats new all.2 last)

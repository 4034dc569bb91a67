-- Each entry's command is given by the seat whose number is due.
use Rattle.std.proofs.Common.{◌≡◌, ℕ, ◌+◌, ◌-◌, ◌<◌, ◌≤◌, List, ◌++◌, ◌∷◌, [], ◌∙◌, take, get_or, slice_set, Option}
use Rattle.std.proofs.Common.{None, refl, sym, ap}
use Rattle.std.proofs.Common.{subst, arith}
use Rattle.std.proofs.lemmas.Option.{none-some}
use Rattle.std.proofs.lemmas.List.{take_all, take_more}
use Rattle.room_alone.specs.declared.entry.Entry.{Entry}
use Rattle.serving_room.specs.Giving.{GiveAll, foreign_in, giver}
use Rattle.serving_room.proofs.GivingLemmas.{give_more, gives_at, seated, seats_stay}
use Rattle.serving_room.proofs.PlacesLemmas.{length_seats}
use Rattle.serving_room.proofs.giving.give_entries.Goals as goal

pub overflow_cast-len : goal.overflow_cast-len
overflow_cast-len g c =
    omega (arith, c.len.ensures, c.requires.count.1, length_seats g.J.RoomId.seats c.args.seats.now.items c.requires.seats)

-- what was found for as many seats as there are
found_in : (n len : ℕ) (entries : List Entry) (found : Option ℕ) → len ≡ n → found ≡ foreign_in 0 len entries
    → foreign_in 0 n entries ≡ found
found_in n len entries found same is = ap (λ most. foreign_in 0 most entries) (sym same) ∙ sym is

pub returns-in-Some-clause-fault : goal.returns-in-Some-clause-fault
returns-in-Some-clause-fault g c =
    let seats = g.J.RoomId.seats in
    found_in seats c.len.result c.args.entries.now c.foreign_seat.result
    (omega (arith, c.len.ensures, length_seats seats c.args.seats.now.items c.requires.seats)) c.foreign_seat.ensures.value
    ∙ c.in-Some.is

pub loop-entry-init : goal.loop-entry-init
loop-entry-init g c = record { seats = c.requires.seats; given = refl }

pub index_mut-requires : goal.index_mut-requires
index_mut-requires g c =
    let seats = g.J.RoomId.seats in
    let none : foreign_in 0 seats c.args.entries.now ≡ None =
    found_in seats c.len.result c.args.entries.now c.foreign_seat.result
    (omega (arith, c.len.ensures, length_seats seats c.args.seats.now.items c.requires.seats)) c.foreign_seat.ensures.value
    ∙ c.in_default.is in
    let own : (get_or c.args.entries.now c.loop-entry.entry-index c.entry-item.result).seat ≤ seats =
    seated seats c.args.entries.now c.loop-entry.entry-index c.entry-item.result none c.loop-entry-test.true in
    let is : c.entry-item.result.seat ≤ seats =
    subst (λ (entry : Entry). entry.seat ≤ seats) (sym c.entry-item.is) own in
    omega (
      arith,
      is,
      c.from-at.ensures,
      c.max.ensures,
      c.requires.count.0,
      length_seats seats c.loop-entry.seats.items c.loop-entry.invariant.seats,
    )

pub returns-in-Err-clause-seats : goal.returns-in-Err-clause-seats
returns-in-Err-clause-seats g c =
    seats_stay g.J.RoomId.seats c.loop-entry.seats.items (c.from-at.result - 1) c.index_mut.result.now c.give.new.seat
    c.loop-entry.invariant.seats c.index_mut.ensures.value c.give.ensures.number

pub returns-in-Err-clause-fault : goal.returns-in-Err-clause-fault
returns-in-Err-clause-fault g c =
    let seats = g.J.RoomId.seats in
    found_in seats c.len.result c.args.entries.now c.foreign_seat.result
    (omega (arith, c.len.ensures, length_seats seats c.args.seats.now.items c.requires.seats)) c.foreign_seat.ensures.value
    ∙ c.in_default.is

pub returns-in-Err-clause-none : goal.returns-in-Err-clause-none
returns-in-Err-clause-none g c = λ seat found.
    let seats = g.J.RoomId.seats in
    let none =
    found_in seats c.len.result c.args.entries.now c.foreign_seat.result
    (omega (arith, c.len.ensures, length_seats seats c.args.seats.now.items c.requires.seats)) c.foreign_seat.ensures.value
    ∙ c.in_default.is in
    absurd (none-some seat (sym none ∙ found))

pub loop-entry-preserved : goal.loop-entry-preserved
loop-entry-preserved g c =
    let seats = g.J.RoomId.seats in
    let at = c.from-at.result - 1 in
    let i = c.loop-entry.entry-index in
    let entries = c.args.entries.now in
    let entry = c.entry-item.result in
    let before = c.index_mut.result.now in
    let after = c.give.new.seat in
    let all = c.loop-entry.invariant.seats in
    let is = c.index_mut.ensures.value in
    let given = c.in_default-give.ensures in
    let none : foreign_in 0 seats entries ≡ None =
    found_in seats c.len.result entries c.foreign_seat.result
    (omega (arith, c.len.ensures, length_seats seats c.args.seats.now.items c.requires.seats)) c.foreign_seat.ensures.value
    ∙ c.in_default.is in
    let own : (get_or entries i entry).seat ≤ seats = seated seats entries i entry none c.loop-entry-test.true in
    let seat : entry.seat ≤ seats = subst (λ (it : Entry). it.seat ≤ seats) (sym c.entry-item.is) own in
    let less : at < seats = omega (arith, seat, c.from-at.ensures, c.max.ensures, c.requires.count.0) in
    let due : at + 1 ≡ giver entry = omega (arith, c.from-at.ensures, c.max.ensures) in
    let step =
    gives_at seats g.J.RoomId.size entry c.loop-entry.seats.items at before after given.carried.0 all less due is
    given.number given.made given.carried.1 in
    record {
      seats = seats_stay seats c.loop-entry.seats.items at before after all is given.number;
      given = subst (λ so_far. GiveAll g.J.RoomId.size so_far c.args.seats.now.items
          (slice_set c.loop-entry.seats.items at after))
          (ap (λ (last : Entry). take i entries ++ last ∷ []) c.entry-item.is
          ∙ sym (take_more entries i entry c.loop-entry-test.true))
          (give_more g.J.RoomId.size (take i entries) entry c.args.seats.now.items c.loop-entry.seats.items
          (slice_set c.loop-entry.seats.items at after) c.loop-entry.invariant.given step);
    }

pub returns-clause-seats : goal.returns-clause-seats
returns-clause-seats g c = c.loop-entry.invariant.seats

pub returns-clause-given : goal.returns-clause-given
returns-clause-given g c =
    subst (λ entries. GiveAll g.J.RoomId.size entries c.args.seats.now.items c.loop-entry.seats.items)
    (take_all c.loop-entry.entry-index c.args.entries.now c.loop-entry-test.false) c.loop-entry.invariant.given

pub returns-clause-none : goal.returns-clause-none
returns-clause-none g c = λ seat found.
    let seats = g.J.RoomId.seats in
    let none =
    found_in seats c.len.result c.args.entries.now c.foreign_seat.result
    (omega (arith, c.len.ensures, length_seats seats c.args.seats.now.items c.requires.seats)) c.foreign_seat.ensures.value
    ∙ c.in_default.is in
    absurd (none-some seat (sym none ∙ found))

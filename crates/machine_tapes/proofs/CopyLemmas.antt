-- A record copied from one reel to another.
use Rattle.std.proofs.Common.{◌≡◌, ℕ, zero, suc, ◌+◌, ◌<◌, ◌≤◌, ◌==◌, Bool, true, false, List, [], ◌∷◌, ◌++◌, Option, None}
use Rattle.std.proofs.Common.{Some, Ok, Err, length, take, drop, get_or, refl, sym, ap, ◌∙◌, arith}
use Rattle.std.specs.Prelude.{if◌then◌else◌, nat_le, slice_get}
use Rattle.std.proofs.Math.Seq.{take-length}
use Rattle.std.proofs.lemmas.Bool.{le-leb, lt-ltb}
use Rattle.std.proofs.lemmas.Bool.Decides.{nat_tests}
use Rattle.std.proofs.lemmas.List.{get_or-set_same, take_more}
use Rattle.bcd_1401.specs.declared.cell.Cell.{Cell}
use Rattle.core_1401.specs.Storage.{Storage, blank, cell_at, is_in_core}
use Rattle.machine_tables.specs.declared.stop.Stop.TheVariants as stop
use Rattle.fields_1401.specs.Records.{above_by}
use Rattle.machine_tapes.specs.Reel.{after_write, room_in}
use Rattle.cpu_1401.specs.State.{State}
use Rattle.machine_tapes.specs.TapeText.{cells_read, text_of}
use Rattle.machine_tapes.specs.TapesLaw.{IsCopied}
use Rattle.machine_tapes.specs.Transfer.{TapeOutcome, after_copy, after_put, copied_by, drive_after, ends_record}
use Rattle.machine_tapes.specs.Transfer.{machine_after, read_into, read_to, record_len_at, with_read, work_at, work_ready}
use Rattle.machine_tapes.specs.Transfer.{write_by, write_cells, write_from}
use Rattle.machine_tapes.specs.declared.drive.Drive.{Drive}
use Rattle.machine_tapes.specs.declared.work.TapeInstruction.{TapeInstruction}
use Rattle.machine_tapes.specs.declared.work.TapeMode.TheVariants.{Move}
use Rattle.machine_tapes.specs.declared.work.TapeWork.{TapeWork}
use Rattle.machine_tapes.specs.declared.work.TapeWork.TheVariants as work
use Rattle.machine_tapes.proofs.ReadLemmas.{read_elsewhere, read_size}
use Rattle.machine_tapes.proofs.WriteLemmas.{record_ends, text_more}

-- storage after characters were read to a place and those above it, and before
record IsMoved (s t : Storage) (at : ℕ) (chars : List ℕ) : Type 0 where
  reads : read_to Move s at (cells_read Move true chars) ≡ Some (t, at + length chars)
  size : length t ≡ length s
  there : (k : ℕ) → k < length chars → cell_at t (at + k) ≡ record (cell_at s (at + k)) { char = get_or chars k 0 }
  below : (q : ℕ) → q < at → cell_at t q ≡ cell_at s q
  above : (q : ℕ) → at + length chars ≤ q → cell_at t q ≡ cell_at s q

record CanMove (s : Storage) (at : ℕ) (chars : List ℕ) : Type 0 where
  inside : at + length chars < length s
  before : (k : ℕ) → k < length chars → ends_record (cell_at s (at + k)) ≡ false
  end : ends_record (cell_at s (at + length chars)) ≡ true

-- the place with number 0 of an area
at_zero : (s : Storage) (at : ℕ) → cell_at s (at + 0) ≡ cell_at s at
at_zero s at = ap (cell_at s) (omega arith)

-- the rest can be read after the first character
can_move_more : (s : Storage) (at char : ℕ) (chars : List ℕ) → CanMove s at (char ∷ chars)
    → CanMove (with_read Move s at (record { char = char; mark = false })) (at + 1) chars
can_move_more s at char chars can =
    let cell : Cell = record { char = char; mark = false } in
    record {
      inside = omega (arith, can.inside, read_size Move s at cell);
      before = λ k lt.
          ap ends_record (read_elsewhere Move s at cell (at + 1 + k) (omega arith)
          ∙ ap (cell_at s) (omega arith))
          ∙ can.before (k + 1) (omega (arith, lt));
      end =
          ap ends_record (read_elsewhere Move s at cell (at + 1 + length chars) (omega arith)
          ∙ ap (cell_at s) (omega arith))
          ∙ can.end;
    }

-- the first character and the rest
there_more : (s t : Storage) (at char : ℕ) (chars : List ℕ) → at < length s
    → IsMoved (with_read Move s at (record { char = char; mark = false })) t (at + 1) chars → (k : ℕ)
    → k < length (char ∷ chars)
    → cell_at t (at + k) ≡ record (cell_at s (at + k)) { char = get_or (char ∷ chars) k 0 }
there_more s t at char chars inside known zero lt =
    let cell : Cell = record { char = char; mark = false } in
    let put : Cell = read_into Move (cell_at s at) cell in
    ap (cell_at t) (omega arith) ∙ known.below at (omega arith) ∙ get_or-set_same s at put blank inside
    ∙ ap (λ (x : Cell). let made : Cell = record x { char = char } in made) (sym (at_zero s at))
there_more s t at char chars inside known (suc k) lt =
    let cell : Cell = record { char = char; mark = false } in
    let next : Storage = with_read Move s at cell in
    let place : at + 1 + k ≡ at + suc k = omega arith in
    ap (cell_at t) (sym place) ∙ known.there k (omega (arith, lt))
    ∙ ap (λ (x : Cell). let made : Cell = record x { char = get_or chars k 0 } in made)
    (read_elsewhere Move s at cell (at + 1 + k) (omega arith) ∙ ap (cell_at s) place)

-- a record is read whole
moves : (s : Storage) (at : ℕ) (chars : List ℕ) → CanMove s at chars → (t : Storage) × IsMoved s t at chars
moves s at [] can =
    let here : at + 0 ≡ at = omega arith in
    let in_core : is_in_core s at ≡ true = lt-ltb at (length s) (omega (arith, can.inside)) in
    let ends : ends_record (cell_at s at) ≡ true = ap ends_record (sym (at_zero s at)) ∙ can.end in (
      s,
      record {
        reads =
            ap (λ (b : Bool). if b then Some (if ends_record (cell_at s at) then (s, at)
            else (with_read Move s at (record { char = 63; mark = false }), at)) else None) in_core
            ∙ ap (λ (b : Bool). Some (if b then (s, at)
            else (with_read Move s at (record { char = 63; mark = false }), at))) ends
            ∙ ap (λ q. Some (s, q)) (sym here);
        size = refl;
        there = λ k lt. absurd (omega (arith, lt));
        below = λ q lt. refl;
        above = λ q le. refl;
      },
    )
moves s at (char ∷ chars) can =
    let cell : Cell = record { char = char; mark = false } in
    let next : Storage = with_read Move s at cell in
    let rest = moves next (at + 1) chars (can_move_more s at char chars can) in
    let known = rest.1 in
    let inside : at < length s = omega (arith, can.inside) in
    let in_core : is_in_core s at ≡ true = lt-ltb at (length s) inside in
    let goes_on : ends_record (cell_at s at) ≡ false =
    ap ends_record (sym (at_zero s at)) ∙ can.before 0 (omega arith) in
    let count : at + 1 + length chars ≡ at + length (char ∷ chars) = omega arith in (
      rest.0,
      record {
        reads =
            ap (λ (b : Bool). if b then (if ends_record (cell_at s at) then Some (s, at)
            else read_to Move next (at + 1) (cells_read Move true chars)) else None) in_core
            ∙ ap (λ (b : Bool). if b then Some (s, at) else read_to Move next (at + 1) (cells_read Move true chars)) goes_on
            ∙ known.reads ∙ ap (λ q. Some (rest.0, q)) count;
        size = known.size ∙ read_size Move s at cell;
        there = there_more s rest.0 at char chars inside known;
        below = λ q lt. known.below q (omega (arith, lt)) ∙ read_elsewhere Move s at cell q (omega (arith, lt));
        above = λ q le.
            known.above q (omega (arith, le, count)) ∙ read_elsewhere Move s at cell q (omega (arith, le));
      },
    )

-- what is written from there
text_is : (s : Storage) (at : ℕ) (chars : List ℕ) → at + length chars ≤ length s
    → ((k : ℕ) → k < length chars → (cell_at s (at + k)).char ≡ get_or chars k 0) → (n : ℕ) → n ≤ length chars
    → text_of Move true (take n (drop at s)) ≡ take n chars
text_is s at chars inside are zero le = refl
text_is s at chars inside are (suc n) le =
    let lt : n < length chars = omega (arith, le) in
    let one : suc n ≡ n + 1 = omega arith in
    ap (λ k. text_of Move true (take k (drop at s))) one
    ∙ text_more Move true s at n (omega (arith, lt, inside))
    ∙ ap (λ (xs : List ℕ). xs ++ (cell_at s (at + n)).char ∷ []) (text_is s at chars inside are n (omega (arith, le)))
    ∙ ap (λ c. take n chars ++ c ∷ []) (are n lt)
    ∙ sym (take_more chars n 0 lt)
    ∙ ap (λ k. take k chars) (sym one)

-- the reading and the writing, each by what is known of it
reading_is : (s : State) (reads writes : TapeInstruction) (from to : Drive) (chars : List ℕ) (beyond : List (List ℕ))
    (t : Storage) → IsCopied s reads writes from to chars beyond
    → read_to Move s.storage reads.b (cells_read Move true chars) ≡ Some (t, reads.b + length chars)
    → machine_after (work_at reads s from) s
    ≡ record s { storage = t; i = reads.next; b = above_by (reads.b + length chars) 1 }
unfolding work_at
reading_is s reads writes from to chars beyond t given e =
    ap (λ (o : TapeOutcome). machine_after o s)
    (ap (λ (b : Bool). if b then work_ready reads.work reads s from else Err stop.Tape) given.from_ready
    ∙ ap (λ (w : TapeWork). work_ready w reads s from) given.reading
    ∙ ap (λ (xs : List (List ℕ)). after_copy from (copied_by Move reads s (slice_get xs 0))) given.ahead
    ∙ ap (λ (b : Bool). after_copy from (after_put reads chars s
    (read_to Move s.storage reads.b (cells_read Move b chars)))) given.reads_odd
    ∙ ap (λ (r : Option (Storage × ℕ)). after_copy from (after_put reads chars s r)) e)

writing_is : (s : State) (writes : TapeInstruction) (to : Drive) (n : ℕ) → writes.work ≡ work.Write Move
    → to.is_ready ≡ true → to.has_ring ≡ true → record_len_at s.storage writes.b ≡ Some n
    → work_at writes s to ≡ write_cells Move writes s to n
unfolding work_at
writing_is s writes to n writing ready ring len =
    ap (λ (b : Bool). if b then work_ready writes.work writes s to else Err stop.Tape) ready
    ∙ ap (λ (w : TapeWork). work_ready w writes s to) writing
    ∙ ap (λ (b : Bool). if b then write_from Move writes s to else Err stop.Tape) ring
    ∙ ap (write_by Move writes s to) len

-- the cells of an area written, if their text is known and there is room for it
cells_written : (s : State) (writes : TapeInstruction) (to : Drive) (chars : List ℕ) (n : ℕ)
    → text_of Move writes.unit.is_odd (take n (drop writes.b s.storage)) ≡ chars → (n == 0) ≡ false
    → nat_le (length chars) (room_in to.reel) ≡ true
    → drive_after (write_cells Move writes s to n) to ≡ record to { reel = after_write to.reel chars }
cells_written s writes to chars n text some room =
    let outcome : List ℕ → Bool → Bool → TapeOutcome = λ written none fits. if none then Err stop.Address
    else (if fits
    then Ok (record s { i = writes.next; b = above_by writes.b (n + 1) }, record to { reel = after_write to.reel written })
    else Err stop.Tape) in
    ap (λ (o : TapeOutcome). drive_after o to)
    (ap (λ (xs : List ℕ). outcome xs (n == 0) (nat_le (length xs) (room_in to.reel))) text
    ∙ ap (λ (b : Bool). outcome chars b (nat_le (length chars) (room_in to.reel))) some
    ∙ ap (outcome chars false) room)

pub copies : (s : State) (reads writes : TapeInstruction) (from to : Drive) (chars : List ℕ) (beyond : List (List ℕ))
    → IsCopied s reads writes from to chars beyond
    → drive_after (work_at writes (machine_after (work_at reads s from) s) to) to
    ≡ record to { reel = after_write to.reel chars }
copies s reads writes from to chars beyond given =
    let at : ℕ = reads.b in
    let n : ℕ = length chars in
    let all = moves s.storage at chars (record {
      inside = given.inside;
      before = given.before;
      end = given.end;
    }) in
    let t : Storage = all.0 in
    let known = all.1 in
    let after : State = record s { storage = t; i = reads.next; b = above_by (at + n) 1 } in
    let none_ends = λ (k : ℕ) (lt : k < n). ap ends_record (known.there k lt) ∙ given.after k lt in
    let ends : ends_record (cell_at t (at + n)) ≡ true =
    ap ends_record (known.above (at + n) (omega arith)) ∙ given.end in
    let len : record_len_at t writes.b ≡ Some n =
    ap (record_len_at t) given.area
    ∙ sym (record_ends t at n (omega (arith, given.inside, known.size)) none_ends ends) in
    let text : text_of Move writes.unit.is_odd (take n (drop writes.b t)) ≡ chars =
    ap (λ (b : Bool). text_of Move b (take n (drop writes.b t))) given.writes_odd
    ∙ ap (λ (q : ℕ). text_of Move true (take n (drop q t))) given.area
    ∙ text_is t at chars (omega (arith, given.inside, known.size))
    (λ k lt. ap (λ (x : Cell). x.char) (known.there k lt)) n (omega arith)
    ∙ take-length chars in
    let some : (n == 0) ≡ false = grind (arith, nat_tests, given.some) in
    ap (λ (u : State). drive_after (work_at writes u to) to)
    (reading_is s reads writes from to chars beyond t given known.reads)
    ∙ ap (λ (o : TapeOutcome). drive_after o to)
    (writing_is after writes to n given.writing given.to_ready given.ring len)
    ∙ cells_written after writes to chars n text some (le-leb n (room_in to.reel) given.room)

-- With all seats back, each has exactly what it made, and each command is of one of them.
use Rattle.std.proofs.Common.{◌≡◌, ◌≢◌, ℕ, zero, suc, ◌+◌, ◌≤◌, ◌<◌, ◌==◌, ◌||◌, Bool, true, false}
use Rattle.std.proofs.Common.{List, [], ◌∷◌, ◌++◌, length, refl, ap, sym, ◌∙◌, arith, true≢false}
use Rattle.std.proofs.lemmas.Bool.Decides.{nat_tests}
use Rattle.room_alone.specs.declared.entry.Entry.{Entry}
use Rattle.room_alone.specs.declared.entry.SeatedCommand.{SeatedCommand}
use Rattle.room_1401.specs.Closing.{has_seat, back_of, made_of, AllFit, AllExact, AllSeated, IsSettled}
use Rattle.room_alone.specs.Journal.{pairs_of}
use Rattle.room_1401.specs.Seen.{SeatView, own}
use Rattle.room_alone.proofs.ReplayLemmas.{length-pairs_of}
use Rattle.room_1401.proofs.SeenLemmas.{at_most_one, one_if}

is_true : (test : Bool) → one_if test ≡ 1 → test ≡ true
is_true true is = refl
is_true false is = absurd (omega arith)

equal : (x y : ℕ) → (x == y) ≡ true → x ≡ y
equal x y is = grind (arith, nat_tests)

abbrev without : Bool → SeatView → List SeatView → List SeatView → List SeatView
without true seat seats rest = seats
without false seat seats rest = seat ∷ rest

-- the seats but the first of this number
abbrev take_out : ℕ → List SeatView → List SeatView
take_out n [] = []
take_out n (seat ∷ seats) = without (seat.number == n) seat seats (take_out n seats)

-- the weights of the seats by their numbers, added up
abbrev pub weigh : (ℕ → ℕ) → List SeatView → ℕ
weigh weight [] = 0
weigh weight (seat ∷ seats) = weight seat.number + weigh weight seats

-- the weights of the numbers from 1 on, added up
abbrev pub sum_to : (ℕ → ℕ) → ℕ → ℕ
sum_to weight zero = 0
sum_to weight (suc n) = weight (suc n) + sum_to weight n

weigh_out_by : (weight : ℕ → ℕ) (n : ℕ) (seat : SeatView) (seats : List SeatView) (test : Bool)
    → (seat.number == n) ≡ test
    → (has_seat n seats ≡ true → weigh weight seats ≡ weight n + weigh weight (take_out n seats))
    → (test || has_seat n seats) ≡ true
    → weigh weight (seat ∷ seats) ≡ weight n + weigh weight (without test seat seats (take_out n seats))
weigh_out_by weight n seat seats true is more there =
    ap (λ number. weight number + weigh weight seats) (equal seat.number n is)
weigh_out_by weight n seat seats false is more there =
    let rest : weigh weight seats ≡ weight n + weigh weight (take_out n seats) = more there in omega arith

weigh_out : (weight : ℕ → ℕ) (n : ℕ) (seats : List SeatView) → has_seat n seats ≡ true
    → weigh weight seats ≡ weight n + weigh weight (take_out n seats)
weigh_out weight n [] there = absurd (true≢false (sym there))
weigh_out weight n (seat ∷ seats) there =
    weigh_out_by weight n seat seats (seat.number == n) refl (weigh_out weight n seats) there

length_out_by : (n : ℕ) (seat : SeatView) (seats : List SeatView) (test : Bool)
    → (has_seat n seats ≡ true → length seats ≡ suc (length (take_out n seats)))
    → (test || has_seat n seats) ≡ true
    → length (seat ∷ seats) ≡ suc (length (without test seat seats (take_out n seats)))
length_out_by n seat seats true more there = refl
length_out_by n seat seats false more there = ap suc (more there)

length_out : (n : ℕ) (seats : List SeatView) → has_seat n seats ≡ true → length seats ≡ suc (length (take_out n seats))
length_out n [] there = absurd (true≢false (sym there))
length_out n (seat ∷ seats) there = length_out_by n seat seats (seat.number == n) (length_out n seats) there

has_out_by : (m n : ℕ) (seat : SeatView) (seats : List SeatView) (test : Bool) → (seat.number == n) ≡ test → m ≢ n
    → has_seat m (take_out n seats) ≡ has_seat m seats
    → has_seat m (without test seat seats (take_out n seats)) ≡ has_seat m (seat ∷ seats)
has_out_by m n seat seats true is apart more = other (seat.number == m) refl
  where
    other : (also : Bool) → (seat.number == m) ≡ also → has_seat m seats ≡ (also || has_seat m seats)
    other true there = absurd (apart (sym (equal seat.number m there) ∙ equal seat.number n is))
    other false there = refl
has_out_by m n seat seats false is apart more = ap (λ (test : Bool). (seat.number == m) || test) more

has_out : (m n : ℕ) (seats : List SeatView) → m ≢ n → has_seat m (take_out n seats) ≡ has_seat m seats
has_out m n [] apart = refl
has_out m n (seat ∷ seats) apart = has_out_by m n seat seats (seat.number == n) refl apart (has_out m n seats apart)

back_out : (n m : ℕ) (seats : List SeatView) → n < m → back_of n (take_out m seats) ≡ back_of n seats
back_out zero m seats less = refl
back_out (suc n) m seats less =
    let apart : suc n ≢ m = λ same. omega arith in
    let here : one_if (has_seat (suc n) (take_out m seats)) ≡ one_if (has_seat (suc n) seats) =
    ap one_if (has_out (suc n) m seats apart) in
    let rest : back_of n (take_out m seats) ≡ back_of n seats = back_out n m seats (omega arith) in
    omega arith

back_most : (n : ℕ) (seats : List SeatView) → back_of n seats ≤ n
back_most zero seats = omega arith
back_most (suc n) seats = omega (arith, back_most n seats, at_most_one (has_seat (suc n) seats))

-- All numbers up to n + 1 are back.
record AllBack (n : ℕ) (seats : List SeatView) : Type 0 where
  pub here : has_seat (suc n) seats ≡ true
  pub below : back_of n seats ≡ n

all_back : (n : ℕ) (seats : List SeatView) → back_of (suc n) seats ≡ suc n → AllBack n seats
all_back n seats all =
    let few = back_most n seats in
    let most = at_most_one (has_seat (suc n) seats) in
    record { here = is_true (has_seat (suc n) seats) (omega (arith, all)); below = omega (arith, all) }

none : (seats : List SeatView) → length seats ≤ 0 → seats ≡ []
none [] few = refl
none (seat ∷ seats) few = absurd (omega arith)

-- with no more seats than numbers, each number has one
each_once : (weight : ℕ → ℕ) (n : ℕ) (seats : List SeatView) → back_of n seats ≡ n → length seats ≤ n
    → (weigh weight seats ≡ sum_to weight n) × (length seats ≡ n)
each_once weight zero seats all few = (ap (weigh weight) (none seats few), ap length (none seats few))
each_once weight (suc n) seats all few =
    let back = all_back n seats all in
    let others : List SeatView = take_out (suc n) seats in
    let len : length seats ≡ suc (length others) = length_out (suc n) seats back.here in
    let there : back_of n others ≡ n = back_out n (suc n) seats (omega arith) ∙ back.below in
    let rest = each_once weight n others there (omega arith) in
    let out : weigh weight seats ≡ weight (suc n) + weigh weight others = weigh_out weight (suc n) seats back.here in
    (out ∙ ap (λ sum. weight (suc n) + sum) rest.0, len ∙ ap suc rest.1)

-- there are as many seats as numbers then
pub all_once : (n : ℕ) (seats : List SeatView) → back_of n seats ≡ n → length seats ≤ n → length seats ≡ n
all_once n seats all few = (each_once (λ number. 0) n seats all few).1

abbrev hit : ℕ → ℕ → ℕ
hit x n = one_if (x == n)

sum_add : (v w : ℕ → ℕ) (n : ℕ) → sum_to (λ m. v m + w m) n ≡ sum_to v n + sum_to w n
sum_add v w zero = refl
sum_add v w (suc n) =
    let rest : sum_to (λ m. v m + w m) n ≡ sum_to v n + sum_to w n = sum_add v w n in omega arith

no_hit : (x n : ℕ) → n < x → sum_to (hit x) n ≡ 0
no_hit x zero less = refl
no_hit x (suc n) less =
    let rest : sum_to (hit x) n ≡ 0 = no_hit x n (omega arith) in
    let here : hit x (suc n) ≡ 0 = miss (x == suc n) refl in
    omega arith
  where
    miss : (test : Bool) → (x == suc n) ≡ test → one_if test ≡ 0
    miss true is = let same : x ≡ suc n = equal x (suc n) is in absurd (omega arith)
    miss false is = refl

hit_most : (x n : ℕ) → sum_to (hit x) n ≤ 1
hit_most x zero = omega arith
hit_most x (suc n) = by_test (x == suc n) refl (hit_most x n)
  where
    by_test : (test : Bool) → (x == suc n) ≡ test → sum_to (hit x) n ≤ 1 → one_if test + sum_to (hit x) n ≤ 1
    by_test true is most =
        let same : x ≡ suc n = equal x (suc n) is in
        let rest : sum_to (hit x) n ≡ 0 = no_hit x n (omega arith) in
        omega arith
    by_test false is most = omega arith

hit_has : (x n : ℕ) (seats : List SeatView) → back_of n seats ≡ n → 0 < sum_to (hit x) n → has_seat x seats ≡ true
hit_has x zero seats all some = absurd (omega arith)
hit_has x (suc n) seats all some = by_test (x == suc n) refl (hit_has x n seats (all_back n seats all).below)
  where
    by_test : (test : Bool) → (x == suc n) ≡ test → (0 < sum_to (hit x) n → has_seat x seats ≡ true)
        → has_seat x seats ≡ true
    by_test true is more = ap (λ number. has_seat number seats) (equal x (suc n) is) ∙ (all_back n seats all).here
    by_test false is more = let here : one_if (x == suc n) ≡ 0 = ap one_if is in more (omega arith)

abbrev owns : List SeatedCommand → ℕ → ℕ
owns pairs seat = own seat pairs

own_first : (pair : SeatedCommand) (pairs : List SeatedCommand) (n : ℕ)
    → sum_to (owns (pair ∷ pairs)) n ≡ sum_to (hit pair.seat) n + sum_to (owns pairs) n
own_first pair pairs n = sum_add (hit pair.seat) (owns pairs) n

own_none : (n : ℕ) → sum_to (owns []) n ≡ 0
own_none zero = refl
own_none (suc n) = let rest : sum_to (owns []) n ≡ 0 = own_none n in omega arith

-- all seats together have no more commands than there are
sum_most : (n : ℕ) (pairs : List SeatedCommand) → sum_to (owns pairs) n ≤ length pairs
sum_most n [] = omega (arith, own_none n)
sum_most n (pair ∷ pairs) = omega (arith, own_first pair pairs n, hit_most pair.seat n, sum_most n pairs)

-- if they have them all, each command is of a seat that is there
all_seated : (n : ℕ) (seats : List SeatView) (pairs : List SeatedCommand) → back_of n seats ≡ n
    → length pairs ≤ sum_to (owns pairs) n → AllSeated seats pairs
all_seated n seats [] all full = tt
all_seated n seats (pair ∷ pairs) all full =
    let first = own_first pair pairs n in
    let one_most = hit_most pair.seat n in
    let rest_most = sum_most n pairs in (
      hit_has pair.seat n seats all (omega (arith, first, rest_most)),
      all_seated n seats pairs all (omega (arith, first, one_most)),
    )

-- each has at least what it made
fit_most : (pairs : List SeatedCommand) (seats : List SeatView) → AllFit pairs seats
    → made_of seats ≤ weigh (owns pairs) seats
fit_most pairs [] fit = omega arith
fit_most pairs (seat ∷ seats) fit =
    let rest : made_of seats ≤ weigh (owns pairs) seats = fit_most pairs seats fit.1 in
    let here : seat.made ≤ own seat.number pairs = fit.0.1 in
    omega arith

-- and exactly this, if they have no more together
all_exact : (pairs : List SeatedCommand) (seats : List SeatView) → AllFit pairs seats
    → weigh (owns pairs) seats ≤ made_of seats
    → AllExact pairs seats
all_exact pairs [] fit full = tt
all_exact pairs (seat ∷ seats) fit full =
    let rest : made_of seats ≤ weigh (owns pairs) seats = fit_most pairs seats fit.1 in
    let here : seat.made ≤ own seat.number pairs = fit.0.1 in
    ((fit.0.0, omega arith), all_exact pairs seats fit.1 (omega arith))

-- all seats are back, what each has seen is a prefix of the journal, and what they made is as much as there is
pub settled : (n : ℕ) (journal : List Entry) (seats : List SeatView)
    → back_of n seats ≡ n → length seats ≤ n → AllFit (pairs_of journal) seats → made_of seats ≡ length journal
    → IsSettled journal seats
settled n journal seats all few fit made =
    let pairs : List SeatedCommand = pairs_of journal in
    let once = each_once (owns pairs) n seats all few in
    let len : length pairs ≡ length journal = length-pairs_of journal in
    let most : sum_to (owns pairs) n ≤ length pairs = sum_most n pairs in
    let least : made_of seats ≤ weigh (owns pairs) seats = fit_most pairs seats fit in
    record {
      seated = all_seated n seats pairs all (omega (arith, once.0));
      exact = all_exact pairs seats fit (omega (arith, once.0));
      made = sym made;
    }

pub made_push : (seats : List SeatView) (last : SeatView) → made_of (seats ++ last ∷ []) ≡ made_of seats + last.made
made_push [] last = omega arith
made_push (seat ∷ seats) last =
    let rest : made_of (seats ++ last ∷ []) ≡ made_of seats + last.made = made_push seats last in omega arith

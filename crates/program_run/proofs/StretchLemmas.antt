-- A job is made of stretches.
use Rattle.std.proofs.Common.{◌≡◌, ◌≢◌, ◌≤◌, ◌<◌, ◌⊎◌, inl, inr, ℕ, ◌+◌, ◌-◌, List, [], ◌++◌, length, min, Option, None}
use Rattle.std.proofs.Common.{Some, refl, sym, ◌∙◌, ap, subst, arith, append_assoc, length-append}
use Rattle.std.proofs.lemmas.List.{append-nil}
use Rattle.devices_1401.specs.declared.card.Card.{Card}
use Rattle.devices_1401.specs.declared.print_line.PrintLine.{PrintLine}
use Rattle.machine_tables.specs.declared.stop.Stop.{Stop}
use Rattle.machine_tables.specs.declared.stop.Stop.TheVariants as stop
use Rattle.machine_tapes.specs.declared.taped_machine.TapedMachine.{TapedMachine}
use Rattle.job_runner.specs.declared.paper.PaperPlace.{PaperPlace}
use Rattle.job_runner.specs.Paper.{place_beyond}
use Rattle.job_runner.specs.Unattended.{AtEnd, Begins, GoesOn, IsPartOf, Job, after_job, after_output, unattended}
use Rattle.program_run.specs.declared.deck_running.Stretch.{Stretch}
use Rattle.program_run.specs.RunDeck.{HasWritten, HasWrittenPart, RanStretch, Received, first_place, most_counted}
use Rattle.program_run.specs.RunDeck.{rest_of}
use Rattle.program_run.proofs.WrittenLemmas.{both_written, none_written, part_written_beyond, place_beyond_both}

-- a job with these ends
abbrev job_of : TapedMachine → ℕ → Stop → List PrintLine → List Card → Job
job_of now steps why lines cards =
    record { state = now; steps = steps; stop = why; lines = lines; cards = cards }

-- two jobs whose counts and outputs are equal
same_job : (now : TapedMachine) (why : Stop) (steps steps' : ℕ) (lines lines' : List PrintLine) (cards cards' : List Card)
    → steps ≡ steps' → lines ≡ lines' → cards ≡ cards' → job_of now steps why lines cards ≡ job_of now steps' why lines' cards'
same_job now why steps steps' lines lines' cards cards' e_steps e_lines e_cards = rw (e_steps, e_lines, e_cards) refl

-- nothing was written or carried out before
pub nothing_before : (job : Job) → job ≡ after_output [] [] 0 job
nothing_before job = same_job job.state job.stop job.steps (0 + job.steps) job.lines job.lines job.cards job.cards (omega arith) refl refl

-- what is collected of a job whose output was empty is what the job writes
pub collected : (job all : Job) (lines : List PrintLine) (cards : List Card) → lines ≡ [] → cards ≡ []
    → after_output lines cards 0 job ≡ all → job ≡ all
collected job all lines cards no_lines no_cards e =
    nothing_before job
    ∙ ap (λ (xs : List PrintLine). after_output xs [] 0 job) (sym no_lines)
    ∙ ap (λ (ys : List Card). after_output lines ys 0 job) (sym no_cards)
    ∙ e

-- the same with the output as slices see it
pub ran_part : {lines0 lines : List PrintLine} {cards0 cards : List Card} {items : List PrintLine} {others : List Card}
    (job : Job) (now : TapedMachine) (steps : ℕ) (why : Stop) → lines0 ≡ [] → cards0 ≡ []
    → after_output lines0 cards0 0 job ≡ job_of now steps why items others → lines ≡ items → cards ≡ others
    → job ≡ job_of now steps why lines cards
ran_part {lines0} {lines} {cards0} {cards} {items} {others} job now steps why no_lines no_cards e e_lines e_cards =
    collected job (job_of now steps why items others) lines0 cards0 no_lines no_cards e
    ∙ same_job now why steps steps items lines others cards refl (sym e_lines) (sym e_cards)

-- a job that has stopped has nothing left
pub nothing_left : (now : TapedMachine) (steps limit : ℕ) (why : Stop) (lines : List PrintLine) (cards : List Card)
    → job_of now steps why lines cards ≡ after_output lines cards steps (rest_of (Some why) limit now)
nothing_left now steps limit why lines cards =
    same_job now why steps (steps + 0) lines (lines ++ []) cards (cards ++ []) (omega arith) (sym (append-nil lines))
    (sym (append-nil cards))

-- a part of a job is all of it if it stopped, or has as many steps
all_of_it : (n left : ℕ) (why : Stop) (s : TapedMachine) → n ≤ left → (why ≢ stop.Limit) ⊎ (left ≤ n)
    → (why ≢ stop.Limit → AtEnd n s) → unattended left s ≡ unattended n s
all_of_it n left why s few (inl no_limit) ended =
    let parts : left ≡ n + (left - n) = omega arith in
    ap (λ (k : ℕ). unattended k s) parts ∙ ended no_limit (left - n)
all_of_it n left why s few (inr most) ended =
    let same : left ≡ n = omega arith in
    ap (λ (k : ℕ). unattended k s) same

-- a stretch is a part of what is left, and so are its steps
pub within_left : (n left most : ℕ) → n ≡ min left most → n ≤ left
within_left n left most e = omega (arith, e)

pub few_steps : (steps n left most : ℕ) → n ≡ min left most → steps ≤ n → steps ≤ left
few_steps steps n left most e few = omega (arith, e, few)

-- a part of a job, and what is left of it
pub stretch_job : (n left steps : ℕ) (why : Stop) (found : Option Stop) (s now : TapedMachine) (lines : List PrintLine)
    (cards : List Card) → n ≤ left → unattended n s ≡ job_of now steps why lines cards
    → (found ≡ None → (why ≡ stop.Limit) × (n < left))
    → ((w : Stop) → found ≡ Some w → (w ≡ why) × ((why ≢ stop.Limit) ⊎ (left ≤ n)))
    → (why ≡ stop.Limit → steps ≡ n) → (why ≡ stop.Limit → GoesOn n s) → (why ≢ stop.Limit → AtEnd n s)
    → unattended left s ≡ after_output lines cards steps (rest_of found (left - steps) now)
stretch_job n left steps why None s now lines cards few part none some counted goes_on ended =
    let is_limit : why ≡ stop.Limit = (none refl).0 in
    let all : steps ≡ n = counted is_limit in
    let parts : left ≡ n + (left - n) = omega arith in
    ap (λ (k : ℕ). unattended k s) parts
    ∙ goes_on is_limit (left - n)
    ∙ ap (λ (job : Job). after_job job (unattended (left - n) job.state)) part
    ∙ ap (λ (k : ℕ). after_output lines cards steps (unattended (left - k) now)) (sym all)
stretch_job n left steps why (Some w) s now lines cards few part none some counted goes_on ended =
    let same : w ≡ why = (some w refl).0 in
    all_of_it n left why s few (some w refl).1 ended
    ∙ part
    ∙ ap (λ (end : Stop). job_of now steps end lines cards) (sym same)
    ∙ nothing_left now steps (left - steps) w lines cards

-- what a part of a job writes is a beginning of what the job writes
pub stretch_begins : (n left : ℕ) (s : TapedMachine) (part : Job) → n ≤ left → unattended n s ≡ part → Begins n s
    → IsPartOf part.lines part.cards (unattended left s)
stretch_begins n left s part few e first =
    let parts : n + (left - n) ≡ left = omega arith in
    subst (λ (job : Job). IsPartOf job.lines job.cards (unattended left s)) e
    (subst (λ (k : ℕ). IsPartOf (unattended n s).lines (unattended n s).cards (unattended k s)) parts (first (left - n)))

-- how far a job is: what was written, what was counted, and what is left
pub record SoFar (limit left : ℕ) (start now : TapedMachine) (first at : Received) (place : PaperPlace) (printed punched : ℕ)
    : Type 0 where
  pub lines : List PrintLine
  pub cards : List Card
  pub written : HasWritten first_place lines cards first at
  pub place_is : place ≡ place_beyond first_place lines
  pub printed_is : printed ≡ min (length lines) most_counted
  pub punched_is : punched ≡ min (length cards) most_counted
  pub job : unattended limit start ≡ after_output lines cards (limit - left) (unattended left now)
  pub within : left ≤ limit

-- before the first stretch
pub at_first : (limit : ℕ) (start : TapedMachine) (first : Received)
    → SoFar limit limit start start first first first_place 0 0
at_first limit start first =
    let none : 0 ≡ limit - limit = omega arith in
    record {
      lines = [];
      cards = [];
      written = none_written first_place first;
      place_is = refl;
      printed_is = refl;
      punched_is = refl;
      job = nothing_before (unattended limit start)
          ∙ ap (λ (k : ℕ). after_output [] [] k (unattended limit start)) none;
      within = omega arith;
    }

-- output that follows output
output_twice : (lines more : List PrintLine) (cards others : List Card) (steps ran : ℕ) (job : Job)
    → after_output lines cards steps (after_output more others ran job)
    ≡ after_output (lines ++ more) (cards ++ others) (steps + ran) job
output_twice lines more cards others steps ran job =
    same_job job.state job.stop (steps + (ran + job.steps)) ((steps + ran) + job.steps)
    (lines ++ (more ++ job.lines)) ((lines ++ more) ++ job.lines) (cards ++ (others ++ job.cards))
    ((cards ++ others) ++ job.cards) (omega arith) (sym (append_assoc lines more job.lines))
    (sym (append_assoc cards others job.cards))

-- a stretch that follows what was written
pub record Grown (limit left : ℕ) (start after : TapedMachine) (first new : Received) (stretch : Stretch)
    (printed punched : ℕ) : Type 0 where
  pub lines : List PrintLine
  pub cards : List Card
  pub written : HasWritten first_place lines cards first new
  pub place_is : stretch.place ≡ place_beyond first_place lines
  pub printed_is : min (printed + stretch.printed) most_counted ≡ min (length lines) most_counted
  pub punched_is : min (punched + stretch.punched) most_counted ≡ min (length cards) most_counted
  pub job : unattended limit start
      ≡ after_output lines cards (limit - (left - stretch.steps))
      (rest_of stretch.stop (left - stretch.steps) after)

counts_add : (X : Type 0) (xs ys : List X) (so_far more : ℕ) → so_far ≡ min (length xs) most_counted → more ≡ length ys
    → min (so_far + more) most_counted ≡ min (length (xs ++ ys)) most_counted
counts_add X xs ys so_far more e e_more = rw (e, e_more) (simp length-append (omega arith))

pub grown : {limit left : ℕ} {start now after : TapedMachine} {first at new : Received} {place : PaperPlace} {printed punched : ℕ}
    {stretch : Stretch} → SoFar limit left start now first at place printed punched
    → RanStretch left place now after at new stretch → stretch.steps ≤ left
    → Grown limit left start after first new stretch printed punched
grown {limit} {left} {start} {now} {after} {first} {at} {new} {place} {printed} {punched} {stretch} before ran most =
    let within = before.within in
    let count : (limit - left) + stretch.steps ≡ limit - (left - stretch.steps) = omega arith in
    let lines = before.lines ++ ran.lines in
    let cards = before.cards ++ ran.cards in
    let rest = rest_of stretch.stop (left - stretch.steps) after in
    record {
      lines = lines;
      cards = cards;
      written =
          both_written first_place before.lines ran.lines before.cards ran.cards first at new before.written
          (subst (λ (p : PaperPlace). HasWritten p ran.lines ran.cards at new) before.place_is ran.written);
      place_is = ran.place_is
          ∙ ap (λ (p : PaperPlace). place_beyond p ran.lines) before.place_is
          ∙ sym (place_beyond_both first_place before.lines ran.lines);
      printed_is =
          counts_add PrintLine before.lines ran.lines printed stretch.printed before.printed_is ran.printed_is;
      punched_is = counts_add Card before.cards ran.cards punched stretch.punched before.punched_is ran.punched_is;
      job = before.job
          ∙ ap (λ (job : Job). after_output before.lines before.cards (limit - left) job) ran.job
          ∙ output_twice before.lines ran.lines before.cards ran.cards (limit - left) stretch.steps rest
          ∙ ap (λ (k : ℕ). after_output lines cards k rest) count;
    }

-- the job goes on
pub goes_on_so_far : {limit left : ℕ} {start after : TapedMachine} {first new : Received} {stretch : Stretch}
    {printed punched printed' punched' : ℕ} → Grown limit left start after first new stretch printed punched
    → stretch.stop ≡ None → left ≤ limit → printed' ≡ min (printed + stretch.printed) most_counted
    → punched' ≡ min (punched + stretch.punched) most_counted
    → SoFar limit (left - stretch.steps) start after first new stretch.place printed' punched'
goes_on_so_far {limit} {left} {after = after} {stretch = stretch} g more within e e' = record {
  lines = g.lines;
  cards = g.cards;
  written = g.written;
  place_is = g.place_is;
  printed_is = e ∙ g.printed_is;
  punched_is = e' ∙ g.punched_is;
  job = g.job
      ∙ ap (λ (end : Option Stop). after_output g.lines g.cards (limit - (left - stretch.steps))
      (rest_of end (left - stretch.steps) after)) more;
  within = omega arith;
}

-- the job is at its end
whole_job : {limit left : ℕ} {start after : TapedMachine} {first new : Received} {stretch : Stretch}
    {printed punched : ℕ} {why : Stop} (g : Grown limit left start after first new stretch printed punched)
    → stretch.stop ≡ Some why
    → unattended limit start ≡ job_of after (limit - (left - stretch.steps)) why g.lines g.cards
whole_job {limit} {left} {after = after} {stretch = stretch} {why = why} g is =
    g.job
    ∙ ap (λ (end : Option Stop). after_output g.lines g.cards (limit - (left - stretch.steps))
    (rest_of end (left - stretch.steps) after)) is
    ∙ sym (nothing_left after (limit - (left - stretch.steps)) (left - stretch.steps) why g.lines g.cards)

pub all_written : {limit left : ℕ} {start after : TapedMachine} {first new : Received} {stretch : Stretch}
    {printed punched : ℕ} {why : Stop} → Grown limit left start after first new stretch printed punched
    → stretch.stop ≡ Some why
    → HasWritten first_place (unattended limit start).lines (unattended limit start).cards first new
all_written {first = first} {new = new} g is =
    subst (λ (job : Job). HasWritten first_place job.lines job.cards first new) (sym (whole_job g is)) g.written

-- and so is the machine
pub all_ended : {limit left : ℕ} {start after : TapedMachine} {first new : Received} {stretch : Stretch}
    {printed punched : ℕ} {why : Stop} → Grown limit left start after first new stretch printed punched
    → stretch.stop ≡ Some why → after ≡ (unattended limit start).state
all_ended g is = sym (ap (λ (job : Job). job.state) (whole_job g is))

-- a stretch that broke off
pub part_so_far : {limit left : ℕ} {start now : TapedMachine} {first at new : Received} {place : PaperPlace}
    {printed punched : ℕ} → SoFar limit left start now first at place printed punched
    → HasWrittenPart place (unattended left now).lines (unattended left now).cards at new
    → HasWrittenPart first_place (unattended limit start).lines (unattended limit start).cards first new
part_so_far {left = left} {now = now} {first = first} {at = at} {new = new} before part =
    let rest = unattended left now in
    subst (λ (job : Job). HasWrittenPart first_place job.lines job.cards first new) (sym before.job)
    (part_written_beyond first_place before.lines rest.lines before.cards rest.cards first at new before.written
    (subst (λ (p : PaperPlace). HasWrittenPart p rest.lines rest.cards at new) before.place_is part))

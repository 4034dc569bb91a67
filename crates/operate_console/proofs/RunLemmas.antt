-- Rounds of runs, one after another.
use Rattle.std.proofs.Common.{◌≡◌, ℕ, ◌+◌, List, [], ◌∷◌, ◌++◌, refl, sym, ◌∙◌, ap, subst, inl, inr, Option, None}
use Rattle.std.proofs.Common.{Bool, true, false, ◌||◌}
use Rattle.std.proofs.lemmas.List.{append-nil}
use Rattle.operate_sitting.specs.RunOf.{answer_of, run_of}
use Rattle.operate_sitting.specs.Search.{search}
use Rattle.operate_sitting.specs.declared.search.Found.{Found}
use Rattle.operate_sitting.specs.Notes.{Noted, hand_of}
use Rattle.operate_sitting.specs.Sitting.{SittingAccount, journal_of, machine_of, tending_of, watching}
use Rattle.operate_sitting.specs.Tending.{CarriedAll, CarriedPart}
use Rattle.room_alone.specs.Journal.{entry}
use Rattle.room_alone.specs.declared.entry.Entry.{Entry}
use Rattle.operate_console.specs.Run.{AfterRounds, AtConsole, AtRun, CutRound, CutSlice, IsSame, IsUntil, ProgressDid}
use Rattle.operate_console.specs.Run.{ProgressIs, RanAsFar}
use Rattle.operate_console.specs.Run.{RoundDid, RoundMore, RoundsSoFar, RunDid, RunEnds, RunTest, SliceDid, TendedAll, TendedPart}
use Rattle.operate_console.specs.Run.{at_run, counted_if, ends_run, is_end_met, is_spent, is_test_met, slice_after}
use Rattle.operate_console.specs.Run.{steps_of, test_begun, test_seen, was_met_after}
use Rattle.operate_console.specs.declared.extent.Reach.{Reach}
use Rattle.operate_console.specs.declared.rounds.Progress.{Progress}
use Rattle.operate_console.specs.declared.rounds.Progress.TheVariants as progress
use Rattle.operate_console.specs.declared.run_stops.RunStops.{RunStops}

-- what a run up to a test ensures is a slice
pub slice_did : (most : ℕ) (found : Found) (before after : SittingAccount) (test left : RunTest)
    → search test_seen is_test_met most
    (test_begun (record { first = test.first; second = watching (hand_of before.notes) }) (machine_of before))
    (machine_of before) ≡ record { state = machine_of after; memory = left; found = found }
    → journal_of after ≡ journal_of before ++ entry 0 (run_of found) (answer_of found (machine_of after)) ∷ []
    → after.account.room.size ≡ before.account.room.size → after.notes ≡ before.notes
    → SliceDid most found (at_run before test) (at_run after left)
slice_did most found before after test left is recorded size notes = record {
  left = left;
  search_is = is;
  ends = refl;
  recorded = recorded;
  size = size;
  notes = notes;
}

-- nothing of what devices want
pub not_tended : (it : SittingAccount) → TendedPart it it
not_tended it = record {
  carried = record { done = []; left = tending_of it; commands_are = refl; carried = (refl, sym (append-nil it.notes.given)) };
  size = refl;
  notes = refl;
}

-- what tending ensures
pub tended_all : (before after : SittingAccount)
    → CarriedAll before.account.room.size (tending_of before) (journal_of before) (journal_of after)
    before.notes.given after.notes.given
    → after.account.room.size ≡ before.account.room.size
    → after.notes ≡ record before.notes { given = after.notes.given } → TendedAll before after
tended_all before after carried size notes = record { carried = carried; size = size; notes = notes }

pub tended_part : (before after : SittingAccount)
    → CarriedPart before.account.room.size (tending_of before) (journal_of before) (journal_of after)
    before.notes.given after.notes.given
    → after.account.room.size ≡ before.account.room.size
    → after.notes ≡ record before.notes { given = after.notes.given } → TendedPart before after
tended_part before after carried size notes = record { carried = carried; size = size; notes = notes }

-- a slice that has not begun, and one whose entry isn't kept
pub no_slice : (most : ℕ) (before after : SittingAccount) (test left : RunTest)
    → journal_of after ≡ journal_of before → after.account.room.size ≡ before.account.room.size
    → after.notes ≡ before.notes → left.first ≡ test.first → CutSlice most (at_run before test) (at_run after left)
no_slice most before after test left journal size notes ends =
    inl (record { same = record { journal = journal; size = size; notes = notes }; ends = ends })

pub slice_alone : (most : ℕ) (found : Found) (before after : AtRun)
    → SliceDid most found before after → CutSlice most before after
slice_alone most found before after did = inr (record { found = found; slice = did })

-- a round that is cut off before its slice, in it, and after it
pub no_round : (most : ℕ) (it : AtRun) → CutRound most it it
no_round most it = inl (record { tended = not_tended it.sitting; ends = refl })

pub round_begun : (most : ℕ) (before : AtRun) (after : SittingAccount)
    → TendedPart before.sitting after → CutRound most before (record { sitting = after; ends = before.ends })
round_begun most before after part = inl (record { tended = part; ends = refl })

-- what was done stays where nothing is recorded
tended_same : (before middle after : SittingAccount) → TendedPart before middle → IsSame middle after
    → TendedPart before after
tended_same before middle after part same = record {
  carried =
      subst (λ (journal : List Entry). CarriedPart before.account.room.size (tending_of before) (journal_of before) journal
      before.notes.given after.notes.given) (sym same.journal)
      (subst (λ (notes : Noted). CarriedPart before.account.room.size (tending_of before) (journal_of before)
      (journal_of middle) before.notes.given notes.given) (sym same.notes) part.carried);
  size = same.size ∙ part.size;
  notes = same.notes ∙ part.notes
      ∙ ap (λ (notes : Noted). record before.notes { given = notes.given }) (sym same.notes);
}

pub round_cut : (most : ℕ) (before : AtRun) (middle : SittingAccount) (after : AtRun)
    → TendedPart before.sitting middle → TendedAll before.sitting middle
    → CutSlice most (record { sitting = middle; ends = before.ends }) after → CutRound most before after
round_cut most before middle after part all (inl none) = inl (record {
  tended = tended_same before.sitting middle after.sitting part none.same;
  ends = none.ends;
})
round_cut most before middle after part all (inr whole) = inr (record {
  found = whole.found;
  round = record { middle = middle; tended = all; slice = whole.slice };
})

pub whole_round : (most : ℕ) (found : Found) (before : AtRun) (middle : SittingAccount) (after : AtRun)
    → TendedAll before.sitting middle → SliceDid most found (record { sitting = middle; ends = before.ends }) after
    → CutRound most before after
whole_round most found before middle after all did =
    inr (record { found = found; round = record { middle = middle; tended = all; slice = did } })

-- all that devices want, and a slice
pub round_did : (most : ℕ) (found : Found) (before : AtRun) (middle : SittingAccount) (after : AtRun)
    → TendedAll before.sitting middle → SliceDid most found (record { sitting = middle; ends = before.ends }) after
    → RoundDid most found before after
round_did most found before middle after all did = record { middle = middle; tended = all; slice = did }

-- a round more, and whether the run is over
pub progress_did : (most : Option ℕ) (how : Progress) (found : Found) (slice : ℕ) (before after : AtRun) (steps : ℕ)
    → slice ≡ slice_after most steps → RoundDid slice found before after
    → ProgressIs how (ends_run found.end after.ends.is_met || is_spent most (steps + found.steps))
    → was_met_after how ≡ is_end_met found.end after.ends.is_met
    → steps_of how ≡ steps + found.steps → ProgressDid most how (record { at = before; steps = steps }) after
progress_did most (progress.On all) found slice before after steps length did over met counted = record {
  found = found;
  round = subst (λ n. RoundDid n found before after) length did;
  steps = counted;
  over_is = ap (λ n. ends_run found.end after.ends.is_met || is_spent most n) counted ∙ over;
  met_is = sym met;
}
progress_did most (progress.Ended why all) found slice before after steps length did over met counted = record {
  found = found;
  round = subst (λ n. RoundDid n found before after) length did;
  steps = counted;
  over_is = ap (λ n. ends_run found.end after.ends.is_met || is_spent most n) counted ∙ over;
  met_is = sym met;
}

pub cut_after : (most : Option ℕ) (slice steps : ℕ) (before after : AtRun)
    → slice ≡ slice_after most steps → CutRound slice before after → CutRound (slice_after most steps) before after
cut_after most slice steps before after length cut = subst (λ n. CutRound n before after) length cut

-- no round yet, and a round more
pub no_rounds : (most : Option ℕ) (it : AtRun) → RoundsSoFar most it (record { at = it; steps = 0 })
no_rounds most it = ([], refl)

pub round_more : (most : Option ℕ) (before : AtRun) (middle after : AfterRounds)
    → RoundsSoFar most before middle → RoundMore most false false middle after → RoundsSoFar most before after
round_more most before middle after so_far more = (middle ∷ so_far.0, (so_far.1, more))

-- how a run ends: with a round after which it is over, by a person, without any round, and by a refusal
pub run_over : (limit most : Option ℕ) (is_cut met : Bool) (before : AtRun) (middle : AfterRounds) (after : AtRun)
    (steps : ℕ)
    → RoundsSoFar most before middle → RoundMore most true met middle (record { at = after; steps = steps })
    → RunDid limit is_cut met most before after
run_over limit most is_cut met before middle after steps so_far more = record {
  last = middle;
  rounds = so_far;
  ends = inl (record { over = true; steps = steps; round = more; may_end = tt });
}

pub run_interrupted : (limit most : Option ℕ) (is_cut : Bool) (before : AtRun) (middle : AfterRounds) (after : AtRun)
    (steps : ℕ)
    → RoundsSoFar most before middle → RoundMore most false false middle (record { at = after; steps = steps })
    → limit ≡ None → RunDid limit is_cut false most before after
run_interrupted limit most is_cut before middle after steps so_far more attended = record {
  last = middle;
  rounds = so_far;
  ends = inl (record { over = false; steps = steps; round = more; may_end = attended });
}

pub run_unbegun : (limit most : Option ℕ) (is_cut met : Bool) (it : AtRun)
    → is_spent most 0 ≡ true → met ≡ false → RunDid limit is_cut met most it it
run_unbegun limit most is_cut met it spent unmet = record {
  last = record { at = it; steps = 0 };
  rounds = no_rounds most it;
  ends = inr (inl (record { spent = spent; same = refl; unmet = unmet }));
}

pub run_cut : (limit most : Option ℕ) (is_cut : Bool) (before : AtRun) (middle : AfterRounds) (after : AtRun)
    → RoundsSoFar most before middle → is_cut ≡ true → CutRound (slice_after most middle.steps) middle.at after
    → RunDid limit is_cut false most before after
run_cut limit most is_cut before middle after so_far is_so cut =
    record { last = middle; rounds = so_far; ends = inr (inr (record { is_so = is_so; unmet = refl; round = cut })) }

-- what is cut off for one reason is for another
ends_by : (limit most : Option ℕ) (is_cut is_cut' met : Bool) (before : AtRun) (after : AtRun)
    → (is_cut ≡ true → is_cut' ≡ true) → RunDid limit is_cut met most before after
    → RunDid limit is_cut' met most before after
ends_by limit most is_cut is_cut' met before after so ran =
    record { last = ran.last; rounds = ran.rounds; ends = by ran.ends }
  where
    by : RunEnds limit is_cut met most ran.last after → RunEnds limit is_cut' met most ran.last after
    by (inl last) = inl last
    by (inr (inl none)) = inr (inl none)
    by (inr (inr cut)) = inr (inr (record { is_so = so cut.is_so; unmet = cut.unmet; round = cut.round }))

-- a run at a console
pub ran_as_far : (limit : Option ℕ) (is_cut is_cut' met : Bool) (reach : Reach) (before after : AtConsole)
    (begun left : RunStops)
    → IsUntil reach.until begun.until → begun.stops ≡ before.stops
    → RunDid limit is_cut met reach.most (record { sitting = before.sitting; ends = begun })
    (record { sitting = after.sitting; ends = left })
    → (is_cut ≡ true → is_cut' ≡ true) → after.stops ≡ counted_if met left.stops
    → RanAsFar limit is_cut' reach before after
ran_as_far limit is_cut is_cut' met reach before after begun left until stops ran so counted = record {
  begun = begun;
  left = left;
  met = met;
  until = until;
  stops = stops;
  ran = ends_by limit reach.most is_cut is_cut' met (record { sitting = before.sitting; ends = begun })
      (record { sitting = after.sitting; ends = left }) so ran;
  counted = counted;
}

-- a run that isn't over has instructions left
pub still_left : (most : Option ℕ) (met : Bool) (before after : AfterRounds)
    → RoundMore most false met before after → is_spent most after.steps ≡ false
still_left most met before after more =
    neither (ends_run more.found.end after.at.ends.is_met) (is_spent most after.steps) more.over_is
  where
    neither : (a b : Bool) → (a || b) ≡ false → b ≡ false
    neither false b is = is
    neither true b is = absurd cc

-- a run that goes on
pub went_on : (most : Option ℕ) (how : Progress) (all : ℕ) (before : AfterRounds) (after : AtRun)
    → how ≡ progress.On all → ProgressDid most how before after
    → RoundMore most false false before (record { at = after; steps = all })
went_on most how all before after is did = subst (λ (it : Progress). ProgressDid most it before after) is did

pub steps_on : (how : Progress) (all : ℕ) → how ≡ progress.On all → steps_of how ≡ all
steps_on how all is = ap steps_of is

-- A deck that loads itself, an instruction at a time.
use Rattle.std.proofs.Common.{◌≡◌, ◌<◌, ℕ, zero, suc, ◌-◌, ◌==◌, Bool, true, false, List, refl, arith}
use Rattle.std.specs.Prelude.{not, Result, Ok, Err}
use Rattle.machine_tapes.specs.declared.taped_machine.TapedMachine.{TapedMachine}
use Rattle.job_runner.specs.Unattended.{unattended}
use Rattle.machine_tables.specs.declared.stop.Stop.{Stop}
use Rattle.machine_tables.specs.declared.stop.Stop.TheVariants as stop
use Rattle.autocoder_deck.specs.Entry.{AtEntry, cards_held, carried_after, is_at_entry, load_on, stopped, until_entry}
use Rattle.autocoder_deck.specs.declared.entry.LoadFault.{LoadFault}

-- the machine is at its entry, whatever it may carry out
pub is_there : (limit : ℕ) (carried : List Bool) (s : TapedMachine) → is_at_entry s.machine ≡ true
    → until_entry limit carried s ≡ Ok (record { state = s; carried = carried })
unfolding until_entry
is_there zero carried s e = rw e refl
is_there (suc limit) carried s e = rw e refl

-- it isn't, and nothing more is carried out
pub no_step : (limit : ℕ) (carried : List Bool) (s : TapedMachine) → (0 < limit → ⊥) → is_at_entry s.machine ≡ false
    → until_entry limit carried s ≡ Err (stopped stop.Limit s.machine)
unfolding until_entry
no_step zero carried s none e = rw e refl
no_step (suc limit) carried s none e = absurd (none (omega arith))

-- it isn't, and the next instruction doesn't stop the machine
pub one_step : (limit : ℕ) (carried : List Bool) (s : TapedMachine) → 0 < limit → is_at_entry s.machine ≡ false
    → (unattended 1 s).stop ≡ stop.Limit
    → until_entry limit carried s
    ≡ until_entry (limit - 1)
    (carried_after (not (cards_held (unattended 1 s).state.machine == cards_held s.machine)) s.machine.i carried) (unattended 1 s).state
unfolding until_entry
one_step zero carried s some e h = absurd (omega arith)
one_step (suc limit) carried s some e h =
    let less : suc limit - 1 ≡ limit = omega arith in
    rw (e, h, less) refl

-- whatever stops the machine is why it isn't loaded
stop_counts : (why : Stop) (before s : TapedMachine) (carried : List Bool)
    (more : List Bool → TapedMachine → Result AtEntry LoadFault) → (why ≡ stop.Limit → ⊥)
    → load_on why before s carried more ≡ Err (stopped why s.machine)
stop_counts stop.Limit before s carried more h = absurd (h refl)
stop_counts stop.Halt before s carried more h = refl
stop_counts stop.Reader before s carried more h = refl
stop_counts stop.Forms before s carried more h = refl
stop_counts stop.Stacker before s carried more h = refl
stop_counts stop.NoMark before s carried more h = refl
stop_counts stop.OpCode before s carried more h = refl
stop_counts stop.Length before s carried more h = refl
stop_counts stop.Address before s carried more h = refl
stop_counts stop.Overlap before s carried more h = refl
stop_counts stop.Carriage before s carried more h = refl
stop_counts stop.NotFitted before s carried more h = refl
stop_counts stop.DChar before s carried more h = refl
stop_counts stop.Tape before s carried more h = refl

-- it isn't, and the next instruction stops the machine
pub stops_there : (limit : ℕ) (carried : List Bool) (s : TapedMachine) → 0 < limit → is_at_entry s.machine ≡ false
    → ((unattended 1 s).stop ≡ stop.Limit → ⊥)
    → until_entry limit carried s ≡ Err (stopped (unattended 1 s).stop (unattended 1 s).state.machine)
unfolding until_entry
stops_there zero carried s some e h = absurd (omega arith)
stops_there (suc limit) carried s some e h =
    rw e (stop_counts (unattended 1 s).stop s (unattended 1 s).state carried (until_entry limit) h)

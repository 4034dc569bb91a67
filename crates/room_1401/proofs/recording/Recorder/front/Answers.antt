-- What the invariant says of the kept text holds of the shown commands.
use Rattle.std.proofs.Common.{◌≡◌, ℕ, refl, subst}
use Rattle.room_alone.specs.Kept.{KeptAccount}
use Rattle.room_1401.specs.Keeping.{AreShown, shown_in}
use Rattle.room_1401.proofs.recording.Recorder.front.Goals as goal

pub returns-clause-shown : goal.returns-clause-shown
returns-clause-shown g c =
    let it = c.self.inside in
    let keeper = g.K.Keeper in
    let failed = keeper.has_failed it.keeper in
    let shown : AreShown keeper.has_failed keeper.kept keeper.first keeper.form it.room.size failed
    (shown_in (record { room = it.room; failed = failed; kept = keeper.kept it.keeper })) = record {
      keeper = it.keeper;
      failed_is = refl;
      journal = it.room.journal;
      legal = c.journal-journal.ensures.legal;
      pairs_are = refl;
      text = c.self.invariant.4;
    } in
    subst (λ (account : KeptAccount). AreShown keeper.has_failed keeper.kept keeper.first keeper.form g.J.RoomId.size
    account.failed (shown_in account)) c.self.view_is
    (subst (λ (n : ℕ). AreShown keeper.has_failed keeper.kept keeper.first keeper.form n failed
    (shown_in (record { room = it.room; failed = failed; kept = keeper.kept it.keeper }))) c.self.invariant.0 shown)

-- All parts of the ledger are back, so what the seats made together is the total, which is how many commands are shown.
use Rattle.std.proofs.Common.{◌≡◌, ◌≤◌, ap, sym, ◌∙◌, arith, List, length}
use Rattle.room_alone.specs.Kept.{KeptAccount}
use Rattle.room_alone.specs.declared.entry.Entry.{Entry}
use Rattle.room_alone.proofs.ReplayLemmas.{length-pairs_of}
use Rattle.room_1401.specs.Closing.{made_of}
use Rattle.room_1401.specs.Keeping.{kept_part, shown_in}
use Rattle.room_1401.proofs.ClosingLemmas.{all_once, settled}
use Rattle.room_1401.proofs.locked.LockedRoom.settle.Goals as goal

pub returns-clause-settled : goal.returns-clause-settled
returns-clause-settled g c =
    let seats = c.args.seats.items in
    let n = g.J.RoomId.seats in
    let merged = c.merge_all-all.ensures in
    let few : length seats ≤ n = omega (arith, merged.parts.0, merged.parts.1, c.requires.parts) in
    let parts = merged.parts.0 ∙ (all_once n seats c.requires.back few ∙ sym c.requires.parts) in
    let journal : List Entry = kept_part c.args.self.failed c.args.self.room.journal in
    let len = ap (λ (account : KeptAccount). length (shown_in account)) c.self.view_is in
    let made : made_of seats ≡ length journal =
    sym merged.amount ∙ (c.audit.ensures.whole parts ∙ (c.self.invariant.0 ∙ (len ∙ length-pairs_of journal))) in
    settled n journal seats c.requires.back few c.requires.fit made

-- One command more of the plan, or the end of it.
use Rattle.std.proofs.Common.{◌≡◌, ◌+◌, List, [], ◌∷◌, drop, ◌∙◌, ap, subst}
use Rattle.cpu_1401.specs.State.{State}
use Rattle.devices_1401.specs.declared.card.Card.{Card}
use Rattle.room_alone.specs.Journal.{state_of}
use Rattle.operate_sitting.specs.Notes.{Noted, hand_of}
use Rattle.operate_sitting.specs.Tending.{CarriedAll, plan_of}
use Rattle.operate_sitting.proofs.TendingLemmas.{part_of, planned_push}
use Rattle.operate_sitting.proofs.tending.tend.Goals as goal

pub returns-in-Ok-false-clause-part : goal.returns-in-Ok-false-clause-part
returns-in-Ok-false-clause-part g c =
    let room = c.args.paired.now.room in
    let notes = c.args.notes.now in
    let plan = c.plan_of-plan.result in
    let now = c.loop-at.paired.room in
    let next = c.carry_noted.new in
    let command = c.command_at-command.result in
    let deck : List Card = drop c.count_given-given.result c.loop-at.notes.deck in
    let hand : deck ≡ hand_of notes =
    ap (λ (it : Noted). drop c.count_given-given.result it.deck) c.loop-at.invariant.notes
    ∙ ap (λ n. drop n notes.deck) c.count_given-given.ensures in
    let given = c.loop-at.notes.given in
    let one : CarriedAll now.size (command ∷ []) now.journal next.paired.room.journal given next.notes.given =
    subst
    (λ (it : Noted).
    CarriedAll now.size (command ∷ []) now.journal next.paired.room.journal it.given next.notes.given)
    c.command_at-command.ensures.same c.in-Ok-false.ensures.carried in
    let wanted : plan ≡ plan_of (state_of room.size room.journal).devices =
    c.plan_of-plan.ensures ∙ ap plan_of c.devices.ensures ∙ ap (λ (s : State). plan_of s.devices) c.machine.ensures in
    part_of room.size (c.loop-at.at + 1) plan (state_of room.size room.journal).devices (hand_of notes)
    room.journal next.paired.room.journal notes.given next.notes.given wanted
    (planned_push room.size now.size c.loop-at.at plan (hand_of notes) deck
    command room.journal now.journal next.paired.room.journal
    notes.given c.loop-at.notes.given next.notes.given
    hand c.command_at-command.ensures.command c.loop-at.invariant.carried one c.loop-at.invariant.size)

pub returns-in-Err-clause-part : goal.returns-in-Err-clause-part
returns-in-Err-clause-part g c =
    let room = c.args.paired.now.room in
    let notes = c.args.notes.now in
    let plan = c.plan_of-plan.result in
    let next = c.carry_noted.new in
    let wanted : plan ≡ plan_of (state_of room.size room.journal).devices =
    c.plan_of-plan.ensures ∙ ap plan_of c.devices.ensures ∙ ap (λ (s : State). plan_of s.devices) c.machine.ensures in
    part_of room.size c.loop-at.at plan (state_of room.size room.journal).devices (hand_of notes)
    room.journal next.paired.room.journal notes.given next.notes.given wanted (
      c.in-Err.ensures.journal ∙ c.loop-at.invariant.carried.0,
      ap (λ (it : Noted). it.given) (c.in-Err.ensures.given ∙ c.command_at-command.ensures.same)
          ∙ c.loop-at.invariant.carried.1,
    )

pub loop-at-preserved : goal.loop-at-preserved
loop-at-preserved g c =
    let room = c.args.paired.now.room in
    let notes = c.args.notes.now in
    let now = c.loop-at.paired.room in
    let next = c.carry_noted.new in
    let command = c.command_at-command.result in
    let deck : List Card = drop c.count_given-given.result c.loop-at.notes.deck in
    let hand : deck ≡ hand_of notes =
    ap (λ (it : Noted). drop c.count_given-given.result it.deck) c.loop-at.invariant.notes
    ∙ ap (λ n. drop n notes.deck) c.count_given-given.ensures in
    let given = c.loop-at.notes.given in
    let one : CarriedAll now.size (command ∷ []) now.journal next.paired.room.journal given next.notes.given =
    subst
    (λ (it : Noted).
    CarriedAll now.size (command ∷ []) now.journal next.paired.room.journal it.given next.notes.given)
    c.command_at-command.ensures.same c.in-Ok-true.ensures.carried in
    record {
      carried =
          planned_push room.size now.size c.loop-at.at c.plan_of-plan.result (hand_of notes) deck
          command room.journal now.journal next.paired.room.journal
          notes.given c.loop-at.notes.given next.notes.given
          hand c.command_at-command.ensures.command c.loop-at.invariant.carried one
          c.loop-at.invariant.size;
      size = c.in-Ok-true.ensures.size ∙ c.loop-at.invariant.size;
      notes =
          c.in-Ok-true.ensures.notes
          ∙ ap (λ (it : Noted). let more : Noted = record it { given = next.notes.given } in more)
          (c.command_at-command.ensures.same ∙ c.loop-at.invariant.notes);
      kept = λ good. c.in-Ok-true.ensures.kept c.in-Ok-true.field-0-test;
    }

pub returns-clause-part : goal.returns-clause-part
returns-clause-part g c =
    let room = c.args.paired.now.room in
    let notes = c.args.notes.now in
    let plan = c.plan_of-plan.result in
    let wanted : plan ≡ plan_of (state_of room.size room.journal).devices =
    c.plan_of-plan.ensures ∙ ap plan_of c.devices.ensures ∙ ap (λ (s : State). plan_of s.devices) c.machine.ensures in
    part_of room.size c.loop-at.at plan (state_of room.size room.journal).devices (hand_of notes)
    room.journal c.loop-at.paired.room.journal notes.given c.loop-at.notes.given wanted c.loop-at.invariant.carried

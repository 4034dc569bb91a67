-- Commands that are carried out one after another.
use Rattle.std.proofs.Common.{◌≡◌, ℕ, ◌+◌, List, [], ◌∷◌, ◌++◌, length, take, drop, refl, sym, ◌∙◌, ap, subst, arith}
use Rattle.std.proofs.Common.{append_assoc, length-append, Some}
use Rattle.std.proofs.lemmas.List.{append-nil, take_more, take-append-drop}
use Rattle.std.proofs.lemmas.Option.{get_or_from_slice_get, slice_get_within}
use Rattle.std.specs.List.{slice_get}
use Rattle.devices_1401.specs.Devices.{Devices}
use Rattle.devices_1401.specs.declared.card.Card.{Card}
use Rattle.machine_commands.specs.declared.command.Command.{Command}
use Rattle.room_alone.specs.Journal.{answer_to, entry}
use Rattle.room_alone.specs.declared.entry.Entry.{Entry}
use Rattle.operate_sitting.specs.declared.tending.Plan.{Plan}
use Rattle.operate_sitting.specs.Tending.{CarriedAll, CarriedPart, carried_on, feed_at, feeds_at, plan_of, planned, tending}

-- the journal after one command more
pub carried_on-push : (size : ℕ) (journal : List Entry) (commands : List Command) (last : Command)
    → carried_on size journal (commands ++ last ∷ [])
    ≡ carried_on size journal commands ++ entry 0 last (answer_to size (carried_on size journal commands) last) ∷ []
carried_on-push size journal [] last = refl
carried_on-push size journal (command ∷ commands) last =
    carried_on-push size (journal ++ entry 0 command (answer_to size journal command) ∷ []) commands last

pub length-carried_on : (size : ℕ) (journal : List Entry) (commands : List Command)
    → length (carried_on size journal commands) ≡ length journal + length commands
length-carried_on size journal [] = omega arith
length-carried_on size journal (command ∷ commands) =
    let last : Entry = entry 0 command (answer_to size journal command) in
    omega (
      arith,
      length-carried_on size (journal ++ last ∷ []) commands,
      length-append journal (last ∷ []),
    )

-- the places of the cards of one command more
pub feeds_at-push : (place : ℕ) (commands : List Command) (last : Command)
    → feeds_at place (commands ++ last ∷ []) ≡ feeds_at place commands ++ feed_at (place + length commands) last
feeds_at-push place [] last =
    append-nil (feed_at place last)
    ∙ ap (λ n. feed_at n last) (let e : place ≡ place + 0 = omega arith in e)
feeds_at-push place (command ∷ commands) last =
    ap (λ (places : List ℕ). feed_at place command ++ places) (feeds_at-push (place + 1) commands last)
    ∙ sym (append_assoc (feed_at place command) (feeds_at (place + 1) commands)
    (feed_at ((place + 1) + length commands) last))
    ∙ ap (λ n. (feed_at place command ++ feeds_at (place + 1) commands) ++ feed_at n last)
    (let e : (place + 1) + length commands ≡ place + length (command ∷ commands) = omega arith in e)

-- one command more was carried out
pub carried_push : (size size' : ℕ) (commands : List Command) (last : Command) (before middle after : List Entry)
    (given more noted : List ℕ)
    → CarriedAll size commands before middle given more → CarriedAll size' (last ∷ []) middle after more noted
    → size' ≡ size → CarriedAll size (commands ++ last ∷ []) before after given noted
carried_push size size' commands last before middle after given more noted done one same =
    let count : length middle ≡ length before + length commands =
    ap length done.0 ∙ length-carried_on size before commands in (
      one.0
          ∙ ap (λ n. middle ++ entry 0 last (answer_to n middle last) ∷ []) same
          ∙ ap (λ (journal : List Entry). journal ++ entry 0 last (answer_to size journal last) ∷ []) done.0
          ∙ sym (carried_on-push size before commands last),
      one.1
          ∙ ap (λ (places : List ℕ). more ++ places) (append-nil (feed_at (length middle) last))
          ∙ ap (λ n. more ++ feed_at n last) count
          ∙ ap (λ (places : List ℕ). places ++ feed_at (length before + length commands) last) done.1
          ∙ append_assoc given (feeds_at (length before) commands) (feed_at (length before + length commands) last)
          ∙ ap (λ (places : List ℕ). given ++ places) (sym (feeds_at-push (length before) commands last)),
    )

-- the commands up to one of them
pub take_found : (commands : List Command) (i : ℕ) (command : Command) → slice_get commands i ≡ Some command
    → take (i + 1) commands ≡ take i commands ++ command ∷ []
take_found commands i command found =
    take_more commands i command (slice_get_within commands i command found)
    ∙ ap (λ (c : Command). take i commands ++ c ∷ []) (get_or_from_slice_get commands i command command found)

-- one command more of a plan was carried out
pub planned_push : (size size' at : ℕ) (plan : Plan) (hand hand' : List Card) (command : Command)
    (before middle after : List Entry) (given more noted : List ℕ)
    → hand' ≡ hand → slice_get (planned plan hand') at ≡ Some command
    → CarriedAll size (take at (planned plan hand)) before middle given more
    → CarriedAll size' (command ∷ []) middle after more noted → size' ≡ size
    → CarriedAll size (take (at + 1) (planned plan hand)) before after given noted
planned_push size size' at plan hand hand' command before middle after given more noted same found done one size_is =
    let here : slice_get (planned plan hand) at ≡ Some command =
    ap (λ (cards : List Card). slice_get (planned plan cards) at) (sym same) ∙ found in
    subst (λ (commands : List Command). CarriedAll size commands before after given noted)
    (sym (take_found (planned plan hand) at command here))
    (carried_push size size' (take at (planned plan hand)) command before middle after given more noted done one size_is)

-- the first commands of what devices want are some of it
pub part_of : (size i : ℕ) (plan : Plan) (devices : Devices) (hand : List Card) (before after : List Entry)
    (given noted : List ℕ)
    → plan ≡ plan_of devices → CarriedAll size (take i (planned plan hand)) before after given noted
    → CarriedPart size (tending devices hand) before after given noted
part_of size i plan devices hand before after given noted is carried = record {
  done = take i (planned plan hand);
  left = drop i (planned plan hand);
  commands_are =
      ap (λ (p : Plan). planned p hand) (sym is) ∙ sym (take-append-drop i (planned plan hand));
  carried = carried;
}

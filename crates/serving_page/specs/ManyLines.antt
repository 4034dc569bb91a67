-- Console lines that one request brings, carried out one after the other (own).
use Rattle.std.specs.Prelude.{◌≡◌, ◌==◌, ℕ, ◌⊎◌, Bool, true, false, ◌||◌, List, [], ◌∷◌, ◌++◌, codes, Option, None, Some}
use Rattle.std.specs.List.{starts_with}
use Rattle.std.specs.Str.{bytes_eq}
use Rattle.room_alone.specs.declared.entry.SeatedCommand.{SeatedCommand}
use Rattle.room_1401.specs.Seen.{SeatView}
use Rattle.console_text.specs.ConsoleLine.{said_by}
use Rattle.console_1401.specs.declared.attending.Unanswered.{Unanswered}
use Rattle.console_1401.specs.declared.attending.Unanswered.TheVariants.{Memory, Unkept}
use Rattle.console_1401.specs.SeatTurns.{AnswersAtSeat, IsUnanswered}
use Rattle.serving_page.specs.Pieces.{pieces_of}

-- it ends a line
abbrev pub line_feed : ℕ
line_feed = 10

-- the lines of a body; after a line feed at its end comes an empty one
abbrev pub lines_of : List ℕ → List (List ℕ)
lines_of body = pieces_of line_feed body

-- a text begins a reply
abbrev pub begins : List ℕ → List ℕ → Bool
begins front reply = starts_with (λ a b. a == b) reply front

-- The next line is carried out after a command that was done, and after a printed line or a card that was taken. So
-- nothing is fed after a card that was refused, and a run comes last.
abbrev pub goes_on : List ℕ → Bool
goes_on reply = bytes_eq reply (codes "OK\n") || begins (codes "LINE ") reply || begins (codes "CARD ") reply

-- what a gate says of the first of some lines: nothing, and it is carried out; or why it is held off
abbrev pub Saying : Type 1
Saying = List (List ℕ) → Option (List ℕ) → Type 0

-- The first of these lines were carried out one after the other, each once the gate let it through, and answered as it
-- is alone, by a reply that goes on; the text is all their replies, and the other lines are left.
abbrev pub LinesDone : ℕ → Saying → SeatView → List (List ℕ) → List ℕ → SeatView → List (List ℕ) → Type 0
LinesDone size says before [] text after left = (text ≡ []) × (after ≡ before) × (left ≡ [])
LinesDone size says before (line ∷ lines) text after left =
    ((reply : List ℕ) × (middle : SeatView) × (rest : List ℕ) × says (line ∷ lines) None
    × AnswersAtSeat size before (said_by line) reply middle × (goes_on reply ≡ true) × (text ≡ reply ++ rest)
    × LinesDone size says middle lines rest after left)
    ⊎ ((text ≡ []) × (after ≡ before) × (left ≡ line ∷ lines))

-- After these replies no line is left; or the next one's reply, which is in the text too, doesn't go on.
abbrev pub EndsTold : ℕ → Saying → List ℕ → SeatView → List (List ℕ) → List ℕ → SeatView → Type 0
EndsTold size says told before [] text after = (text ≡ told) × (after ≡ before)
EndsTold size says told before (line ∷ lines) text after =
    (reply : List ℕ) × says (line ∷ lines) None × AnswersAtSeat size before (said_by line) reply after
    × (goes_on reply ≡ false) × (text ≡ told ++ reply)

-- lines were carried out up to the first whose reply doesn't go on; the text is all their replies
abbrev pub LinesAnswered : ℕ → Saying → SeatView → List (List ℕ) → List ℕ → SeatView → Type 0
LinesAnswered size says before lines text after =
    (told : List ℕ) × (middle : SeatView) × (left : List (List ℕ)) × LinesDone size says before lines told middle left
    × EndsTold size says told middle left text after

-- After these replies a line is left, which is held off with all that follow. The text says why, unless memory was
-- refused for that.
abbrev pub EndsKeptOff : Saying → List ℕ → SeatView → List (List ℕ) → List ℕ → SeatView → Type 0
EndsKeptOff says told before [] text after = ⊥
EndsKeptOff says told before (line ∷ lines) text after =
    (why : List ℕ) × says (line ∷ lines) (Some why) × ((text ≡ told ++ why) ⊎ (text ≡ told)) × (after ≡ before)

-- lines were carried out up to the first to be held off; the text is all their replies, and then why
abbrev pub LinesKeptOff : ℕ → Saying → SeatView → List (List ℕ) → List ℕ → SeatView → Type 0
LinesKeptOff size says before lines text after =
    (told : List ℕ) × (middle : SeatView) × (left : List (List ℕ)) × LinesDone size says before lines told middle left
    × EndsKeptOff says told middle left text after

-- what a reason shows: an entry isn't kept only if something was lost
abbrev pub IsReason : Type 0 → Unanswered → Type 0
IsReason lost Memory = Unit {0}
IsReason lost Unkept = lost

-- The next line has no reply, for a reason that holds; or there was no more memory for its reply.
abbrev pub EndsUntold : ℕ → Saying → (List SeatedCommand → Type 0) → SeatView → List (List ℕ) → Unanswered → SeatView
    → Type 0
EndsUntold size says lost before [] why after = ⊥
EndsUntold size says lost before (line ∷ lines) why after =
    says (line ∷ lines) None
    × ((IsReason (lost after.list) why × IsUnanswered size before (said_by line) after)
    ⊎ ((reply : List ℕ) × AnswersAtSeat size before (said_by line) reply after × (why ≡ Memory)))

-- lines were carried out up to one without a reply, and the page hears none of their replies
abbrev pub LinesUnanswered : ℕ → Saying → (List SeatedCommand → Type 0) → SeatView → List (List ℕ) → Unanswered
    → SeatView → Type 0
LinesUnanswered size says lost before lines why after =
    (untold : List ℕ) × (middle : SeatView) × (left : List (List ℕ))
    × LinesDone size says before lines untold middle left × EndsUntold size says lost middle left why after

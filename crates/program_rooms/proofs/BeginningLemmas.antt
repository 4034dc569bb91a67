-- Commands that a seat gave, one after the other.
use Rattle.std.proofs.Common.{◌≡◌, ℕ, ◌+◌, ◌<◌, List, [], ◌∷◌, ◌++◌, length, map, take, get_or, refl, sym, ap, subst}
use Rattle.std.proofs.Common.{◌∙◌}
use Rattle.std.proofs.lemmas.List.{map-append, take_more}
use Rattle.machine_commands.specs.declared.command.Command.{Command}
use Rattle.room_1401.specs.Seen.{SeatView}
use Rattle.program_rooms.specs.Beginning.{Gave, GaveAll}

-- what is made of one item more
pub one_more : {X Y : Type 0} (f : X → Y) (xs ys : List X) (i : ℕ) (x : X) → xs ≡ ys → i < length xs → x ≡ get_or xs i x
    → map f (take i ys) ++ f x ∷ [] ≡ map f (take (i + 1) ys)
one_more f xs ys i x same less is =
    subst (λ all. map f (take i all) ++ f x ∷ [] ≡ map f (take (i + 1) all)) same
    (ap (λ last. map f (take i xs) ++ f last ∷ []) is
    ∙ sym (map-append f (take i xs) (get_or xs i x ∷ []))
    ∙ ap (map f) (sym (take_more xs i x less)))

-- one command more
pub gave_more : (size : ℕ) (commands : List Command) (command : Command) (old seat new : SeatView)
    → GaveAll size commands old seat → Gave size command seat new → GaveAll size (commands ++ command ∷ []) old new
gave_more size [] command old seat new all last = (new, subst (λ before. Gave size command before new) all last, refl)
gave_more size (first ∷ commands) command old seat new all last =
    (all.0, all.1, gave_more size commands command all.0 seat new all.2 last)

-- these commands, and then those
pub gave_both : (size : ℕ) (front rest : List Command) (old seat new : SeatView) → GaveAll size front old seat
    → GaveAll size rest seat new → GaveAll size (front ++ rest) old new
gave_both size [] rest old seat new all more = subst (λ before. GaveAll size rest before new) all more
gave_both size (first ∷ front) rest old seat new all more =
    (all.0, all.1, gave_both size front rest all.0 seat new all.2 more)

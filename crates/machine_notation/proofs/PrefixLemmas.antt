-- What follows a prefix.
use Rattle.std.proofs.Common.{◌≡◌, ℕ, true, List, ◌++◌, length, take, drop, Some, refl, sym, ap, ◌∙◌}
use Rattle.std.specs.Str.{bytes_eq}
use Rattle.std.proofs.lemmas.List.{take_at, drop_at, take-append-drop}
use Rattle.std.proofs.lemmas.Option.{cond_some}
use Rattle.std.proofs.lemmas.Slice.Eq.{bytes_eq-Decides}
use Rattle.machine_notation.specs.Prefix.{after_prefix}

-- the text begins with these bytes
pub after_prefix_takes : (front text rest : List ℕ) → after_prefix front text ≡ Some rest → text ≡ front ++ rest
after_prefix_takes front text rest h =
    let found = cond_some (bytes_eq (take (length front) text) front) (drop (length front) text) rest h in
    let same : take (length front) text ≡ front = (bytes_eq-Decides (take (length front) text) front).0 found.0 in
    sym (take-append-drop (length front) text)
    ∙ ap (λ (more : List ℕ). more ++ drop (length front) text) same
    ∙ ap (λ (more : List ℕ). front ++ more) found.1

-- and what follows them is found again
pub after_prefix_again : (front rest : List ℕ) → after_prefix front (front ++ rest) ≡ Some rest
after_prefix_again front rest =
    let same : bytes_eq front front ≡ true = (bytes_eq-Decides front front).1 refl in
    rw (take_at front rest (length front) refl, drop_at front rest (length front) refl, same)

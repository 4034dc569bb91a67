-- One code more.
use Rattle.std.proofs.Common.{◌≡◌, ℕ, ◌+◌, ◌<◌, List, length, take, set, map, get_or, refl}
use Rattle.std.proofs.lemmas.List.{take_more, take_more_set, map_push}
use Rattle.autocoder_placing.specs.Characters.{char_of}

pub one_code_more : (codes graphics : List ℕ) (i code : ℕ) → i < length codes → i < length graphics → take i codes
    ≡ map char_of (take i graphics)
    → code ≡ char_of (get_or graphics i 0) → take (i + 1) (set codes i code) ≡ map char_of (take (i + 1) graphics)
one_code_more codes graphics i code room there so_far one =
    let made = take_more_set codes i code room in
    let taken = take_more graphics i 0 there in
    rw (made, taken, map_push, so_far, one) refl

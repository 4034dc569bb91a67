-- The window's highest n bits are those of the places.
use Rattle.std.proofs.Common.{ℕ, List, ◌-◌, ◌/◌, ◌^◌}
use Rattle.std.proofs.lemmas.Bool.{eqb-true, eq-eqb}
use Rattle.core_1401.proofs.PlaceSetLemmas.{none_in_window, some_in_window}
use Rattle.core_1401.proofs.place_set.none_near.Goals as goal

pub returns : goal.returns
returns c =
    let words : List ℕ = c.args.words.now in
    let w : ℕ = c.window_down.result in
    let n : ℕ = c.args.n in (
      λ none. none_in_window words c.args.at w n c.window_down.ensures c.requires.most
          (eqb-true (w / 2 ^ (64 - n)) 0 none),
      λ none. eq-eqb (w / 2 ^ (64 - n)) 0 (some_in_window words c.args.at w n c.window_down.ensures
          c.window_down.type_inv c.requires.most c.requires.places none),
    )

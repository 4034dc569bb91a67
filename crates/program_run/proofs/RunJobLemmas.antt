-- The switches of a run, and the image of what its deck has loaded.
use Rattle.std.proofs.Common.{◌≡◌, ℕ, ◌+◌, ◌<◌, ◌≤◌, Bool, false, List, length, drop, get_or, Option, ap}
use Rattle.std.proofs.Common.{Result, refl, subst, unwrap_or}
use Rattle.std.proofs.lemmas.List.{drop_all, drop_more}
use Rattle.cpu_1401.specs.State.{State, power_on, with_switch}
use Rattle.autocoder_deck.specs.Entry.{AtEntry, loaded_deck}
use Rattle.autocoder_deck.specs.LoadedCore.{IsLoadedDeck}
use Rattle.autocoder_deck.specs.declared.entry.LoadFault.{LoadFault}
use Rattle.autocoder_deck.specs.declared.loaded_core.LoadedDeck.{LoadedDeck}
use Rattle.devices_1401.specs.declared.card.Card.{Card}
use Rattle.machine_image.specs.Image.{IsInCore}
use Rattle.machine_image.specs.ImageText.{written_text}
use Rattle.job_runner.specs.Unattended.{with_deck}
use Rattle.machine_tables.specs.declared.features.Features.{Features}
use Rattle.program_run.specs.RunJob.{IsLoadedText, set_up, turned}

-- one switch more is turned, and then none is left
pub turned_more : (switches : List Bool) (n : ℕ) (s : State) → n < length switches
    → turned n (drop n switches) s ≡ turned (n + 1) (drop (n + 1) switches) (with_switch s n (get_or switches n false))
turned_more switches n s within = ap (λ (left : List Bool). turned n left s) (drop_more switches n false within)

pub turned_none : (switches : List Bool) (n : ℕ) (s : State) → length switches ≤ n → turned n (drop n switches) s ≡ s
turned_none switches n s all = ap (λ (left : List Bool). turned n left s) (drop_all n switches all)

-- the image of what a deck has loaded is in core
pub loaded_in_core : (outcome : Result AtEntry LoadFault) (loaded : LoadedDeck) → IsLoadedDeck outcome loaded
    → IsInCore loaded.image
loaded_in_core outcome loaded is = is.2.in_core

-- and its text is that of what the cards load
pub is_loaded_text : (size : Option ℕ) (features : Features) (switches : List Bool) (cards : List Card) (machine : State)
    (loaded : LoadedDeck) (text : List ℕ) → machine ≡ set_up features switches (power_on (unwrap_or size 4000))
    → IsLoadedDeck (loaded_deck 1000000 (with_deck cards machine)) loaded → text ≡ written_text loaded.image
    → IsLoadedText size features switches cards text
is_loaded_text size features switches cards machine loaded text same is text_is =
    let there = subst (λ (s : State). IsLoadedDeck (loaded_deck 1000000 (with_deck cards s)) loaded) same is in
    (loaded.image, (loaded, refl, there), text_is)

-- Reels that are mounted one after the other.
use Rattle.std.proofs.Common.{◌≡◌, ℕ, ◌+◌, ◌<◌, ◌≤◌, Bool, true, false, List, [], ◌∷◌, ◌++◌, Bor, Option, None, Some}
use Rattle.std.proofs.Common.{append_assoc, ap, codes, get_or, length, map, refl}
use Rattle.std.proofs.Common.{subst, sym, take, take_all, ◌∙◌}
use Rattle.std.proofs.lemmas.Bool.{and_parts, false≢true, or_parts}
use Rattle.std.proofs.lemmas.List.{map-append, take_more}
use Rattle.std.proofs.lemmas.List.Elements.{All-append, All-cons, All-nil}
use Rattle.std.proofs.lemmas.List.Folds.{list_any-append}
use Rattle.std.specs.List.{list_any}
use Rattle.std.specs.Prelude.{is_some, nat_eq, not, ◌&&◌, ◌||◌}
use Rattle.clap.proofs.WalkLemmas.{list_any-map}
use Rattle.clap.specs.Words.{first_value}
use Rattle.clap.specs.declared.parser.matches.Found.{Found}
use Rattle.program_arguments.specs.declared.call.MountedReel.{MountedReel}
use Rattle.program_arguments.specs.declared.call.ReelSource.{ReelSource}
use Rattle.program_arguments.specs.declared.call.Start.{Start}
use Rattle.program_arguments.specs.declared.call.Start.TheVariants as start
use Rattle.program_arguments.specs.Mounting.{AreMounted, AreReelsIn, IsLoadable, IsMountable, IsStartIn}
use Rattle.program_arguments.specs.Mounting.{are_apart, loads_tape, mounted_text, reel_text, texts_of}
use Rattle.program_arguments.specs.Options.{values_in}

-- none is
pub mounted_none : (reels : List MountedReel) → reels ≡ [] → AreMounted [] reels
mounted_none reels none =
    subst (λ (each : List MountedReel). AreMounted [] each) (sym none)
    (record { named = refl; mountable = All-nil IsMountable; apart = refl })

still : (is : Bool) → not is ≡ true → (not (is || (false || false)) && true) ≡ true
still true e = e
still false e = refl

-- a unit after others that are none of them
apart_more : (units : List ℕ) (unit : ℕ) → list_any (λ each. nat_eq each unit) units ≡ false
    → are_apart units ≡ true → are_apart (units ++ unit ∷ []) ≡ true
apart_more [] unit none apart = refl
apart_more (first ∷ units) unit none apart =
    let others = or_parts (nat_eq first unit) (list_any (λ each. nat_eq each unit) units) none in
    let parts = and_parts (not (list_any (nat_eq first) units)) (are_apart units) apart in
    let more = list_any-append (nat_eq first) units (unit ∷ []) in
    let rest = apart_more units unit others.1 parts.1 in
    rw (more, rest, others.0) (still (list_any (nat_eq first) units) parts.0)

-- one more is
pub mounted_more : (texts : List (List ℕ)) (reels : List MountedReel) (text : List ℕ) (it : MountedReel)
    → text ≡ mounted_text it → IsMountable it → list_any (λ each. nat_eq each.unit it.unit) reels ≡ false
    → AreMounted texts reels → AreMounted (texts ++ text ∷ []) (reels ++ it ∷ [])
mounted_more texts reels text it is mountable other before = record {
  named = map-append mounted_text reels (it ∷ [])
      ∙ ap (λ (front : List (List ℕ)). front ++ mounted_text it ∷ []) before.named
      ∙ ap (λ (last : List ℕ). texts ++ last ∷ []) (sym is);
  mountable = All-append IsMountable reels (it ∷ []) before.mountable
      (All-cons IsMountable it [] mountable (All-nil IsMountable));
  apart = subst (λ (units : List ℕ). are_apart units ≡ true)
      (sym (map-append (λ (each : MountedReel). each.unit) reels (it ∷ [])))
      (apart_more (map (λ (each : MountedReel). each.unit) reels) it.unit
      (sym (list_any-map (λ (unit : ℕ). nat_eq unit it.unit) (λ (each : MountedReel). each.unit) reels) ∙ other)
      before.apart);
}

-- what is typed for it
pub text_of_it : (text digit named : List ℕ) (unit : ℕ) (reel : ReelSource) → text ≡ digit ++ (61 ∷ named)
    → digit ≡ (48 + unit) ∷ [] → reel_text reel ≡ named → text ≡ (48 + unit) ∷ 61 ∷ reel_text reel
text_of_it text digit named unit reel whole front back =
    whole ∙ ap (λ (one : List ℕ). one ++ (61 ∷ named)) front
    ∙ ap (λ (one : List ℕ). (48 + unit) ∷ 61 ∷ one) (sym back)

-- one value more
pub values_more : (texts : List (List ℕ)) (values : List (Bor (List ℕ))) (i : ℕ) (d : Bor (List ℕ)) → i < length values
    → (texts ++ map (λ each. each.now) (take i values)) ++ ((get_or values i d).now ∷ [])
    ≡ texts ++ map (λ each. each.now) (take (i + 1) values)
values_more texts values i d within =
    append_assoc texts (map (λ each. each.now) (take i values)) ((get_or values i d).now ∷ [])
    ∙ ap (λ (each : List (List ℕ)). texts ++ each)
    (sym (ap (λ (each : List (Bor (List ℕ))). map (λ one. one.now) each) (take_more values i d within)
    ∙ map-append (λ (each : Bor (List ℕ)). each.now) (take i values) (get_or values i d ∷ [])))

-- all values
pub values_all : (texts : List (List ℕ)) (values : List (Bor (List ℕ))) (i : ℕ) (reels : List MountedReel)
    → length values ≤ i → AreMounted (texts ++ map (λ each. each.now) (take i values)) reels
    → AreMounted (texts ++ map (λ each. each.now) values) reels
values_all texts values i reels all is =
    subst (λ (each : List (Bor (List ℕ))). AreMounted (texts ++ map (λ one. one.now) each) reels) (take_all i values all) is

-- the loaded one, and then the others
texts_then : (loaded : Option (List ℕ)) (tapes : List (List ℕ)) → texts_of loaded [] ++ tapes ≡ texts_of loaded tapes
texts_then None tapes = refl
texts_then (Some text) tapes = refl

pub reels_are : (found : Found) (loaded : Option (List ℕ)) (tapes : List (List ℕ)) (reels : List MountedReel)
    → loaded ≡ first_value found (codes "load-tape") → tapes ≡ values_in found (codes "tape")
    → AreMounted (texts_of loaded [] ++ tapes) reels → (is_some loaded ≡ true → IsLoadable reels)
    → AreReelsIn found reels
reels_are found loaded tapes reels first others are old = record {
  named = subst (λ (each : Option (List ℕ)). AreMounted (texts_of each (values_in found (codes "tape"))) reels) first
      (subst (λ (each : List (List ℕ)). AreMounted (texts_of loaded each) reels) others
      (subst (λ (each : List (List ℕ)). AreMounted each reels) (texts_then loaded tapes) are));
  loaded = subst (λ (each : Option (List ℕ)). is_some each ≡ true → IsLoadable reels) first old;
}

-- where a reel is loaded, it is the first one
pub loads : (found : Found) (reels : List MountedReel) (begins : Start) → AreReelsIn found reels
    → IsStartIn found reels begins → loads_tape begins ≡ true → IsLoadable reels
loads found reels start.Entry are is loaded = absurd (false≢true loaded)
loads found reels start.LoadKey are is loaded = absurd (false≢true loaded)
loads found reels (start.LoadTape unit) are is loaded = are.loaded is.0

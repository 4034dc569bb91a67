-- Each step keeps the rule of what is shown.
use Rattle.std.proofs.Common.{◌≡◌, ◌≢◌, ℕ, List, [], ◌∷◌, fold}
use Rattle.std.proofs.Common.{refl, sym, subst, ⊎_elim}
use mathlib.Core.Option.{some}
use mathlib.Core.List.{IsPrefix}
use lib.ListN.{get_elem?}
use Rattle.crossbeam_utils.specs.Register.{Admits, Turns, TurnsAt}
use Rattle.atomic_table.proofs.Lists.{at_set, at_snoc}
use Rattle.logbook.specs.Pages.{Book}
use Rattle.room_alone.specs.declared.entry.SeatedCommand.{SeatedCommand}
use Rattle.room_1401.specs.declared.published.Shown.{Shown}
use Rattle.room_1401.specs.declared.published.Change.{Change}
use Rattle.room_1401.specs.Rule.{IsReplay, Keeps, Sees, Follows, changed}
use Rattle.room_1401.proofs.PrefixLemmas.{prefix_self, prefix_trans}

empty_prefix : (pairs : List SeatedCommand) → IsPrefix [] pairs
empty_prefix pairs = (pairs, refl)

-- a reader that has seen nothing has seen a prefix
nothing_seen : (shown : Shown) (view : List SeatedCommand) → [] ≡ view → IsPrefix view shown.front.log
nothing_seen shown view is =
    subst (λ (list : List SeatedCommand). IsPrefix list shown.front.log) is (empty_prefix shown.front.log)

-- the rule holds if nothing was seen
pub begins : (book : Book) (size : ℕ) (shown : Shown) → IsReplay book size shown → Keeps book size shown ([] ∷ [])
begins book size shown ok = (
  ok,
  λ reader view at. ⊎_elim
      (λ (there : get_elem? [] reader ≡ some view). absurd cc)
      (λ (there : [] ≡ view). nothing_seen shown view there)
      (at_snoc [] [] view reader at),
)

-- a new reader keeps it
pub admits : (book : Book) (size : ℕ) → Admits (Keeps book size) []
admits book size shown views keeps = (
  keeps.0,
  λ reader view at. ⊎_elim
      (keeps.1 reader view)
      (λ (there : [] ≡ view). nothing_seen shown view there)
      (at_snoc views [] view reader at),
)

-- so does a step of one reader, or of the writer, to a replay of a list that goes on
pub moves : (book : Book) (size reader : ℕ) (seen : List SeatedCommand) (old new : Shown)
    → (IsReplay book size old → IsReplay book size new) → IsPrefix old.front.log new.front.log
    → TurnsAt (Keeps book size) reader seen old new (Sees book size)
moves book size reader seen old new ok grows views keeps at =
    let all = new.front.log in (
      all,
      (
        ok keeps.0,
        λ other view is. ⊎_elim
            (λ (there : (other ≡ reader) × (all ≡ view)).
            subst (λ (list : List SeatedCommand). IsPrefix list all) there.1 (prefix_self all))
            (λ (there : (other ≢ reader) × (get_elem? views other ≡ some view)).
            prefix_trans view old.front.log all (keeps.1 other view there.1) grows)
            (at_set views reader other all view is),
      ),
      (ok keeps.0, prefix_trans seen old.front.log all (keeps.1 reader seen at) grows, refl),
    )

-- entering shows what is shown
pub enters : (book : Book) (size reader : ℕ) (seen : List SeatedCommand)
    → Turns (Keeps book size) reader seen (λ shown. shown) (Sees book size)
enters book size reader seen shown =
    moves book size reader seen shown shown (λ keeps. keeps) (prefix_self shown.front.log)

-- publishing shows what the pending changes lead to
pub shows : (book : Book) (size reader : ℕ) (seen : List SeatedCommand) (shown next : Shown) (pending : List Change)
    → Follows book size shown pending → next ≡ fold changed shown pending
    → TurnsAt (Keeps book size) reader seen shown next (Sees book size)
shows book size reader seen shown next pending ok is =
    moves book size reader seen shown next
    (λ _. subst (λ (last : Shown). IsReplay book size last) (sym is) ok.0)
    (subst (λ (last : Shown). IsPrefix shown.front.log last.front.log) (sym is) ok.1)

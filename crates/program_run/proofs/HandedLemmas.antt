-- What is handed over of reels, one after the other.
use Rattle.std.proofs.Common.{◌≡◌, ℕ, List, [], ◌∷◌, ◌++◌, Option, None, Some, append_assoc, append-nil, ap, sym}
use Rattle.std.proofs.Common.{◌∙◌, OnOk, Result, Ok, Err}
use Rattle.std.proofs.lemmas.Bool.{false≢true}
use Rattle.std.specs.Prelude.{⊤, IsOk, IfSome, option_map}
use Rattle.machine_tapes.specs.Tapes.{Tapes}
use Rattle.program_arguments.specs.declared.call.MountedReel.{MountedReel}
use Rattle.program_run.specs.WrittenReels.{AreHandedOver, HandsOver, IsHandedOver, ReelFile, file_of, files_of}
use Rattle.program_run.specs.WrittenReels.{text_on}
use Rattle.program_run.specs.declared.fault.RunFault.{RunFault}

pub hands_none : (old : Option (List ReelFile)) → HandsOver old old []
hands_none None = tt
hands_none (Some files) = sym (append-nil files)

pub hands_more : (old between new : Option (List ReelFile)) (first rest : List ReelFile) → HandsOver old between first
    → HandsOver between new rest → HandsOver old new (first ++ rest)
hands_more None between new first rest one others = tt
hands_more (Some x) None new first rest one others = absurd one
hands_more (Some x) (Some y) None first rest one others = absurd others
hands_more (Some x) (Some y) (Some z) first rest one others =
    others ∙ ap (λ (files : List ReelFile). files ++ rest) one ∙ append_assoc x first rest

-- without a fault of either of two, what is so with both is so
pub both_whole : (first other result : Result ⊤ RunFault) (P Q R : Type 0) → OnOk result (IsOk first × IsOk other)
    → OnOk first P → OnOk other Q → (P → Q → R) → OnOk result R
both_whole first other (Err why) P Q R both one another then = tt
both_whole (Ok a) (Ok b) (Ok c) P Q R both one another then = then one another
both_whole (Err why) other (Ok c) P Q R both one another then = absurd (false≢true both.0)
both_whole (Ok a) (Err why) (Ok c) P Q R both one another then = absurd (false≢true both.1)

-- what was handed over with a text that was made, or without one
pub is_handed : {X : Type 0} (found : Option X) (items : X → List ℕ) (wanted : List ℕ)
    (file : Option (List ℕ) → List ReelFile) (old new : Option (List ReelFile))
    → IfSome found (λ (x : X). items x ≡ wanted) → HandsOver old new (file (option_map items found))
    → IsHandedOver wanted file old new
is_handed None items wanted file old new text handed = (None, tt, handed)
is_handed (Some x) items wanted file old new text handed = (Some (items x), text, handed)

-- one reel more, and those that are left: all of them are handed over, if there is no fault
pub whole_more : (tapes : Tapes) (first : MountedReel) (beyond : List MountedReel) (all : List ReelFile)
    (old between next : Option (List ReelFile)) (outcome other result : Result ⊤ RunFault)
    → OnOk result (IsOk outcome × IsOk other)
    → OnOk outcome ((new : Option (List ReelFile)) → HandsOver between new (files_of tapes (first ∷ beyond))
    → HandsOver old new all)
    → OnOk other (HandsOver between next (file_of (Some (text_on tapes first.unit)) first))
    → OnOk result ((new : Option (List ReelFile)) → HandsOver next new (files_of tapes beyond) → HandsOver old new all)
whole_more tapes first beyond all old between next outcome other result both so_far one =
    both_whole outcome other result
    ((new : Option (List ReelFile)) → HandsOver between new (files_of tapes (first ∷ beyond)) → HandsOver old new all)
    (HandsOver between next (file_of (Some (text_on tapes first.unit)) first))
    ((new : Option (List ReelFile)) → HandsOver next new (files_of tapes beyond) → HandsOver old new all) both so_far one
    (λ so this new left. so new
    (hands_more between next new (file_of (Some (text_on tapes first.unit)) first) (files_of tapes beyond) this left))

-- and each is, whatever the outcome
pub handed_more : (tapes : Tapes) (first : MountedReel) (beyond reels : List MountedReel)
    (old between next : Option (List ReelFile))
    → ((new : Option (List ReelFile)) → AreHandedOver tapes (first ∷ beyond) between new
    → AreHandedOver tapes reels old new)
    → IsHandedOver (text_on tapes first.unit) (λ text. file_of text first) between next
    → (new : Option (List ReelFile)) → AreHandedOver tapes beyond next new → AreHandedOver tapes reels old new
handed_more tapes first beyond reels old between next so_far one new left = so_far new (next, one, left)

-- nothing is left
pub whole_end : (tapes : Tapes) (all : List ReelFile) (old now : Option (List ReelFile)) (outcome : Result ⊤ RunFault)
    → OnOk outcome ((new : Option (List ReelFile)) → HandsOver now new (files_of tapes []) → HandsOver old new all)
    → OnOk outcome (HandsOver old now all)
whole_end tapes all old now (Ok done) so_far = so_far now (hands_none now)
whole_end tapes all old now (Err why) so_far = tt

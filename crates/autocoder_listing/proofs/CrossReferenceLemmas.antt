-- What is noted for each label after one more use.
use Rattle.std.proofs.Common.{◌≡◌, ℕ, Bool, true, false, cond, List, [], ◌∷◌, ◌++◌, Some, refl, sym, ap, ◌∙◌, Vec}
use Rattle.std.proofs.Common.{Global}
use Rattle.std.proofs.lemmas.List.{append-nil}
use Rattle.std.specs.Option.{option_map_or}
use Rattle.indexmap.specs.IndexMap.{IndexMap, get}
use Rattle.autocoder_statements.specs.declared.label.Label.{Label}
use Rattle.autocoder_symbols.specs.Symbols.{same_label}
use Rattle.autocoder_symbols.proofs.SymbolsLemmas.{same_labels}
use Rattle.autocoder_listing.specs.CrossReference.{number_if}
use Rattle.autocoder_listing.specs.View.{lines_naming}

-- a label has one line more, and the others have what they had
pub used : {S : Type 0} (old new : IndexMap Label (Vec ℕ Global) S) (label : Label) (number : ℕ) (lines : Vec ℕ Global)
    → ((other : Label) → get same_label new other ≡ cond (same_label label other) (Some lines) (get same_label old other))
    → lines.items ≡ lines_naming old label ++ number ∷ []
    → (other : Label) → lines_naming new other ≡ lines_naming old other ++ number_if (same_label label other) number
used {S} old new label number lines updates one_more other = by (same_label label other) refl
  where
    by : (same : Bool) → same_label label other ≡ same
        → lines_naming new other ≡ lines_naming old other ++ number_if same number
    by true is =
        ap (λ found. option_map_or (λ (noted : Vec ℕ Global). noted.items) found [])
        (updates other ∙ ap (λ same. cond same (Some lines) (get same_label old other)) is)
        ∙ one_more
        ∙ ap (λ named. lines_naming old named ++ number ∷ []) (same_labels label other is)
    by false is =
        ap (λ found. option_map_or (λ (noted : Vec ℕ Global). noted.items) found [])
        (updates other ∙ ap (λ same. cond same (Some lines) (get same_label old other)) is)
        ∙ sym (append-nil (lines_naming old other))

-- from equal at each label to equal as a whole
pub same_uses : (one other : Label → List ℕ) → ((label : Label) → one label ≡ other label) → one ≡ other
same_uses one other same = λ i label. same label i

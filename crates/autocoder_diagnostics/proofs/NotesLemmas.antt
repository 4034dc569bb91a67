-- What is noted of lines, one by one.
use Rattle.std.proofs.Common.{◌≡◌, ℕ, ◌+◌, ◌≤◌, Bool, true, false, List, ◌∷◌, length, drop, refl, sym, ap, ◌∙◌}
use Rattle.std.proofs.lemmas.List.{drop_all}
use Rattle.std.specs.Prelude.{◌||◌}
use Rattle.std.specs.List.{list_any}
use Rattle.autocoder_statements.specs.declared.statement.Line.{Line}

or_assoc : (a b c : Bool) → ((a || b) || c) ≡ (a || (b || c))
or_assoc true b c = refl
or_assoc false b c = refl

or_nothing : (a : Bool) → (a || false) ≡ a
or_nothing true = refl
or_nothing false = refl

-- what is so of the lines noted or of those that are left is so of all, once a line more is noted
pub line_noted : (P : Line → Bool) (lines : List Line) (i : ℕ) (line : Line) (old new whole : Bool)
    → drop i lines ≡ line ∷ drop (i + 1) lines → new ≡ (old || P line)
    → (old || list_any P (drop i lines)) ≡ whole → (new || list_any P (drop (i + 1) lines)) ≡ whole
line_noted P lines i line old new whole rest noted inv =
    ap (λ (b : Bool). b || list_any P (drop (i + 1) lines)) noted
    ∙ or_assoc old (P line) (list_any P (drop (i + 1) lines))
    ∙ ap (λ (all : List Line). old || list_any P all) (sym rest) ∙ inv

-- once no line is left, what is noted is what is so of all
pub none_left : (P : Line → Bool) (lines : List Line) (i : ℕ) (now whole : Bool) → length lines ≤ i
    → (now || list_any P (drop i lines)) ≡ whole → now ≡ whole
none_left P lines i now whole low inv =
    sym (or_nothing now) ∙ ap (λ (all : List Line). now || list_any P all) (sym (drop_all i lines low)) ∙ inv

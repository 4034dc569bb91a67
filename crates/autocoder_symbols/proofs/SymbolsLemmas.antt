-- What a map of declarations has once one more is noted.
use Rattle.std.proofs.Common.{drop, length, get_or, ◌≡◌, ℕ, ◌+◌, ◌<◌, Bool, true, false, cond, List, [], ◌∷◌, Option}
use Rattle.std.proofs.Common.{◌||◌, None, Some, refl, sym, ap, ◌∙◌}
use Rattle.std.proofs.lemmas.List.{drop_more}
use Rattle.std.specs.Option.{option_or}
use Rattle.std.specs.Cmp.Lexicographic.{same_text}
use Rattle.indexmap.specs.IndexMap.{IndexMap, get}
use Rattle.autocoder_statements.specs.Statement.{is_end}
use Rattle.autocoder_statements.specs.declared.label.Label.{Label}
use Rattle.autocoder_statements.specs.declared.statement.Line.{Line}
use Rattle.autocoder_symbols.specs.Symbols.{beyond_end, same_label, declared_by, declared_if, first_from, up_to_end, Sites}
use Rattle.autocoder_symbols.specs.declared.symbols.Declaration.{Declaration}

-- from equal at each symbol to equal as a whole
pub same_sites : (one other : Sites) → ((label : Label) → one label ≡ other label) → one ≡ other
same_sites one other same = λ i label. same label i

-- labels that a test finds to be the same are
pub same_labels : (one other : Label) → same_label one other ≡ true → one ≡ other
same_labels one other same = ap label_of (same_text one.text other.text (sym same))
  where
    label_of : List ℕ → Label
    label_of text = record { text = text }

-- the test is the same in both directions
turned_true : (one other : Label) → same_label one other ≡ true → same_label other one ≡ true
turned_true one other is =
    let same : one ≡ other = same_labels one other is in
    ap (λ label. same_label other label) same ∙ sym (ap (λ label. same_label label other) same) ∙ is

turned : (one other : Label) (b : Bool) → same_label one other ≡ b → same_label other one ≡ b
turned one other true is = turned_true one other is
turned one other false is = by (same_label other one) refl (turned_true other one)
  where
    by : (b : Bool) → same_label other one ≡ b → (same_label other one ≡ true → same_label one other ≡ true)
        → same_label other one ≡ false
    by true e back = e ∙ sym (back e) ∙ is
    by false e back = e

or_none : {A : Type 0} (found : Option A) → option_or found None ≡ found
or_none None = refl
or_none (Some x) = refl

-- a symbol that wasn't there is, and the others are as they were
pub noted : {S : Type 0} (old new : IndexMap Label Declaration S) (symbol : Label) (declaration : Declaration)
    → get same_label old symbol ≡ None
    → ((label : Label) → get same_label new label ≡ cond (same_label symbol label) (Some declaration)
    (get same_label old label))
    → (label : Label) → get same_label new label
    ≡ option_or (get same_label old label) (declared_if (same_label label symbol) declaration)
noted {S} old new symbol declaration none updates label = by (same_label symbol label) refl
  where
    by : (b : Bool) → same_label symbol label ≡ b → get same_label new label
        ≡ option_or (get same_label old label) (declared_if (same_label label symbol) declaration)
    by true is =
        updates label ∙ ap (λ b. cond b (Some declaration) (get same_label old label)) is
        ∙ sym (ap (λ found. option_or found (declared_if (same_label label symbol) declaration))
        (ap (get same_label old) (sym (same_labels symbol label is)) ∙ none)
        ∙ ap (λ b. declared_if b declaration) (turned symbol label true is))
    by false is =
        updates label ∙ ap (λ b. cond b (Some declaration) (get same_label old label)) is
        ∙ sym (ap (λ b. option_or (get same_label old label) (declared_if b declaration)) (turned symbol label false is)
        ∙ or_none (get same_label old label))

or_later : {A : Type 0} (one two three : Option A)
    → option_or (option_or one two) three ≡ option_or one (option_or two three)
or_later None two three = refl
or_later (Some x) two three = refl

-- what the map has, or else what lines declare, once the first of these is noted
pub line_noted : {S : Type 0} (old new : IndexMap Label Declaration S) (number : ℕ) (line : Line) (lines : List Line)
    (label : Label) → get same_label new label ≡ option_or (get same_label old label) (declared_by number line label)
    → option_or (get same_label new label) (first_from (number + 1) lines label)
    ≡ option_or (get same_label old label) (first_from number (line ∷ lines) label)
line_noted {S} old new number line lines label e =
    ap (λ found. option_or found (first_from (number + 1) lines label)) e
    ∙ or_later (get same_label old label) (declared_by number line label) (first_from (number + 1) lines label)

-- a line, and those after it
pub line_of_rest : (lines : List Line) (i : ℕ) (line : Line) → i < length lines → line ≡ get_or lines i line
    → line ∷ drop (i + 1) lines ≡ drop i lines
line_of_rest lines i line within is =
    sym (drop_more lines i line within ∙ ap (λ (each : Line). each ∷ drop (i + 1) lines) (sym is))

-- lines go on after one that isn't END
pub goes_on : (line : Line) (rest : List Line) → is_end line ≡ false
    → line ∷ up_to_end rest ≡ up_to_end (line ∷ rest)
goes_on line rest e = ap (λ b. cond b (line ∷ []) (line ∷ up_to_end rest)) (sym e)

-- once no line is left, the map has what all declare
pub none_left : {S : Type 0} (sites : IndexMap Label Declaration S) (label : Label) (number : ℕ) (rest : List Line)
    (all : Option Declaration) → rest ≡ []
    → option_or (get same_label sites label) (first_from number rest label) ≡ all → get same_label sites label ≡ all
none_left {S} sites label number rest all none whole =
    sym (ap (λ (lines : List Line). option_or (get same_label sites label) (first_from number lines label)) none
    ∙ or_none (get same_label sites label))
    ∙ whole

-- what lines declare that are left, once END is passed or not
abbrev pub left_beyond : Bool → ℕ → List Line → Sites
left_beyond true number lines label = first_from number lines label
left_beyond false number lines label = beyond_end number lines label

-- a line is noted if it is after END, and those below it are left
pub beyond_noted : {S : Type 0} (old new : IndexMap Label Declaration S) (ended next : Bool) (number : ℕ) (line : Line)
    (rest lines : List Line) (label : Label)
    → get same_label new label
    ≡ cond ended (option_or (get same_label old label) (declared_by number line label)) (get same_label old label)
    → next ≡ (ended || is_end line) → lines ≡ line ∷ rest
    → option_or (get same_label new label) (left_beyond next (number + 1) rest label)
    ≡ option_or (get same_label old label) (left_beyond ended number lines label)
beyond_noted {S} old new true next number line rest lines label noted is at =
    rw (noted, is, at) (or_later (get same_label old label) (declared_by number line label)
    (first_from (number + 1) rest label))
beyond_noted {S} old new false next number line rest lines label noted is at =
    rw (noted, is, at) (by (is_end line))
  where
    by : (b : Bool) → option_or (get same_label old label) (left_beyond b (number + 1) rest label)
        ≡ option_or (get same_label old label)
        (cond b (first_from (number + 1) rest label) (beyond_end (number + 1) rest label))
    by true = refl
    by false = refl

none_beyond : (ended : Bool) (number : ℕ) (label : Label) → left_beyond ended number [] label ≡ None
none_beyond true number label = refl
none_beyond false number label = refl

-- once no line is left, the map has what those after END declare
pub none_left_beyond : {S : Type 0} (sites : IndexMap Label Declaration S) (label : Label) (ended : Bool) (number : ℕ)
    (rest : List Line) (all : Option Declaration) → rest ≡ []
    → option_or (get same_label sites label) (left_beyond ended number rest label) ≡ all
    → get same_label sites label ≡ all
none_left_beyond {S} sites label ended number rest all none whole =
    sym (ap (λ (lines : List Line). option_or (get same_label sites label) (left_beyond ended number lines label)) none
    ∙ ap (option_or (get same_label sites label)) (none_beyond ended number label)
    ∙ or_none (get same_label sites label))
    ∙ whole

end_or_on : (line : Line) (lines : List Line) (number : ℕ) (label : Label) (b : Bool)
    → option_or (first_from (number + 1) (up_to_end lines) label) (beyond_end (number + 1) lines label)
    ≡ first_from (number + 1) lines label
    → option_or (first_from number (cond b (line ∷ []) (line ∷ up_to_end lines)) label)
    (cond b (first_from (number + 1) lines label) (beyond_end (number + 1) lines label))
    ≡ first_from number (line ∷ lines) label
end_or_on line lines number label true same =
    ap (λ found. option_or found (first_from (number + 1) lines label)) (or_none (declared_by number line label))
end_or_on line lines number label false same =
    or_later (declared_by number line label) (first_from (number + 1) (up_to_end lines) label)
    (beyond_end (number + 1) lines label)
    ∙ ap (option_or (declared_by number line label)) same

-- what lines up to END declare, or else those after it, is what all of them declare
pub declared_anywhere : (number : ℕ) (lines : List Line) (label : Label)
    → option_or (first_from number (up_to_end lines) label) (beyond_end number lines label)
    ≡ first_from number lines label
declared_anywhere number [] label = refl
declared_anywhere number (line ∷ lines) label =
    end_or_on line lines number label (is_end line) (declared_anywhere (number + 1) lines label)

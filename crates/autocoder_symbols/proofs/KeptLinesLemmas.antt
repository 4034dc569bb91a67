-- What is held of lines.
use Rattle.std.proofs.Common.{ℕ, zero, suc, ◌+◌, ◌-◌, ◌≤◌, ◌<◌, ◌≢◌, ◌⊎◌, inl, inr, List, [], ◌∷◌, ◌++◌, length, map}
use Rattle.std.proofs.Common.{drop, get_or, length-take}
use Rattle.std.proofs.Common.{◌≡◌, refl, sym, ap, subst, ◌∙◌, arith, length-append}
use Rattle.std.proofs.lemmas.List.{drop-map, drop_more, get_or_append_left, get_or_push, get_or-map}
use Rattle.std.proofs.lemmas.List.{length-map, map-append, take_all, take-append-le, get_or-take}
use Rattle.autocoder_statements.specs.declared.statement.Line.{Line}
use Rattle.autocoder_symbols.specs.KeptLines.{comment, line_kept, AreKept, AreHeld}

-- one more that says something moves no line
said_more : (said : List Line) (line : Line) (place : ℕ) → place ≤ length said
    → line_kept (said ++ line ∷ []) place ≡ line_kept said place
said_more said line zero within = refl
said_more said line (suc n) within = get_or_append_left said (line ∷ []) comment n (omega (arith, within))

all_said_more : (said : List Line) (line : Line) (places : List ℕ) → AreKept said places
    → map (line_kept (said ++ line ∷ [])) places ≡ map (line_kept said) places
all_said_more said line [] kept = refl
all_said_more said line (place ∷ places) kept =
    ap (λ (each : Line). each ∷ map (line_kept (said ++ line ∷ [])) places) (said_more said line place kept.0)
    ∙ ap (λ (rest : List Line). line_kept said place ∷ rest) (all_said_more said line places kept.1)

-- the last is at the last place
last_said : (said : List Line) (line : Line) (place : ℕ) → place ≡ length said + 1
    → line_kept (said ++ line ∷ []) place ≡ line
last_said said line zero is = absurd (omega (arith, is))
last_said said line (suc n) is = get_or_push said line comment n (omega (arith, is))

-- a line that says something, after those before it
pub one_said : (said : List Line) (line : Line) (places : List ℕ) (place : ℕ) → AreKept said places
    → place ≡ length said + 1
    → map (line_kept (said ++ line ∷ [])) (places ++ place ∷ []) ≡ map (line_kept said) places ++ line ∷ []
one_said said line places place kept is =
    map-append (line_kept (said ++ line ∷ [])) places (place ∷ [])
    ∙ ap (λ (lines : List Line). lines ++ line_kept (said ++ line ∷ []) place ∷ []) (all_said_more said line places kept)
    ∙ ap (λ (each : Line). map (line_kept said) places ++ each ∷ []) (last_said said line place is)

-- the places that were are still those of lines
pub still_kept : (said : List Line) (line : Line) (places : List ℕ) → AreKept said places
    → AreKept (said ++ line ∷ []) places
still_kept said line [] kept = tt
still_kept said line (place ∷ places) kept =
    (omega (arith, length-append said (line ∷ []), kept.0), still_kept said line places kept.1)

-- whatever became of the list of places
pub kept_in : (said new : List Line) (line : Line) (places : List ℕ) → new ≡ said ++ line ∷ [] → AreKept said places
    → AreKept new places
kept_in said new line places is kept =
    subst (λ (all : List Line). AreKept all places) (sym is) (still_kept said line places kept)

-- and with one place more
pub more_kept : (said : List Line) (places : List ℕ) (place : ℕ) → AreKept said places → place ≤ length said
    → AreKept said (places ++ place ∷ [])
more_kept said [] place kept within = (within, tt)
more_kept said (first ∷ places) place kept within = (kept.0, more_kept said places place kept.1 within)

-- the place after the last is one once a line is said
pub last_within : (said : List Line) (line : Line) (place : ℕ) → place ≡ length said + 1
    → place ≤ length (said ++ line ∷ [])
last_within said line place is = omega (arith, length-append said (line ∷ []), is)

-- one more line is held, or none
pub held_more : (held new said : List Line) (line : Line) → AreHeld held said
    → (new ≡ held) ⊎ ((length held ≡ length said) × (new ≡ held ++ line ∷ [])) → AreHeld new (said ++ line ∷ [])
held_more held new said line are (inl same) =
    subst (λ (all : List Line). AreHeld all (said ++ line ∷ [])) (sym same)
    (are
    ∙ sym (take-append-le (length held) said (line ∷ []) (omega (arith, ap length are, length-take (length held) said))))
held_more held new said line are (inr more) =
    let all : held ≡ said = are ∙ take_all (length held) said (omega (arith, more.0)) in
    let both : new ≡ said ++ line ∷ [] = more.1 ∙ ap (λ (lines : List Line). lines ++ line ∷ []) all in
    both ∙ sym (take_all (length new) (said ++ line ∷ []) (omega (arith, ap length both)))

-- a line that is held is the one that is read again
pub line_held : (held said : List Line) (i : ℕ) (d : Line) → AreHeld held said → i < length held
    → get_or held i d ≡ get_or said i d
line_held held said i d are within =
    ap (λ (lines : List Line). get_or lines i d) are ∙ get_or-take (length held) said i d within

-- once a line is read that says something, and its place is the last, all are kept and held
pub all_kept : (said new : List Line) (line : Line) (places more : List ℕ) (place : ℕ) → new ≡ said ++ line ∷ []
    → more ≡ places ++ place ∷ [] → place ≡ length said + 1 → AreKept said places → AreKept new more
all_kept said new line places more place is last at kept =
    subst (λ (all : List ℕ). AreKept new all) (sym last)
    (subst (λ (all : List Line). AreKept all (places ++ place ∷ [])) (sym is)
    (more_kept (said ++ line ∷ []) places place (still_kept said line places kept) (last_within said line place at)))

pub all_held : (held more said new : List Line) (line : Line) → new ≡ said ++ line ∷ [] → AreHeld held said
    → (more ≡ held) ⊎ ((length held ≡ length said) × (more ≡ held ++ line ∷ [])) → AreHeld more new
all_held held more said new line is are how =
    subst (λ (all : List Line). AreHeld more all) (sym is) (held_more held more said line are how)

-- and the lines are those that were, and this one
pub all_lines : (said new : List Line) (line : Line) (places more : List ℕ) (place : ℕ) → new ≡ said ++ line ∷ []
    → more ≡ places ++ place ∷ [] → place ≡ length said + 1 → AreKept said places
    → map (line_kept new) more ≡ map (line_kept said) places ++ line ∷ []
all_lines said new line places more place is last at kept =
    ap (λ (all : List Line). map (line_kept all) more) is ∙ ap (map (line_kept (said ++ line ∷ []))) last
    ∙ one_said said line places place kept at

-- so no more are held than are read again
pub no_more_held : (held said : List Line) → AreHeld held said → length held ≤ length said
no_more_held held said are = omega (arith, ap length are, length-take (length held) said)

-- where the line of a place is that isn't a comment's
pub line_of_place : (said : List Line) (place : ℕ) → place ≢ 0 → line_kept said place ≡ get_or said (place - 1) comment
line_of_place said zero some = absurd (some refl)
line_of_place said (suc n) some = ap (λ (k : ℕ). get_or said k comment) (omega arith)

-- the line with an index, and those after it
pub one_line : (said : List Line) (places : List ℕ) (i : ℕ) → i < length (map (line_kept said) places)
    → drop i (map (line_kept said) places)
    ≡ line_kept said (get_or places i 0) ∷ drop (i + 1) (map (line_kept said) places)
one_line said places i within =
    drop-map (line_kept said) i places
    ∙ ap (map (line_kept said)) (drop_more places i 0 (omega (arith, within, length-map places (line_kept said))))
    ∙ ap (λ (rest : List Line). line_kept said (get_or places i 0) ∷ rest) (sym (drop-map (line_kept said) (i + 1) places))

pub line_with_index : (said : List Line) (places : List ℕ) (i : ℕ) (d : Line)
    → i < length (map (line_kept said) places)
    → line_kept said (get_or places i 0) ≡ get_or (map (line_kept said) places) i d
line_with_index said places i d within =
    sym (get_or-map (line_kept said) places i 0 d (omega (arith, within, length-map places (line_kept said))))

pub rest_of : (said : List Line) (places : List ℕ) (i : ℕ)
    → map (line_kept said) (drop i places) ≡ drop i (map (line_kept said) places)
rest_of said places i = sym (drop-map (line_kept said) i places)

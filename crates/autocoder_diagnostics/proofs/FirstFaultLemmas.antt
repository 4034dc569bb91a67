-- One line more without fault; a source without END.
use Rattle.std.proofs.Common.{◌≡◌, ℕ, ◌+◌, ◌<◌, ◌≤◌, Bool, false, List, [], ◌∷◌, ◌++◌, length, take, slice_get, get_or}
use Rattle.std.proofs.Common.{below_more, Option, None, refl, sym, ap, subst, ◌∙◌, arith}
use Rattle.std.specs.Prelude.{fold}
use Rattle.std.specs.List.{list_any}
use Rattle.std.proofs.lemmas.Option.{slice_get_past}
use Rattle.std.proofs.lemmas.List.{get_or_default, take_more, take_all}
use Rattle.std.proofs.lemmas.List.Folds.{list_any_more}
use Rattle.autocoder_statements.specs.Statement.{is_end}
use Rattle.autocoder_statements.specs.declared.statement.Line.{Line}
use Rattle.autocoder_symbols.specs.Known.{Declared}
use Rattle.autocoder_symbols.specs.declared.fault.AsmKind.TheVariants as kinds
use Rattle.autocoder_diagnostics.specs.FirstFault.{areas_beyond, place_beyond, place_at, has_fault, IsClean, AreClean}
use Rattle.autocoder_diagnostics.specs.FirstFault.{IsFaultAt}
use Rattle.autocoder_diagnostics.specs.FirstFault.{IsFirstFault}
use Rattle.autocoder_diagnostics.specs.declared.first_fault.LineContext.{LineContext}

fold-push : (areas : Option ℕ) (lines : List Line) (line : Line) → fold areas_beyond areas (lines ++ line ∷ [])
    ≡ areas_beyond (fold areas_beyond areas lines) line
fold-push areas [] line = refl
fold-push areas (first ∷ lines) line = fold-push (areas_beyond areas first) lines line

next_place : (lines : List Line) (i : ℕ) (d : Line) → i < length lines
    → place_beyond (place_at lines i) (get_or lines i d) ≡ place_at lines (i + 1)
next_place lines i d h =
    let ended = list_any_more is_end lines i d h in
    let areas : fold areas_beyond None (take (i + 1) lines)
    ≡ areas_beyond (fold areas_beyond None (take i lines)) (get_or lines i d) =
    ap (fold areas_beyond None) (take_more lines i d h) ∙ fold-push None (take i lines) (get_or lines i d) in
    let of : Bool → Option ℕ → LineContext =
    λ is_ended after. record { number = i + 1 + 1; is_ended = is_ended; areas = after } in
    λ j. of (sym ended j) (sym areas j)

-- the place after a line is that of the next
pub next_place_is : (lines : List Line) (i : ℕ) (d : Line) (at after : LineContext) → i < length lines
    → at ≡ place_at lines i
    → after ≡ place_beyond at (get_or lines i d)
    → after ≡ place_at lines (i + 1)
next_place_is lines i d at after h here e =
    e ∙ ap (λ (p : LineContext). place_beyond p (get_or lines i d)) here ∙ next_place lines i d h

-- one line more without fault
pub next_clean : (declared : Declared) (lines : List Line) (i : ℕ) (d : Line) (at : LineContext)
    → AreClean declared lines i
    → i < length lines → at ≡ place_at lines i
    → IsClean declared at (get_or lines i d) → AreClean declared lines (i + 1)
next_clean declared lines i d at before h here clean =
    below_more (λ k. (e : Line) → IsClean declared (place_at lines k) (get_or lines k e)) i before
    (λ e kind. sym (λ j. has_fault declared (here j) (get_or_default lines i d e h j) kind) ∙ clean kind)

-- a source without fault in a line and without END
pub no_end : (declared : Declared) (lines : List Line) (i : ℕ) (at : LineContext) → AreClean declared lines i
    → length lines ≤ i → i ≤ length lines → at ≡ place_at lines i
    → at.is_ended ≡ false → IsFirstFault declared lines (record { line = at.number; kind = kinds.NoEnd })
no_end declared lines i at clean low high here unended =
    let past : slice_get lines (length lines) ≡ None = slice_get_past lines (length lines) (omega arith) in
    let whole : take i lines ≡ lines = take_all i lines low in
    let none : list_any is_end lines ≡ false =
    sym (ap (list_any is_end) whole) ∙ sym (ap (λ (p : LineContext). p.is_ended) here) ∙ unended in
    record {
      index = length lines;
      numbered = omega (arith, ap (λ (p : LineContext). p.number) here);
      earlier = λ k h. clean k (omega (arith, h, high));
      here = subst (λ r. IsFaultAt declared lines (length lines) r kinds.NoEnd) (sym past) (refl, refl, none);
    }

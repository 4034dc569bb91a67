-- The line that is found by rows is the last that shows the characters there.
use Rattle.std.proofs.Common.{◌≡◌, ℕ, zero, suc, ◌+◌, ◌<◌, Bool, true, false, cond, List, [], ◌∷◌, ◌++◌, length, take, drop}
use Rattle.std.proofs.Common.{get_or, ℤ, Option, None, Some, IfSome, refl, sym, ap, ◌∙◌, arith, ◌⊎◌, inl, inr}
use Rattle.std.specs.Prelude.{fold, nat_le}
use Rattle.bcd_1401.specs.declared.cell.Cell.{Cell}
use Rattle.autocoder_statements.specs.declared.statement.Line.{Line}
use Rattle.autocoder_statements.specs.declared.statement.Statement.{Statement}
use Rattle.autocoder_symbols.specs.Chains.{chains_of}
use Rattle.autocoder_symbols.specs.Symbols.{sites_of}
use Rattle.autocoder_placing.specs.Placement.{Placement, nothing_placed, placed, placed_after}
use Rattle.autocoder_placing.proofs.UnplacedLemmas.{unplaced_is}
use Rattle.autocoder_listing.specs.Listing.{address_shown, cells_at, characters_text}
use Rattle.autocoder_listing.specs.Rows.{row_with, row_of, listed, rows_from, rows_of, last_at, line_of, shown_at}
use Rattle.autocoder_listing.specs.Rows.{shows}
use Rattle.autocoder_listing.specs.Rows.{IsLastAt}
use Rattle.autocoder_listing.specs.declared.rows.Row.{Row}

-- a row more
with_step : (number : ℕ) (address : Option ℤ) (text : List ℕ) (at : ℕ) (characters : List ℕ) (found : Option ℕ)
    (rows : List Row) → last_at at characters found (listed (row_with number address text) ++ rows)
    ≡ last_at at characters (cond (shown_at at characters address text) (Some number) found) rows
with_step number None text at characters found rows = refl
with_step number (Some address) text at characters found rows = refl

row_step : (all this : Placement) (number : ℕ) (statement : Option Statement) (beyond : List Line) (at : ℕ)
    (characters : List ℕ) (found : Option ℕ) (rows : List Row)
    → last_at at characters found (listed (row_of all this number statement beyond) ++ rows)
    ≡ last_at at characters (cond (shows at characters all this statement beyond) (Some number) found) rows
row_step all this number None beyond at characters found rows = refl
row_step all this number (Some statement) beyond at characters found rows =
    with_step number (address_shown all this statement.body) (characters_text (cells_at all this statement.body beyond))
    at characters found rows

-- whether a line shows the characters, with these placed above the first of the lines
abbrev shows_from : Placement → Placement → ℕ → List ℕ → List Line → ℕ → Line → Bool
shows_from all this at characters lines k line =
    shows at characters all (fold placed_after this (take k lines)) line.statement (drop (suc k) lines)

-- the last of lines that shows them, with these numbers
record LastFrom (all this : Placement) (number at : ℕ) (characters : List ℕ) (lines : List Line) (told : ℕ)
    : Type 0 where
  index : ℕ
  numbered : told ≡ index + number
  there : index < length lines
  here : (d : Line) → shows_from all this at characters lines index (get_or lines index d) ≡ true
  later : (k : ℕ) → index < k → k < length lines → (d : Line)
      → shows_from all this at characters lines k (get_or lines k d) ≡ false

abbrev NoneFrom : Placement → Placement → ℕ → List ℕ → List Line → Type 0
NoneFrom all this at characters lines =
    (k : ℕ) → k < length lines → (d : Line) → shows_from all this at characters lines k (get_or lines k d) ≡ false

abbrev Outcome : Placement → Placement → ℕ → ℕ → List ℕ → List Line → Option ℕ → ℕ → Type 0
Outcome all this number at characters lines found told =
    ((found ≡ Some told) × NoneFrom all this at characters lines)
    ⊎ LastFrom all this number at characters lines told

last_from : (all this : Placement) (number at : ℕ) (characters : List ℕ) (lines : List Line) (found : Option ℕ)
    (told : ℕ) → last_at at characters found (rows_from all this number lines) ≡ Some told
    → Outcome all this number at characters lines found told
last_from all this number at characters [] found told e = inl (e, λ k low d. absurd (omega (arith, low)))
last_from all this number at characters (line ∷ lines) found told e =
    by (shows at characters all this line.statement lines) refl
    (last_from all (placed_after this line) (number + 1) at characters lines
    (cond (shows at characters all this line.statement lines) (Some number) found) told
    (sym (row_step all this number line.statement lines at characters found
    (rows_from all (placed_after this line) (number + 1) lines)) ∙ e))
  where
    none_more : shows at characters all this line.statement lines ≡ false
        → NoneFrom all (placed_after this line) at characters lines → NoneFrom all this at characters (line ∷ lines)
    none_more is none zero low d = is
    none_more is none (suc k) low d = none k (omega (arith, low)) d

    none_later : NoneFrom all (placed_after this line) at characters lines → (k : ℕ) → 0 < k → k < length (line ∷ lines)
        → (d : Line) → shows_from all this at characters (line ∷ lines) k (get_or (line ∷ lines) k d) ≡ false
    none_later none zero some low d = absurd (omega (arith, some))
    none_later none (suc k) some low d = none k (omega (arith, low)) d

    all_later : (f : LastFrom all (placed_after this line) (number + 1) at characters lines told) → (k : ℕ)
        → suc f.index < k → k < length (line ∷ lines) → (d : Line)
        → shows_from all this at characters (line ∷ lines) k (get_or (line ∷ lines) k d) ≡ false
    all_later f zero past low d = absurd (omega (arith, past))
    all_later f (suc k) past low d = f.later k (omega (arith, past)) (omega (arith, low)) d

    number_is : Some number ≡ Some told → told ≡ 0 + number
    number_is e = let same : number ≡ told = cc in omega (arith, same)

    one_more : LastFrom all (placed_after this line) (number + 1) at characters lines told
        → LastFrom all this number at characters (line ∷ lines) told
    one_more f = record {
      index = suc f.index;
      numbered = omega (arith, f.numbered);
      there = omega (arith, f.there);
      here = f.here;
      later = all_later f;
    }

    by : (b : Bool) → shows at characters all this line.statement lines ≡ b
        → Outcome all (placed_after this line) (number + 1) at characters lines (cond b (Some number) found) told
        → Outcome all this number at characters (line ∷ lines) found told
    by true is outcome =
        elim outcome [
          | inl none ↦ inr (record {
            index = 0;
            numbered = number_is none.0;
            there = omega arith;
            here = λ d. is;
            later = none_later none.1;
          })
          | inr last ↦ inr (one_more last)
        ]
    by false is outcome =
        elim outcome [
          | inl none ↦ inl (none.0, none_more is none.1)
          | inr last ↦ inr (one_more last)
        ]

-- what is found in the rows of lines is the last of them that shows the characters there
found_in : (lines : List Line) (at : ℕ) (characters : List ℕ) (told : ℕ)
    → last_at at characters None (rows_of lines) ≡ Some told → IsLastAt lines at characters told
found_in lines at characters told e =
    let first = nothing_placed (chains_of (sites_of lines) lines) in
    let found : last_at at characters None (rows_from (placed lines) first 1 lines) ≡ Some told =
    ap (λ (this : Placement). last_at at characters None (rows_from (placed lines) this 1 lines)) (sym (unplaced_is lines))
    ∙ e in
    elim (last_from (placed lines) first 1 at characters lines None told found) [
      | inl none ↦ absurd cc
      | inr last ↦ record {
        index = last.index;
        numbered = last.numbered;
        there = last.there;
        here = last.here;
        later = last.later;
      }
    ]

pub last_line : (lines : List Line) (rows : List Row) (at : ℕ) (cells : List Cell) (found : Option ℕ)
    → rows ≡ rows_of lines → found ≡ line_of rows at cells → IfSome found (IsLastAt lines at (characters_text cells))
last_line lines rows at cells None same is = tt
last_line lines rows at cells (Some told) same is = by (nat_le (length cells) 8) refl
  where
    whole : Some told ≡ line_of (rows_of lines) at cells
    whole = is ∙ ap (λ (all : List Row). line_of all at cells) same

    by : (b : Bool) → nat_le (length cells) 8 ≡ b → IsLastAt lines at (characters_text cells) told
    by true few =
        found_in lines at (characters_text cells) told
        (sym (whole ∙ ap (λ (b : Bool). cond b (last_at at (characters_text cells) None (rows_of lines)) None) few))
    by false many =
        absurd (nothing (whole ∙ ap (λ (b : Bool). cond b (last_at at (characters_text cells) None (rows_of lines)) None) many))
      where
        nothing : ◌≡◌ {A = Option ℕ} (Some told) None → ⊥
        nothing e = cc

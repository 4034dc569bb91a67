-- The first line of a source, and those after it; and lines that are read again.
use Rattle.std.proofs.Common.{◌≡◌, ℕ, ◌+◌, ◌-◌, ◌<◌, ◌≤◌, ◌≢◌, ◌⊎◌, inl, inr, List, [], ◌∷◌, ◌++◌, length, take, drop}
use Rattle.std.proofs.Common.{get_or, sym, ap, ◌∙◌, arith}
use Rattle.std.proofs.lemmas.Bool.{cases_lt}
use Rattle.std.proofs.lemmas.List.{drop_all, get_or-map, map-append}
use Rattle.std.specs.Prelude.{slice_index_or}
use Rattle.std.specs.List.{position_or_len}
use Rattle.autocoder_statements.specs.SourceLine.{is_line_feed, lines_of, without_return}
use Rattle.autocoder_statements.proofs.SourceLineLemmas.{last_line, first_line as first_ends}
use Rattle.autocoder_statements.specs.declared.context.Context.{Context}
use Rattle.autocoder_statements.specs.declared.language.Language.{Language}
use Rattle.autocoder_statements.specs.declared.statement.Line.{Line}
use Rattle.autocoder_statements.specs.declared.symbols.Registers.{Registers}
use Rattle.autocoder_symbols.specs.KeptLines.{comment, line_kept}
use Rattle.autocoder_symbols.specs.Unread.{first_line, context_of, line_below, read_again, all_again}
use Rattle.autocoder_symbols.specs.declared.unread.Unread.{Unread}
use Rattle.autocoder_symbols.proofs.KeptLinesLemmas.{line_of_place}

-- the first of lines is the first line
led : (source line : List ℕ) (rest : List (List ℕ)) → lines_of source ≡ line ∷ rest
    → lines_of source ≡ first_line source ∷ rest
led source line rest is =
    is ∙ ap (λ (each : List ℕ). each ∷ rest) (sym (ap (λ (lines : List (List ℕ)). slice_index_or lines 0 []) is))

-- it ends before the first line feed, or with the source
pub next_line : (source : List ℕ) (n : ℕ) → n ≡ position_or_len is_line_feed source → n ≤ length source
    → 0 < length source → lines_of source ≡ first_line source ∷ lines_of (drop (n + 1) source)
next_line source n is bound some = by (cases_lt n (length source))
  where
    by : (n < length source) ⊎ (length source ≤ n)
        → lines_of source ≡ first_line source ∷ lines_of (drop (n + 1) source)
    by (inl inside) =
        led source (without_return (take n source)) (lines_of (drop (n + 1) source)) (first_ends source n is inside)
    by (inr all) =
        led source source (lines_of (drop (n + 1) source))
        (last_line source some (omega (arith, is, bound, all))
        ∙ ap (λ (rest : List ℕ). source ∷ lines_of rest) (sym (drop_all (n + 1) source (omega (arith, all)))))

-- one more is read again as it was read first
pub again_more : (language : Language) (registers : Registers) (source : List ℕ) (unread new : List Unread) (one : Unread)
    (start : ℕ) (context : Context) (line : Line) → new ≡ unread ++ one ∷ [] → one.start ≡ start
    → context_of one ≡ context → line ≡ line_below language registers context (first_line (drop start source))
    → all_again language registers source new ≡ all_again language registers source unread ++ line ∷ []
again_more language registers source unread new one start context line more begins below is =
    ap (all_again language registers source) more
    ∙ map-append (read_again language registers source) unread (one ∷ [])
    ∙ ap (λ (each : Line). all_again language registers source unread ++ each ∷ [])
    (ap (λ (k : ℕ). line_below language registers (context_of one) (first_line (drop k source))) begins
    ∙ ap (λ (above : Context). line_below language registers above (first_line (drop start source))) below ∙ sym is)

-- a line that is read again is that of its place
pub again_at : (language : Language) (registers : Registers) (source : List ℕ) (unread : List Unread) (place : ℕ)
    (one d : Unread) → place ≢ 0 → place - 1 < length unread → one ≡ get_or unread (place - 1) d
    → read_again language registers source one ≡ line_kept (all_again language registers source unread) place
again_at language registers source unread place one d some within is =
    ap (read_again language registers source) is
    ∙ sym (get_or-map (read_again language registers source) unread (place - 1) d comment within)
    ∙ sym (line_of_place (all_again language registers source unread) place some)

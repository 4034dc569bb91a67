-- Lines that are passed, and columns of a line.
use Rattle.std.proofs.Common.{◌≡◌, ℕ, ◌+◌, ◌-◌, ◌≤◌, min, List, arith, [], ◌∷◌, length, drop, take, sym, ap, ◌∙◌}
use Rattle.std.specs.Char.{is_ascii_whitespace}
use Rattle.std.specs.List.{prefix_len}
use Rattle.std.specs.Str.{IsTrimAsciiStart}
use Rattle.std.proofs.lemmas.List.{drop-drop, drop_all, drop_min, take_min}
use Rattle.autocoder_statements.specs.SourceLine.{lines_of}
use Rattle.std.proofs.lemmas.Str.Ascii.{trim_ascii_start_is}

-- one line more is passed
pub line_passed : (lines rest : List (List ℕ)) (line : List ℕ) (i : ℕ) → drop i lines ≡ line ∷ rest
    → drop (i + 1) lines ≡ rest
line_passed lines rest line i is = sym (drop-drop 1 i lines) ∙ ap (λ (left : List (List ℕ)). drop 1 left) is

-- nothing follows where nothing is left
pub none_left : (source rest : List ℕ) (i n : ℕ) → rest ≡ [] → lines_of rest ≡ drop i (lines_of source) → i ≤ n
    → [] ≡ drop n (lines_of source)
none_left source rest i n none is le =
    let count : i + (n - i) ≡ n = omega arith in
    let left : drop i (lines_of source) ≡ [] = sym is ∙ ap lines_of none in
    sym
    (ap (λ (m : ℕ). drop m (lines_of source)) (sym count) ∙ sym (drop-drop (n - i) i (lines_of source))
    ∙ ap (λ (lines : List (List ℕ)). drop (n - i) lines) left
    ∙ drop_all (n - i) [] (omega arith))

-- a part of a line, which may end before it
pub part : (line : List ℕ) (n m : ℕ)
    → take (min m (length (drop (min n (length line)) line))) (drop (min n (length line)) line) ≡ take m (drop n line)
part line n m =
    take_min m (drop (min n (length line)) line)
    ∙ ap (λ (left : List ℕ). take m left) (drop_min n line)

-- what follows the blanks in front
pub trimmed_front : (whole left : List ℕ) → IsTrimAsciiStart whole left
    → left ≡ drop (prefix_len is_ascii_whitespace whole) whole
trimmed_front whole left h = trim_ascii_start_is whole left h

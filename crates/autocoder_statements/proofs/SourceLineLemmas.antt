-- The first line of a source, and the columns of a line.
use Rattle.std.proofs.Common.{◌≡◌, ℕ, ◌+◌, ◌<◌, ◌==◌, Bool, true, false, List, [], ◌∷◌, length, take, drop, refl, ap}
use Rattle.std.proofs.Common.{◌∙◌, sym, get_or, Option, Some, None, arith}
use Rattle.std.proofs.lemmas.Bool.{false_from_ne_true}
use Rattle.std.proofs.lemmas.List.{append-nil, take_all}
use Rattle.std.proofs.lemmas.List.Sums.{position_or_len_is}
use Rattle.std.proofs.lemmas.List.Splits.{slice_split_first, length-slice_split}
use Rattle.std.specs.List.{slice_split, onto_first, position_or_len, before_first, after_first}
use Rattle.std.specs.Option.{unwrap_or}
use Rattle.memchr.specs.Find.{IsFirstByte, is_byte}
use Rattle.autocoder_statements.specs.SourceLine.{columns_of, is_line_feed, lines_of, lines_between, without_return}

-- without a line feed there is one part
pub no_line_feed : (source : List ℕ) → position_or_len is_line_feed source ≡ length source
    → slice_split is_line_feed source ≡ source ∷ []
no_line_feed [] h = refl
no_line_feed (byte ∷ more) h = by (byte == 10) refl (λ fewer. no_line_feed more fewer)
  where
    by : (b : Bool) → (byte == 10) ≡ b
        → (position_or_len is_line_feed more ≡ length more → slice_split is_line_feed more ≡ more ∷ [])
        → slice_split is_line_feed (byte ∷ more) ≡ (byte ∷ more) ∷ []
    by true e rest =
        let none : position_or_len is_line_feed (byte ∷ more) ≡ 0 = rw e refl in absurd (omega (arith, none, h))
    by false e rest =
        let one : position_or_len is_line_feed (byte ∷ more) ≡ 1 + position_or_len is_line_feed more = rw e refl in
        rw e (ap (onto_first byte) (rest (omega (arith, one, h))))

-- a line that isn't the last part ended before a line feed
ended_line : (line : List ℕ) (parts : List (List ℕ)) → 0 < length parts → lines_between (line ∷ parts)
    ≡ without_return line ∷ lines_between parts
ended_line line [] h = absurd (omega (arith, h))
ended_line line (next ∷ parts) h = refl

-- what has no line feed is one line
pub last_line : (source : List ℕ) → 0 < length source → position_or_len is_line_feed source ≡ length source
    → lines_of source ≡ source ∷ []
last_line [] some h = absurd (omega (arith, some))
last_line (byte ∷ more) some h = ap lines_between (no_line_feed (byte ∷ more) h)

-- the first line ends before the first line feed
pub first_line : (source : List ℕ) (n : ℕ) → n ≡ position_or_len is_line_feed source → n < length source
    → lines_of source ≡ without_return (take n source) ∷ lines_of (drop (n + 1) source)
first_line source n e h =
    rw e
    (ap lines_between (slice_split_first is_line_feed source 0 (omega (arith, e, h)))
    ∙ ended_line (before_first is_line_feed source) (slice_split is_line_feed (after_first is_line_feed source))
    (omega (arith, length-slice_split is_line_feed (after_first is_line_feed source))))

-- what has 80 columns already is as it stands
pub columns_stay : (columns : List ℕ) → length columns ≡ 80 → columns_of columns ≡ columns
unfolding columns_of
columns_stay columns full = rw (take_all 80 columns (omega (arith, full)), full) (append-nil columns)

-- a search for the first byte of a value finds how many bytes come before it, or none
pub before_byte : (byte : ℕ) (text : List ℕ) (found : Option ℕ) → IsFirstByte (is_byte byte) text found
    → unwrap_or found (length text) ≡ position_or_len (λ (each : ℕ). each == byte) text
before_byte byte text None none =
    sym (position_or_len_is (λ (each : ℕ). each == byte) text (length text) 0 (omega arith)
    (λ k inside. false_from_ne_true (get_or text k 0 == byte) (none k (omega arith) inside))
    (λ inside. absurd (omega (arith, inside))))
before_byte byte text (Some place) first =
    sym (position_or_len_is (λ (each : ℕ). each == byte) text place 0 (omega (arith, first.0.high))
    (λ k inside. false_from_ne_true (get_or text k 0 == byte) (first.0.before k (omega arith) inside))
    (λ inside. first.1))

-- the same of the first line feed
pub before_line_feed : (source : List ℕ) (found : Option ℕ) → IsFirstByte (is_byte 10) source found
    → unwrap_or found (length source) ≡ position_or_len is_line_feed source
before_line_feed source found first = before_byte 10 source found first

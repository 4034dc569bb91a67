-- What the plain language takes says the same in the wider one.
use Rattle.std.proofs.Common.{◌≡◌, ℕ, ◌<◌, ◌==◌, Bool, true, false, cond, not, ◌&&◌, ◌||◌, nat_lt, List, [], ◌∷◌, ◌++◌}
use Rattle.std.proofs.Common.{length, map, take, drop, get_or, Option, Some, None, is_some, refl, sym, ap, ◌∙◌, arith}
use Rattle.std.proofs.lemmas.Bool.{and_parts, or_parts, eqb-true, not-false, true≢false}
use Rattle.std.proofs.lemmas.Bool.Decides.{nat_tests}
use Rattle.std.proofs.lemmas.List.{take-append-drop, drop-drop}
use Rattle.std.proofs.lemmas.List.Folds.{list_all_at}
use Rattle.std.proofs.lemmas.List.Quantifiers.{position-Some}
use Rattle.std.specs.Char.{to_ascii_uppercase}
use Rattle.std.specs.List.{list_all, position}
use Rattle.bcd_1401.specs.Graphic.{graphics}
use Rattle.autocoder_statements.specs.Language.{are_good, has_cut_constant, is_sound, is_sound_statement, wider_line}
use Rattle.autocoder_statements.specs.Language.{line_in}
use Rattle.autocoder_statements.specs.SourceLine.{columns_of, columns_in, is_comment, is_graphic, is_printable}
use Rattle.autocoder_statements.specs.SourceLine.{has_foreign_bytes}
use Rattle.autocoder_statements.specs.Statement.{bytes_with, line_of, line_with}
use Rattle.autocoder_statements.specs.WideColumns.{capitals}
use Rattle.autocoder_statements.specs.declared.language.Language.TheVariants as languages
use Rattle.autocoder_statements.specs.declared.statement.LineCheck.TheVariants as bytes

-- a byte that is no small letter
is_no_small_letter : ℕ → Bool
is_no_small_letter byte = not (nat_lt 96 byte && nat_lt byte 123)

no_graphic_is_small : list_all is_no_small_letter graphics ≡ true
unfolding graphics is_no_small_letter
no_graphic_is_small = refl

stays : (byte : ℕ) → is_no_small_letter byte ≡ true → to_ascii_uppercase byte ≡ byte
unfolding is_no_small_letter
stays byte h = grind (arith, nat_tests)

passes : (test : ℕ → Bool) (each : List ℕ) (i : ℕ) → list_all test each ≡ true → i < length each
    → test (get_or each i 0) ≡ true
passes test each i all inside = by (test (get_or each i 0)) refl
  where
    by : (b : Bool) → test (get_or each i 0) ≡ b → b ≡ true
    by true e = refl
    by false e = absurd (true≢false (sym all ∙ list_all_at test each i 0 inside e))

-- a graphic has no capital but itself
graphic_stays : (byte : ℕ) → is_graphic byte ≡ true → to_ascii_uppercase byte ≡ byte
graphic_stays byte h = by (position (λ each. each == byte) graphics) refl h
  where
    by : (found : Option ℕ) → position (λ each. each == byte) graphics ≡ found → is_some found ≡ true
        → to_ascii_uppercase byte ≡ byte
    by None e some = absurd (true≢false (sym some))
    by (Some i) e some =
        let at = position-Some (λ each. each == byte) graphics i 0 e in
        let same : get_or graphics i 0 ≡ byte = eqb-true (get_or graphics i 0) byte at.1 in
        let passed : is_no_small_letter (get_or graphics i 0) ≡ true
        = passes is_no_small_letter graphics i no_graphic_is_small at.0 in
        stays byte (rw same at passed)

graphics_stay : (each : List ℕ) → list_all is_graphic each ≡ true → map to_ascii_uppercase each ≡ each
graphics_stay [] all = refl
graphics_stay (byte ∷ more) all =
    let parts = and_parts (is_graphic byte) (list_all is_graphic more) all in
    rw (graphic_stays byte parts.0, graphics_stay more parts.1) refl

-- the columns in front, those from 6 to 72, and those after
joined : (columns : List ℕ) → take 5 columns ++ (columns_in 6 72 columns ++ drop 72 columns) ≡ columns
joined columns =
    ap (λ (beyond : List ℕ). take 5 columns ++ (take 67 (drop 5 columns) ++ beyond)) (sym (drop-drop 67 5 columns))
    ∙ ap (λ (rest : List ℕ). take 5 columns ++ rest) (take-append-drop 67 (drop 5 columns)) ∙ take-append-drop 5 columns

-- columns of which none is foreign have their capitals already
capitals_stay : (columns : List ℕ) → has_foreign_bytes columns ≡ false → capitals columns ≡ columns
capitals_stay columns none = by (is_comment columns) refl
  where
    by : (b : Bool) → is_comment columns ≡ b → capitals columns ≡ columns
    by true e = rw e refl
    by false e =
        let outside = or_parts
        (not (list_all is_printable (columns_in 1 5 columns)) || not (list_all is_graphic (columns_in 6 72 columns)))
        (not (list_all is_printable (columns_in 73 80 columns))) (rw e at none) in
        let inside = or_parts (not (list_all is_printable (columns_in 1 5 columns)))
        (not (list_all is_graphic (columns_in 6 72 columns))) outside.0 in
        let all = not-false (list_all is_graphic (columns_in 6 72 columns)) inside.1 in
        rw (e, graphics_stay (columns_in 6 72 columns) all) (joined columns)

of_good : (long foreign : Bool) → are_good (cond long bytes.Long (cond foreign bytes.Foreign bytes.Good)) ≡ true
    → foreign ≡ false
of_good true foreign good = absurd (true≢false (sym good))
of_good false true good = absurd (true≢false (sym good))
of_good false false good = refl

-- a line with foreign bytes isn't sound
none_foreign : (len : ℕ) (columns : List ℕ) → is_sound (line_with len columns) ≡ true
    → has_foreign_bytes columns ≡ false
none_foreign len columns sound =
    of_good (nat_lt 80 len) (has_foreign_bytes columns)
    (and_parts (are_good (bytes_with len columns)) (is_sound_statement (line_with len columns).statement) sound).0

still_sound : (len : ℕ) (columns : List ℕ) → is_sound (line_with len columns) ≡ true
    → has_cut_constant columns ≡ false → wider_line len columns ≡ line_with len columns
unfolding wider_line
still_sound len columns sound uncut = rw (sound, uncut) refl

-- the law of the two languages
pub sound_lines_agree : (line : List ℕ) → is_sound (line_of line) ≡ true → has_cut_constant (columns_of line) ≡ false
    → line_in languages.Ibm line ≡ line_of line
sound_lines_agree line sound uncut =
    rw (capitals_stay (columns_of line) (none_foreign (length line) (columns_of line) sound))
    (still_sound (length line) (columns_of line) sound uncut)

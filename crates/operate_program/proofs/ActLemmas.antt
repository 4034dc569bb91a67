-- Pieces of forty, and the characters of texts.
use Rattle.std.proofs.Common.{◌≡◌, ℕ, ◌+◌, ◌<◌, min, List, [], ◌∷◌, ◌++◌, length, map, take, drop, get_or, reverse, arith}
use Rattle.std.proofs.Common.{Option, Some, None, append_assoc, refl, sym, ap, ◌∙◌}
use Rattle.std.specs.Option.{option_map}
use Rattle.std.specs.List.{range_with_len}
use Rattle.std.proofs.lemmas.List.FromFn.{map-range_with_len_more}
use Rattle.std.proofs.lemmas.List.{drop_more, length-reverse, take_min}
use Rattle.machine_notation.specs.Characters.{char_of}
use Rattle.bcd_1401.specs.declared.cell.Cell.{Cell}
use Rattle.fields_1401.specs.declared.sign.Sign.{Sign}
use Rattle.operate_views.specs.Value.{lettered, with_number, zone_under}
use Rattle.operate_views.proofs.ValueLemmas.{length-filled, length-lettered}
use Rattle.operate_program.specs.Act.{chars_after, chars_in, piece}

-- a piece more
pub piece_more : (low : ℕ) (cells : List Cell) (n : ℕ)
    → map (piece low cells) (range_with_len 0 (n + 1)) ≡ map (piece low cells) (range_with_len 0 n) ++ piece low cells n ∷ []
piece_more low cells n = map-range_with_len_more (piece low cells) 0 n n (omega arith)

-- of a piece there are forty cells, or as many as are left
pub forty : (cells : List Cell) (n : ℕ)
    → take (min 40 (length (drop n cells))) (drop n cells) ≡ take 40 (drop n cells)
forty cells n = take_min 40 (drop n cells)

-- the characters of what is left of a text, by its first byte
chars_left : (text : List ℕ) (i : ℕ) → i < length text
    → chars_in (drop i text) ≡ chars_after (char_of (get_or text i 0)) (chars_in (drop (i + 1) text))
chars_left text i lt = ap chars_in (drop_more text i 0 lt)

with_front : List ℕ → Option (List ℕ) → Option (List ℕ)
with_front chars left = option_map (λ (more : List ℕ). chars ++ more) left

-- a byte that is no graphic
pub chars_missed : (text chars : List ℕ) (i : ℕ) → i < length text → char_of (get_or text i 0) ≡ None
    → option_map (λ (more : List ℕ). chars ++ more) (chars_in (drop i text)) ≡ chars_in text → None ≡ chars_in text
unfolding with_front
chars_missed text chars i lt none all =
    let rest = chars_in (drop (i + 1) text) in
    sym (ap (λ (o : Option ℕ). with_front chars (chars_after o rest)) none)
    ∙ sym (ap (with_front chars) (chars_left text i lt)) ∙ all

pushed : (chars : List ℕ) (char : ℕ) (left : Option (List ℕ))
    → option_map (λ (more : List ℕ). (chars ++ char ∷ []) ++ more) left
    ≡ option_map (λ (more : List ℕ). chars ++ more) (option_map (λ (more : List ℕ). char ∷ more) left)
pushed chars char None = refl
pushed chars char (Some left) = ap (λ (all : List ℕ). Some all) (append_assoc chars (char ∷ []) left)

-- a character more
pub chars_more : (text chars : List ℕ) (i char : ℕ) → i < length text → char_of (get_or text i 0) ≡ Some char
    → option_map (λ (more : List ℕ). (chars ++ char ∷ []) ++ more) (chars_in (drop (i + 1) text))
    ≡ option_map (λ (more : List ℕ). chars ++ more) (chars_in (drop i text))
unfolding with_front
chars_more text chars i char lt some =
    let rest = chars_in (drop (i + 1) text) in
    pushed chars char rest
    ∙ sym (ap (λ (o : Option ℕ). with_front chars (chars_after o rest)) some)
    ∙ sym (ap (with_front chars) (chars_left text i lt))

-- as many cells as the field has places
pub number_places : (sign : Option Sign) (digits : List ℕ) (cells : List Cell)
    → length (reverse (with_number sign digits cells)) ≡ length cells
number_places sign digits cells =
    length-reverse (with_number sign digits cells) ∙ length-filled (zone_under sign) (reverse digits) cells

pub text_places : (chars : List ℕ) (cells : List Cell) → length (lettered chars (reverse cells)) ≡ length cells
text_places chars cells = length-lettered chars (reverse cells) ∙ length-reverse cells

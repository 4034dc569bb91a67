-- A whole text, written and read.
use Rattle.std.proofs.Common.{◌≡◌, ℕ, ◌+◌, ◌^◌, ◌<◌, ◌≤◌, ◌==◌, ◌&&◌, Bool, true, false, cond, List, [], ◌∷◌, ◌++◌}
use Rattle.std.proofs.Common.{length, slice_index, Option, Some, None, Result, Ok, Err, refl, sym, ap, subst, ◌∙◌}
use Rattle.std.proofs.Common.{arith}
use Rattle.std.specs.Prelude.{codes, not, nat_le, nat_lt, position, if◌then◌else◌}
use Rattle.std.specs.List.{list_all, flat_map, join_with_byte, All}
use Rattle.std.proofs.lemmas.Bool.{and_from, and_parts, le-leb, leb-true, ltb-true, false≢true}
use Rattle.std.proofs.lemmas.Bool.Decides.{nat_tests}
use Rattle.std.proofs.lemmas.List.{append-nil, append_assoc}
use Rattle.std.proofs.lemmas.List.Folds.{list_all-append}
use Rattle.std.proofs.lemmas.List.Sums.{AllPass-from_list_all}
use Rattle.std.proofs.lemmas.List.Splits.{slice_split_at, join_with_byte-slice_split}
use Rattle.bcd_1401.specs.declared.cell.Cell.{Cell}
use Rattle.bcd_1401.specs.Graphic.{graphics}
use Rattle.core_1401.specs.Storage.{is_core_size}
use Rattle.machine_image.specs.declared.fault.ImageFault.{ImageFault}
use Rattle.machine_image.specs.declared.fault.ImageFault.TheVariants.{BadRecord, Range}
use Rattle.machine_image.specs.declared.image.Image.{Image}
use Rattle.machine_image.specs.declared.image.Segment.{Segment}
use Rattle.machine_image.specs.declared.version.Version.{Version}
use Rattle.machine_image.specs.declared.version.Version.TheVariants.{One, Two}
use Rattle.machine_image.specs.Image.{is_inside}
use Rattle.machine_notation.specs.Cells.{cell_text, cells_text}
use Rattle.bcd_1401.specs.Digits.{is_digit}
use Rattle.machine_notation.specs.Digits.{digits_in}
use Rattle.machine_notation.proofs.NumberLemmas.{below_eight}
use Rattle.machine_image.specs.ImageText.{header_text, segment_text, end_text, line_of}
use Rattle.machine_image.specs.ImageText.{segments_text, image_text, is_character, is_segment, HasText, HasTexts}
use Rattle.machine_image.specs.ImageText.{IsTextOf}
use Rattle.machine_image.specs.Reading.{segment_in, end_in, header_in, parts_of, is_done, Contents}
use Rattle.machine_image.specs.Reading.{with_segments, entry_alone, entry_by, contents_by, contents_in, image_of}
use Rattle.machine_image.specs.Reading.{image_by}
use Rattle.machine_image.specs.Reading.{image_in}
use Rattle.machine_image.specs.Version.{name_of, address_digits, most_places, has_size}
use Rattle.machine_image.proofs.ContentsLemmas.{contents_in-line, image_in-line}
use Rattle.machine_image.proofs.NumberLemmas.{digits-digits_in}
use Rattle.machine_image.proofs.RecordLemmas.{size_bound, few_digits, header_takes, header_again, segment_takes}
use Rattle.machine_image.proofs.RecordLemmas.{segment_again}
use Rattle.machine_image.proofs.RecordLemmas.{end_takes, end_again, end_is_no_segment}
use Rattle.machine_image.proofs.SpellingLemmas.{no_character}

-- ---- no line feed is in a line

-- whether a byte goes on a line
abbrev goes_on : ℕ → Bool
goes_on byte = not (byte == 10)

-- a line without a line feed in it
abbrev IsLine : List ℕ → Type 0
IsLine line = list_all goes_on line ≡ true

digit_goes_on : (byte : ℕ) → is_digit byte ≡ true → goes_on byte ≡ true
digit_goes_on byte h = grind (arith, nat_tests)

digits_go_on : (digits : List ℕ) → list_all is_digit digits ≡ true → IsLine digits
digits_go_on [] h = refl
digits_go_on (digit ∷ digits) h =
    and_from _ _ (digit_goes_on digit (and_parts _ _ h).0) (digits_go_on digits (and_parts (is_digit digit) _ h).1)

number_goes_on : (digits number : ℕ) → number < 2 ^ 64 → IsLine (digits_in digits number)
number_goes_on digits number fits = digits_go_on (digits_in digits number) (digits-digits_in digits number fits)

lines_go_on : (front back : List ℕ) → IsLine front → IsLine back → IsLine (front ++ back)
lines_go_on front back p q = list_all-append goes_on front back ∙ and_from _ _ p q

no_graphic : position (λ each. each == 10) graphics ≡ None
unfolding graphics
no_graphic = refl

graphic_goes_on : (cell : Cell) (is_feed : Bool) → (slice_index graphics cell.char == 10) ≡ is_feed → is_character cell
    ≡ true → not is_feed ≡ true
graphic_goes_on cell false e own = refl
graphic_goes_on cell true e own = absurd (no_character 10 no_graphic cell e own)

cell_goes_on : (mark : Bool) (cell : Cell) → cell.mark ≡ mark → is_character cell ≡ true → IsLine (cell_text cell)
cell_goes_on true cell e own =
    rw e (and_from _ _ (graphic_goes_on cell (slice_index graphics cell.char == 10) refl own) refl)
cell_goes_on false cell e own =
    rw e (and_from _ _ (graphic_goes_on cell (slice_index graphics cell.char == 10) refl own) refl)

cells_go_on : (cells : List Cell) → list_all is_character cells ≡ true → IsLine (cells_text cells)
unfolding cells_text
cells_go_on [] own = refl
cells_go_on (cell ∷ cells) own =
    lines_go_on (cell_text cell) (flat_map cell_text cells) (cell_goes_on cell.mark cell refl (and_parts _ _ own).0)
    (cells_go_on cells (and_parts (is_character cell) _ own).1)

name_goes_on : (version : Version) → IsLine (name_of version)
name_goes_on One = refl
name_goes_on Two = refl

-- a number of a version is far below the greatest
fits_of : (version : Version) (number : ℕ) → number < 10 ^ address_digits version → number < 2 ^ 64
fits_of version number small =
    let fits = below_eight number (address_digits version) small (few_digits version) in omega arith

header_goes_on : (version : Version) (size : ℕ) → size < 10 ^ address_digits version → IsLine (header_text version size)
unfolding header_text
header_goes_on version size small =
    lines_go_on (name_of version) _ (name_goes_on version)
    (number_goes_on (address_digits version) size (fits_of version size small))

end_goes_on : (version : Version) (start : ℕ) → start < 10 ^ address_digits version → IsLine (end_text version start)
unfolding end_text
end_goes_on version start small =
    lines_go_on (codes "END ") (digits_in (address_digits version) start) refl
    (number_goes_on (address_digits version) start (fits_of version start small))

segment_goes_on : (version : Version) (segment : Segment) → is_segment segment ≡ true
    → segment.address < 10 ^ address_digits version → IsLine (segment_text version segment)
unfolding segment_text
segment_goes_on version segment good small =
    let address = digits_in (address_digits version) segment.address in
    let count = digits_in 2 (length segment.cells) in
    let few = (and_parts _ (list_all is_character segment.cells) good).0 in
    let own = (and_parts (nat_le 1 (length segment.cells) && nat_le (length segment.cells) 40) _ good).1 in
    let most : length segment.cells ≤ 40 = leb-true _ _ (and_parts (nat_le 1 (length segment.cells)) _ few).1 in
    let a =
    lines_go_on address (codes " ")
    (number_goes_on (address_digits version) segment.address (fits_of version segment.address small)) refl in
    let b = lines_go_on (address ++ codes " ") count a (number_goes_on 2 (length segment.cells) (omega arith)) in
    let c = lines_go_on (address ++ codes " " ++ count) (codes " ") b refl in
    lines_go_on (address ++ codes " " ++ count
    ++ codes " ") (cells_text segment.cells) c (cells_go_on segment.cells own)

not_so : (b : Bool) → not b ≡ true → b ≡ false
not_so true h = absurd (false≢true h)
not_so false h = refl

all_go_on : (line : List ℕ) → IsLine line → All (λ byte. (byte == 10) ≡ false) line
all_go_on line h = let all = AllPass-from_list_all goes_on line h in λ k d inside. not_so _ (all k d inside)

-- a line in front of a text is its first part
parts_of-line : (line rest : List ℕ) → IsLine line → parts_of (line_of line ++ rest) ≡ line ∷ parts_of rest
parts_of-line line rest h =
    ap parts_of (append_assoc line (codes "\n") rest)
    ∙ slice_split_at (λ byte. byte == 10) line 10 rest (all_go_on line h) refl

-- ---- choices that were made

pub chosen : {A : Type 0} (b : Bool) (o : Result A ImageFault) (fault : ImageFault) (x : A) → cond b o (Err fault)
    ≡ Ok x → (b ≡ true) × (o ≡ Ok x)
chosen true o fault x h = (refl, h)
chosen false o fault x h = absurd cc

same_Ok : (x y : ℕ) → ◌≡◌ {A = Result ℕ ImageFault} (Ok x) (Ok y) → x ≡ y
same_Ok x y h = cc

same_Ok_contents : (x y : Contents) → ◌≡◌ {A = Result Contents ImageFault} (Ok x) (Ok y) → x ≡ y
same_Ok_contents x y h = cc

pub same_Ok_image : (x y : Image) → ◌≡◌ {A = Result Image ImageFault} (Ok x) (Ok y) → x ≡ y
same_Ok_image x y h = cc

-- ---- what is written is read

-- the versions differ in their sizes alone
pub has_texts : (version : Version) (image : Image) → HasText version image → HasTexts image
has_texts One image has =
    let made : is_core_size image.size ≡ true = (and_parts _ _ has.size).0 in
    let newest : HasText Two image =
    record { size = made; cells = has.cells; segments = has.segments; start = has.start } in
    record { newest = newest; oldest = λ small. has }
has_texts Two image has = record {
  newest = has;
  oldest = λ small. record {
    size = and_from _ _ has.size (le-leb image.size most_places small);
    cells = has.cells;
    segments = has.segments;
    start = has.start;
  };
}

-- segments and an entry that have a text
pub record IsGood (version : Version) (size : ℕ) (contents : Contents) : Type 0 where
  pub cells : list_all is_segment contents.0 ≡ true
  pub segments : list_all (is_inside size) contents.0 ≡ true
  pub start : nat_lt contents.1 size ≡ true

-- the text after the header
abbrev contents_text : Version → Contents → List ℕ
contents_text version contents = segments_text version contents.0 ++ line_of (end_text version contents.1)

address_bound : (version : Version) (size : ℕ) (segment : Segment) → has_size version size ≡ true → is_segment segment
    ≡ true → is_inside size segment ≡ true → segment.address < 10 ^ address_digits version
address_bound version size segment h good inside =
    let below = size_bound version size h in
    let end : segment.address + length segment.cells ≤ size = leb-true _ _ inside in
    let few = (and_parts _ (list_all is_character segment.cells) good).0 in
    let some : 1 ≤ length segment.cells = leb-true _ _ (and_parts _ (nat_le (length segment.cells) 40) few).0 in
    omega arith

end_again-parts : (version : Version) (size start : ℕ) → has_size version size ≡ true → nat_lt start size ≡ true
    → contents_in version size (parts_of (line_of (end_text version start))) ≡ Ok ([], start)
end_again-parts version size start h inside =
    let line = end_text version start in
    let below = size_bound version size h in
    let small : start < size = ltb-true _ _ inside in
    let parts : parts_of (line_of line) ≡ line ∷ parts_of [] = ap parts_of (sym (append-nil (line_of line)))
    ∙ parts_of-line line [] (end_goes_on version start (omega arith)) in
    rw (parts, contents_in-line, end_is_no_segment version start, end_again version start (omega arith), inside)

contents_again : (version : Version) (size : ℕ) (segments : List Segment) (start : ℕ) → has_size version size ≡ true
    → list_all is_segment segments ≡ true → list_all (is_inside size) segments ≡ true → nat_lt start size ≡ true
    → contents_in version size (parts_of (contents_text version (segments, start))) ≡ Ok (segments, start)
unfolding segments_text
contents_again version size [] start h good inside entry = end_again-parts version size start h entry
contents_again version size (segment ∷ segments) start h good inside entry =
    let line = segment_text version segment in
    let one = (and_parts _ _ good).0 in
    let lies = (and_parts _ _ inside).0 in
    let small = address_bound version size segment h one lies in
    let beyond : List ℕ = contents_text version (segments, start) in
    let whole : contents_text version (segment ∷ segments, start) ≡ line_of line
    ++ beyond =
    append_assoc (line_of line) (flat_map (λ each. line_of (segment_text version each)) segments)
    (line_of (end_text version start)) in
    let parts : parts_of (contents_text version (segment ∷ segments, start)) ≡ line
    ∷ parts_of beyond = ap parts_of whole ∙ parts_of-line line beyond (segment_goes_on version segment one small) in
    let more =
    contents_again version size segments start h (and_parts (is_segment segment) _ good).1
    (and_parts (is_inside size segment) _ inside).1 entry in
    let first = contents_in-line version size line beyond in
    let found = segment_again version segment one small in
    ap (contents_in version size) parts ∙ first ∙ rw (found, lies, more)

-- an image's text is read as the image
pub image_again : (version : Version) (image : Image) → HasText version image
    → image_in (parts_of (image_text version image)) ≡ Ok image
unfolding image_text
image_again version image has =
    let header = header_text version image.size in
    let beyond : List ℕ = contents_text version (image.segments, image.start) in
    let whole : image_text version image ≡ line_of header
    ++ beyond =
    append_assoc (line_of header) (segments_text version image.segments) (line_of (end_text version image.start)) in
    let parts : parts_of (image_text version image) ≡ header ∷ parts_of beyond = ap parts_of whole
    ∙ parts_of-line header beyond (header_goes_on version image.size (size_bound version image.size has.size)) in
    let contents =
    contents_again version image.size image.segments image.start has.size has.cells has.segments has.start in
    ap image_in parts ∙ image_in-line header beyond ∙ rw (header_again version image.size has.size, contents)

-- ---- what is read is written so

-- the contents of a text by its parts
pub record AreContents (version : Version) (size : ℕ) (parts : List (List ℕ)) (contents : Contents) : Type 0 where
  pub good : IsGood version size contents
  pub text_is : join_with_byte 10 parts ≡ contents_text version contents

-- an entry that is read
record IsEntry (version : Version) (size : ℕ) (line next : List ℕ) (parts : List (List ℕ)) (start : ℕ) : Type 0 where
  line_is : line ≡ end_text version start
  inside : nat_lt start size ≡ true
  done : is_done (next ∷ parts) ≡ true

entry_found : (size : ℕ) (named : Option ℕ) (parts : List (List ℕ)) (start : ℕ) → entry_by size named parts ≡ Ok start
    → (named ≡ Some start) × (nat_lt start size ≡ true) × (is_done parts ≡ true)
entry_found size None parts start h = absurd cc
entry_found size (Some number) parts start h =
    let outer = chosen (nat_lt number size) (if is_done parts then Ok number else Err BadRecord) Range start h in
    let inner = chosen (is_done parts) (Ok number) BadRecord start outer.1 in
    let same : number ≡ start = same_Ok number start inner.1 in
    (ap Some same, subst (λ n. nat_lt n size ≡ true) same outer.0, inner.0)

entry_takes : (version : Version) (size : ℕ) (line next : List ℕ) (parts : List (List ℕ)) (start : ℕ)
    → entry_by size (end_in version line) (next ∷ parts) ≡ Ok start → IsEntry version size line next parts start
entry_takes version size line next parts start h =
    let found = entry_found size (end_in version line) (next ∷ parts) start h in
    record { line_is = end_takes version line start found.0; inside = found.1; done = found.2 }

-- nothing after a line
join_done : (line next : List ℕ) (parts : List (List ℕ)) → is_done (next ∷ parts) ≡ true
    → join_with_byte 10 (line ∷ next ∷ parts) ≡ line_of line
join_done line [] [] h = refl
join_done line [] (part ∷ parts) h = absurd (false≢true h)
join_done line (byte ∷ bytes) parts h = absurd (false≢true h)

alone : (entry : Result ℕ ImageFault) (contents : Contents) → entry_alone entry ≡ Ok contents → (entry ≡ Ok contents.1)
    × (contents.0 ≡ [])
alone (Ok start) contents h =
    let same : ([], start) ≡ contents = same_Ok_contents ([], start) contents h in
    (ap (λ (c : Contents). Ok c.1) same, sym (ap (λ (c : Contents). c.0) same))
alone (Err fault) contents h = absurd cc

-- segments after a first one
beyond_first : (segment : Segment) (more : Result Contents ImageFault) (contents : Contents)
    → with_segments (segment ∷ []) more ≡ Ok contents
    → (rest : Contents) × (more ≡ Ok rest) × (contents ≡ (segment ∷ rest.0, rest.1))
beyond_first segment (Ok rest) contents h = (rest, refl, sym (same_Ok_contents (segment ∷ rest.0, rest.1) contents h))
beyond_first segment (Err fault) contents h = absurd cc

-- by the segment that a line is
by_segment : (version : Version) (size : ℕ) (line next : List ℕ) (parts : List (List ℕ)) (segment : Option Segment)
    (more : Result Contents ImageFault) (contents : Contents)
    → segment_in version line ≡ segment
    → contents_by size segment more (entry_by size (end_in version line) (next ∷ parts)) ≡ Ok contents
    → ((rest : Contents) → more ≡ Ok rest → AreContents version size (next ∷ parts) rest)
    → AreContents version size (line ∷ next ∷ parts) contents
unfolding segments_text
by_segment version size line next parts None more contents e h others =
    let found = alone (entry_by size (end_in version line) (next ∷ parts)) contents h in
    let entry = entry_takes version size line next parts contents.1 found.0 in
    let only : contents
    ≡ ([], contents.1) = ap (λ (segments : List Segment). let c : Contents = (segments, contents.1) in c) found.1 in
    subst (AreContents version size (line ∷ next ∷ parts)) (sym only) (record {
      good = record { cells = refl; segments = refl; start = entry.inside };
      text_is = join_done line next parts entry.done ∙ ap line_of entry.line_is;
    })
by_segment version size line next parts (Some segment) more contents e h others =
    let lies = chosen (is_inside size segment) (with_segments (segment ∷ []) more) Range contents h in
    let front = beyond_first segment more contents lies.1 in
    let rest = others front.0 front.1 in
    let one = segment_takes version line segment e in
    let regrouped : line ++ (10 ∷ contents_text version front.0)
    ≡ contents_text version (segment ∷ front.0.0, front.0.1) =
    ap (λ (first : List ℕ). first ++ (10 ∷ contents_text version front.0)) one.line_is
    ∙ (sym (append_assoc (segment_text version segment) (codes "\n") (contents_text version front.0))
    ∙ sym (append_assoc (line_of (segment_text version segment))
    (flat_map (λ each. line_of (segment_text version each)) front.0.0) (line_of (end_text version front.0.1)))) in
    subst (AreContents version size (line ∷ next ∷ parts)) (sym front.2) (record {
      good =
          record {
            cells = and_from _ _ one.cells rest.good.cells;
            segments = and_from _ _ lies.0 rest.good.segments;
            start =
                rest.good.start;
          };
      text_is = ap (λ (beyond : List ℕ). line ++ (10 ∷ beyond)) rest.text_is ∙ regrouped;
    })

contents_takes : (version : Version) (size : ℕ) (parts : List (List ℕ)) (contents : Contents)
    → contents_in version size parts ≡ Ok contents → AreContents version size parts contents
unfolding contents_in
contents_takes version size [] contents h = absurd cc
contents_takes version size (part ∷ []) contents h = absurd cc
contents_takes version size (line ∷ next ∷ parts) contents h =
    by_segment version size line next parts (segment_in version line) (contents_in version size (next
    ∷ parts)) contents refl h (λ rest e. contents_takes version size (next ∷ parts) rest e)

read_size : (size : ℕ) (contents : Result Contents ImageFault) (image : Image) → image_of size contents ≡ Ok image
    → (contents ≡ Ok (image.segments, image.start)) × (size ≡ image.size)
read_size size (Ok contents) image h =
    let made : Image = record { size = size; segments = contents.0; start = contents.1 } in
    let same : made ≡ image = same_Ok_image made image h in (
      ap (λ (each : Image). let c : Contents = (each.segments, each.start) in Ok c) same,
      ap (λ (each : Image). each.size) same,
    )
read_size size (Err fault) image h = absurd cc

by_header : (line next : List ℕ) (parts : List (List ℕ)) (header : Option (Version × ℕ)) (image : Image)
    → header_in line ≡ header → image_by header (next ∷ parts) ≡ Ok image
    → IsTextOf (join_with_byte 10 (line ∷ next ∷ parts)) image
unfolding image_text
by_header line next parts None image e h = absurd cc
by_header line next parts (Some header) image e h =
    let found = read_size header.1 (contents_in header.0 header.1 (next ∷ parts)) image h in
    let first = header_takes line header.0 header.1 e in
    let beyond = contents_takes header.0 header.1 (next ∷ parts) (image.segments, image.start) found.0 in
    let good = beyond.good in
    record {
      version = header.0;
      has_text = record {
        size = ap (has_size header.0) (sym found.1) ∙ first.1;
        cells = good.cells;
        segments = subst (λ n. list_all (is_inside n) image.segments ≡ true) found.1 good.segments;
        start = subst (λ n. nat_lt image.start n ≡ true) found.1 good.start;
      };
      text_is = ap (λ (rest : List ℕ). line ++ (10 ∷ rest)) beyond.text_is
          ∙ (ap (λ (front : List ℕ). front ++ (10 ∷ contents_text header.0 (image.segments, image.start))) (first.0
          ∙ ap (header_text header.0) found.1)
          ∙ (sym (append_assoc (header_text header.0 image.size) (codes "\n")
          (contents_text header.0 (image.segments, image.start)))
          ∙ sym (append_assoc (line_of (header_text header.0 image.size)) (segments_text header.0 image.segments)
          (line_of (end_text header.0 image.start)))));
    }

image_parts : (parts : List (List ℕ)) (image : Image) → image_in parts ≡ Ok image
    → IsTextOf (join_with_byte 10 parts) image
unfolding image_in
image_parts [] image h = absurd cc
image_parts (part ∷ []) image h = absurd cc
image_parts (line ∷ next ∷ parts) image h = by_header line next parts (header_in line) image refl h

-- what is read as an image is the image's text
pub image_takes : (text : List ℕ) (image : Image) → image_in (parts_of text) ≡ Ok image → IsTextOf text image
image_takes text image h =
    subst (λ (each : List ℕ). IsTextOf each image) (join_with_byte-slice_split 10 text)
    (image_parts (parts_of text) image h)

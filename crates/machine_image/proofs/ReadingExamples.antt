-- The text of an image worked out by hand, and what is read from it and from texts that are no image's.
use Rattle.std.proofs.Common.{◌≡◌, ℕ, true, false, List, [], ◌∷◌, Ok, Err, Result, refl}
use Rattle.std.specs.Prelude.{codes}
use Rattle.std.specs.Fmt.{digits}
use Rattle.bcd_1401.specs.declared.cell.Cell.{Cell}
use Rattle.bcd_1401.specs.Graphic.{graphics}
use Rattle.machine_image.specs.declared.fault.ImageFault.{ImageFault}
use Rattle.machine_image.specs.declared.fault.ImageFault.TheVariants.{Header, BadRecord, Range, Truncated}
use Rattle.machine_image.specs.declared.image.Image.{Image}
use Rattle.machine_image.specs.declared.version.Version.TheVariants.{One, Two}
use Rattle.machine_notation.specs.Cells.{cells_of, cells_text, spelled}
use Rattle.machine_notation.specs.Digits.{number_in}
use Rattle.machine_image.specs.ImageText.{header_text, segment_text, segments_text, end_text}
use Rattle.machine_image.specs.ImageText.{image_text}
use Rattle.machine_image.specs.Reading.{number_at, header_with, header_in, segment_in}
use Rattle.machine_image.specs.Reading.{end_in, parts_of, contents_in, image_in}

-- a cell without a word mark, and one with it, by the character's code
plain : ℕ → Cell
plain code = record { char = code; mark = false }

marked : ℕ → Cell
marked code = record { char = code; mark = true }

-- ?423420 and A423420 with their word marks
zero_and_add : List Cell → List Cell
zero_and_add more =
    marked 58 ∷ plain 4 ∷ plain 2 ∷ plain 3 ∷ plain 4 ∷ plain 2 ∷ plain 10 ∷ marked 49 ∷ plain 4 ∷ plain 2 ∷ plain 3
    ∷ plain 4 ∷ plain 2
    ∷ plain 10 ∷ more

-- .414 with its word mark, three blanks, HI and E with theirs
halt_and_constants : List Cell
halt_and_constants =
    marked 59 ∷ plain 4 ∷ plain 1 ∷ plain 4 ∷ marked 0 ∷ plain 0 ∷ plain 0 ∷ marked 56 ∷ plain 57 ∷ marked 53 ∷ []

-- five is put into a field and added to it
five_and_five : Image
unfolding zero_and_add halt_and_constants plain marked
five_and_five =
    record {
      size = 4000;
      segments = record { address = 400; cells = zero_and_add halt_and_constants }
          ∷ [];
      start = 400;
    }

text_of_five_and_five : image_text One five_and_five
    ≡ codes "IMAGE1 4000\n0400 24 ~?423420~A423420~.414~   ~HI~E\nEND 0400\n"
unfolding five_and_five zero_and_add halt_and_constants plain marked graphics digits cells_text header_text
    segment_text segments_text end_text image_text
text_of_five_and_five = refl

in_version_2 : image_text Two five_and_five
    ≡ codes "IMAGE2 04000\n00400 24 ~?423420~A423420~.414~   ~HI~E\nEND 00400\n"
unfolding five_and_five zero_and_add halt_and_constants plain marked graphics digits cells_text header_text
    segment_text segments_text end_text image_text
in_version_2 = refl

-- what a text is read as
read : List ℕ → Result Image ImageFault
read text = image_in (parts_of text)

five_and_five_is_read : read (codes "IMAGE1 4000\n0400 24 ~?423420~A423420~.414~   ~HI~E\nEND 0400\n")
    ≡ Ok five_and_five
unfolding read five_and_five zero_and_add halt_and_constants plain marked graphics number_in number_at spelled
    cells_of header_with header_in segment_in end_in contents_in image_in
five_and_five_is_read = refl

both_versions_are_read_as_one_image : read
    (codes "IMAGE2 04000\n00400 24 ~?423420~A423420~.414~   ~HI~E\nEND 00400\n") ≡ Ok five_and_five
unfolding read five_and_five zero_and_add halt_and_constants plain marked graphics number_in number_at spelled
    cells_of header_with header_in segment_in end_in contents_in image_in
both_versions_are_read_as_one_image = refl

no_segments : Image
no_segments = record { size = 1400; segments = []; start = 1399 }

an_entry_alone_is_read : read (codes "IMAGE1 1400\nEND 1399\n") ≡ Ok no_segments
unfolding read no_segments number_in number_at spelled cells_of header_with header_in segment_in end_in contents_in
    image_in
an_entry_alone_is_read = refl

-- two segments in their order, the later one over the earlier one
twice : Image
unfolding plain marked
twice =
    record {
      size = 2000;
      segments = record { address = 1998; cells = marked 49 ∷ plain 50 ∷ [] }
          ∷ record { address = 1999; cells = plain 32 ∷ [] } ∷ [];
      start = 0;
    }

segments_keep_their_order : read (codes "IMAGE1 2000\n1998 02 ~AB\n1999 01 -\nEND 0000\n") ≡ Ok twice
unfolding read twice plain marked graphics number_in number_at spelled cells_of header_with header_in segment_in
    end_in contents_in image_in
segments_keep_their_order = refl

nothing_is_truncated : read [] ≡ Err Truncated
unfolding read image_in
nothing_is_truncated = refl

a_header_without_its_line_feed_is_truncated : read (codes "IMAGE1 9999") ≡ Err Truncated
unfolding read image_in
a_header_without_its_line_feed_is_truncated = refl

an_end_without_its_line_feed_is_truncated : read (codes "IMAGE1 4000\nEND 04") ≡ Err Truncated
unfolding read number_in number_at spelled cells_of header_with header_in segment_in end_in contents_in image_in
an_end_without_its_line_feed_is_truncated = refl

no_other_size_has_a_header : read (codes "IMAGE1 4001\n") ≡ Err Header
unfolding read number_in number_at spelled cells_of header_with header_in contents_in image_in
no_other_size_has_a_header = refl

no_version_1_is_larger_than_4_000 : read (codes "IMAGE1 8000\n") ≡ Err Header
unfolding read number_in number_at spelled cells_of header_with header_in contents_in image_in
no_version_1_is_larger_than_4_000 = refl

a_size_has_the_digits_of_its_version : read (codes "IMAGE2 4000\n") ≡ Err Header
unfolding read number_in number_at spelled cells_of header_with header_in contents_in image_in
a_size_has_the_digits_of_its_version = refl

no_other_version_has_a_header : read (codes "IMAGE3 4000\n") ≡ Err Header
unfolding read number_in number_at spelled cells_of header_with header_in contents_in image_in
no_other_version_has_a_header = refl

a_carriage_return_is_a_byte : read (codes "IMAGE1 4000\r\nEND 0000\n") ≡ Err Header
unfolding read number_in number_at spelled cells_of header_with header_in contents_in image_in
a_carriage_return_is_a_byte = refl

an_address_has_four_digits : read (codes "IMAGE1 4000\n400 01 A\nEND 0400\n") ≡ Err BadRecord
unfolding read graphics number_in number_at spelled cells_of header_with header_in segment_in end_in contents_in
    image_in
an_address_has_four_digits = refl

-- the header's version holds for all lines
a_line_of_version_1_in_version_2_is_bad : read (codes "IMAGE2 08000\n0400 01 A\nEND 00400\n") ≡ Err BadRecord
unfolding read graphics number_in number_at spelled cells_of header_with header_in segment_in end_in contents_in
    image_in
a_line_of_version_1_in_version_2_is_bad = refl

an_end_of_version_2_in_version_1_is_bad : read (codes "IMAGE1 4000\nEND 00400\n") ≡ Err BadRecord
unfolding read graphics number_in number_at spelled cells_of header_with header_in segment_in end_in contents_in
    image_in
an_end_of_version_2_in_version_1_is_bad = refl

a_count_is_that_of_the_cells : read (codes "IMAGE1 4000\n0400 02 ABC\nEND 0400\n") ≡ Err BadRecord
unfolding read graphics number_in number_at spelled cells_of header_with header_in segment_in end_in contents_in
    image_in
a_count_is_that_of_the_cells = refl

no_cells_are_no_segment : read (codes "IMAGE1 4000\n0400 00 \nEND 0400\n") ≡ Err BadRecord
unfolding read graphics number_in number_at spelled cells_of header_with header_in segment_in end_in contents_in
    image_in
no_cells_are_no_segment = refl

-- no segment at all comes before one out of core
a_bad_segment_out_of_core_is_bad : read (codes "IMAGE1 1400\n1400 01 a\nEND 0000\n") ≡ Err BadRecord
unfolding read graphics number_in number_at spelled cells_of header_with header_in segment_in end_in contents_in
    image_in
a_bad_segment_out_of_core_is_bad = refl

a_segment_past_the_size_is_out_of_range : read (codes "IMAGE1 1400\n1399 02 AB\nEND 0000\n") ≡ Err Range
unfolding read graphics number_in number_at spelled cells_of header_with header_in segment_in end_in contents_in
    image_in
a_segment_past_the_size_is_out_of_range = refl

a_segment_past_a_larger_size_is_out_of_range : read (codes "IMAGE2 08000\n07999 02 AB\nEND 00000\n") ≡ Err Range
unfolding read graphics number_in number_at spelled cells_of header_with header_in segment_in end_in contents_in
    image_in
a_segment_past_a_larger_size_is_out_of_range = refl

-- an entry out of core comes before what follows it
an_entry_past_the_size_is_out_of_range : read (codes "IMAGE1 1400\nEND 1400\nX") ≡ Err Range
unfolding read graphics number_in number_at spelled cells_of header_with header_in segment_in end_in contents_in
    image_in
an_entry_past_the_size_is_out_of_range = refl

nothing_stands_beyond_the_end : read (codes "IMAGE1 1400\nEND 0000\n\n") ≡ Err BadRecord
unfolding read graphics number_in number_at spelled cells_of header_with header_in segment_in end_in contents_in
    image_in
nothing_stands_beyond_the_end = refl

-- the first wrong line decides
a_later_line_is_not_looked_at : read (codes "IMAGE1 1400\n1400 01 A\nX\n") ≡ Err Range
unfolding read graphics number_in number_at spelled cells_of header_with header_in segment_in end_in contents_in
    image_in
a_later_line_is_not_looked_at = refl

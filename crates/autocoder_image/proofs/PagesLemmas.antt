-- The text of an image, line by line.
use Rattle.std.proofs.Common.{◌≡◌, ℕ, List, [], ◌∷◌, ◌++◌, refl, sym, ap, ◌∙◌}
use Rattle.std.specs.List.{flat_map}
use Rattle.std.proofs.lemmas.List.{append-nil, append_assoc}
use Rattle.machine_image.specs.ImageText.{header_text, segment_text, end_text, segments_text, line_of, written_text}
use Rattle.machine_image.specs.ImageText.{image_text}
use Rattle.machine_image.specs.declared.image.Image.{Image}
use Rattle.machine_image.specs.declared.image.Segment.{Segment}
use Rattle.machine_image.specs.declared.version.Version.TheVariants.{Two}

-- the line of a segment, and those of the segments after it
pub one_line : (left : List ℕ) (segments beyond : List Segment) (segment : Segment) → segments ≡ segment ∷ beyond
    → (left ++ line_of (segment_text Two segment)) ++ segments_text Two beyond ≡ left ++ segments_text Two segments
unfolding segments_text
one_line left segments beyond segment is =
    append_assoc left (line_of (segment_text Two segment))
    (flat_map (λ segment. line_of (segment_text Two segment)) beyond)
    ∙ ap (λ (all : List Segment). left ++ flat_map (λ segment. line_of (segment_text Two segment)) all) (sym is)

-- no segment is left
pub no_line : (left : List ℕ) (segments : List Segment) → segments ≡ [] → left ++ segments_text Two segments ≡ left
unfolding segments_text
no_line left segments none =
    ap (λ (all : List Segment). left ++ flat_map (λ segment. line_of (segment_text Two segment)) all) none
    ∙ append-nil left

-- a text in three parts, the first of them put
pub before_two : (left one two three : List ℕ) → (left ++ one) ++ (two ++ three) ≡ left ++ ((one ++ two) ++ three)
before_two left one two three =
    append_assoc left one (two ++ three) ∙ ap (λ (text : List ℕ). left ++ text) (sym (append_assoc one two three))

-- the first line, those of the segments, and the last line are the text
pub whole_text : (image : Image) (left : List ℕ) (size start : ℕ) (segments : List Segment) → left ≡ []
    → size ≡ image.size → segments ≡ image.segments → start ≡ image.start
    → left ++ ((line_of (header_text Two size) ++ segments_text Two segments) ++ line_of (end_text Two start))
    ≡ written_text image
unfolding image_text
whole_text image left size start segments none p q r = rw (none, p, q, r) refl

-- The entry of a text by its first line, and the image that is lent.
use Rattle.std.proofs.Common.{◌≡◌, ℕ, true, false, List, [], ◌∷◌, Some, None, Result, Ok, Err, refl, sym, ap, ◌∙◌}
use Rattle.machine_image.specs.declared.fault.ImageFault.{ImageFault}
use Rattle.machine_image.specs.declared.fault.ImageFault.TheVariants.{Range, Truncated}
use Rattle.machine_image.specs.declared.image.Segment.{Segment}
use Rattle.machine_image.specs.declared.version.Version.{Version}
use Rattle.machine_image.specs.Image.{is_inside}
use Rattle.machine_image.specs.Lent.{contents_or_none, entry_read}
use Rattle.machine_image.specs.Reading.{segment_in, end_in, parts_of, Contents, with_segments, entry_alone, entry_by}
use Rattle.machine_image.specs.Reading.{contents_in, image_of}
use Rattle.machine_image.proofs.ContentsLemmas.{contents_in-line}

-- segments in front have no part in it
read-with_segments : (front : List Segment) (more : Result Contents ImageFault)
    → entry_read (with_segments front more) ≡ entry_read more
read-with_segments front (Ok contents) = refl
read-with_segments front (Err fault) = refl

read-alone : (entry : Result ℕ ImageFault) → entry_read (entry_alone entry) ≡ entry
read-alone (Ok start) = refl
read-alone (Err fault) = refl

-- after a segment
pub read_at_segment : (version : Version) (size : ℕ) (segment : Segment) (line beyond : List ℕ)
    (parts : List (List ℕ)) → parts ≡ line ∷ parts_of beyond → segment_in version line ≡ Some segment
    → is_inside size segment ≡ true
    → entry_read (contents_in version size parts) ≡ entry_read (contents_in version size (parts_of beyond))
read_at_segment version size segment line beyond parts e found inside =
    rw (e, contents_in-line, found, inside)
    (read-with_segments (segment ∷ []) (contents_in version size (parts_of beyond)))

-- a segment doesn't lie in core storage
pub read_at_outside : (version : Version) (size : ℕ) (segment : Segment) (line beyond : List ℕ)
    (parts : List (List ℕ)) → parts ≡ line ∷ parts_of beyond → segment_in version line ≡ Some segment
    → is_inside size segment ≡ false → entry_read (contents_in version size parts) ≡ Err Range
read_at_outside version size segment line beyond parts e found outside =
    rw (e, contents_in-line, found, outside) refl

-- the last line
pub read_at_last : (version : Version) (size : ℕ) (line beyond : List ℕ) (parts : List (List ℕ))
    → parts ≡ line ∷ parts_of beyond → segment_in version line ≡ None
    → entry_read (contents_in version size parts) ≡ entry_by size (end_in version line) (parts_of beyond)
read_at_last version size line beyond parts e none =
    rw (e, contents_in-line, none) (read-alone (entry_by size (end_in version line) (parts_of beyond)))

-- no line feed follows
pub read_at_rest : (version : Version) (size : ℕ) (rest : List ℕ) (parts : List (List ℕ)) → parts ≡ rest ∷ []
    → entry_read (contents_in version size parts) ≡ Err Truncated
unfolding contents_in
read_at_rest version size rest parts e = rw e refl

-- what is lent is the whole, and it has the entry
pub lent_contents : (contents : Result Contents ImageFault) (start : ℕ) → Ok start ≡ entry_read contents
    → contents ≡ Ok ((contents_or_none contents).0, start)
lent_contents (Ok (segments, entry)) start e = ap (λ (n : ℕ). Ok (segments, n)) (cc)
lent_contents (Err fault) start e = absurd cc

pub lent_image : (size : ℕ) (contents : Result Contents ImageFault) (start : ℕ) → Ok start ≡ entry_read contents
    → image_of size contents
    ≡ Ok (record { size = size; segments = (contents_or_none contents).0; start = start })
lent_image size (Ok contents) start e = cc
lent_image size (Err fault) start e = absurd cc

-- or its fault is answered
pub lent_fault : (size : ℕ) (contents : Result Contents ImageFault) (fault : ImageFault)
    → Err fault ≡ entry_read contents → image_of size contents ≡ Err fault
lent_fault size (Ok contents) fault e = absurd cc
lent_fault size (Err why) fault e = cc

-- a text without a line feed has no segment
pub left_at_rest : (version : Version) (size : ℕ) (rest : List ℕ) (parts : List (List ℕ)) → parts ≡ rest ∷ []
    → (contents_or_none (contents_in version size parts)).0 ≡ []
unfolding contents_in
left_at_rest version size rest parts e = rw e refl

alone : (entry : Result ℕ ImageFault) → (contents_or_none (entry_alone entry)).0 ≡ []
alone (Ok start) = refl
alone (Err fault) = refl

-- nor has the last line
pub left_at_last : (version : Version) (size : ℕ) (line beyond : List ℕ) (parts : List (List ℕ))
    → parts ≡ line ∷ parts_of beyond → segment_in version line ≡ None
    → (contents_or_none (contents_in version size parts)).0 ≡ []
left_at_last version size line beyond parts e none =
    rw (e, contents_in-line, none) (alone (entry_by size (end_in version line) (parts_of beyond)))

-- nor what isn't in core storage
pub left_at_outside : (version : Version) (size : ℕ) (segment : Segment) (line beyond : List ℕ)
    (parts : List (List ℕ)) → parts ≡ line ∷ parts_of beyond → segment_in version line ≡ Some segment
    → is_inside size segment ≡ false → (contents_or_none (contents_in version size parts)).0 ≡ []
left_at_outside version size segment line beyond parts e found outside =
    rw (e, contents_in-line, found, outside) refl

-- what is left of good contents after their first segment
pub record IsLeft (segment : Segment) (start : ℕ) (all more : Result Contents ImageFault) : Type 0 where
  pub first : (contents_or_none all).0 ≡ segment ∷ (contents_or_none more).0
  pub good : more ≡ Ok ((contents_or_none more).0, start)

left_by : (segment : Segment) (start : ℕ) (all more : Result Contents ImageFault)
    → all ≡ with_segments (segment ∷ []) more → all ≡ Ok ((contents_or_none all).0, start)
    → IsLeft segment start all more
left_by segment start (Ok (those, last)) (Ok (segments, entry)) e good =
    let pair : (those, last) ≡ (segment ∷ segments, entry) = cc in
    let kept : (those, last) ≡ (those, start) = cc in
    record {
      first = ap (λ (p : Contents). p.0) pair;
      good = ap (λ (n : ℕ). Ok (segments, n)) (sym (ap (λ (p : Contents). p.1) pair) ∙ ap (λ (p : Contents). p.1) kept);
    }
left_by segment start (Err fault) (Ok more) e good = absurd cc
left_by segment start (Ok all) (Err fault) e good = absurd cc
left_by segment start (Err why) (Err fault) e good = absurd cc

pub left_at_segment : (version : Version) (size start : ℕ) (segment : Segment) (line beyond : List ℕ)
    (parts : List (List ℕ)) → parts ≡ line ∷ parts_of beyond → segment_in version line ≡ Some segment
    → is_inside size segment ≡ true
    → contents_in version size parts ≡ Ok ((contents_or_none (contents_in version size parts)).0, start)
    → IsLeft segment start (contents_in version size parts) (contents_in version size (parts_of beyond))
left_at_segment version size start segment line beyond parts e found inside good =
    left_by segment start (contents_in version size parts) (contents_in version size (parts_of beyond))
    (rw (e, contents_in-line, found, inside) refl) good

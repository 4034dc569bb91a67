-- The contents of a text by its first line, after segments that are read already.
use Rattle.std.proofs.Common.{◌≡◌, ℕ, if◌then◌else◌, Bool, true, false, List, ◌∷◌, Result, Ok}
use Rattle.std.proofs.Common.{Err, refl}
use Rattle.std.specs.Result.{is_err}
use Rattle.machine_image.specs.declared.fault.ImageFault.{ImageFault}
use Rattle.machine_image.specs.declared.fault.ImageFault.TheVariants.{Range}
use Rattle.machine_image.specs.declared.image.Segment.{Segment}
use Rattle.machine_image.specs.declared.version.Version.{Version}
use Rattle.machine_image.specs.Reading.{segment_in, end_in, parts_of, entry_by}
use Rattle.machine_image.specs.Reading.{contents_by, contents_in, header_in, image_by, image_in}
use Rattle.machine_image.proofs.LineLemmas.{parts_of-some}

contents_in-more : (version : Version) (size : ℕ) (line first : List ℕ) (more parts : List (List ℕ)) → parts ≡ first
    ∷ more
    → contents_in version size (line ∷ parts)
    ≡ contents_by size (segment_in version line) (contents_in version size parts)
    (entry_by size (end_in version line) parts)
unfolding contents_in
contents_in-more version size line first more parts e = rw e refl

-- by the first line, if a line feed ends it
pub contents_in-line : (version : Version) (size : ℕ) (line beyond : List ℕ)
    → contents_in version size (line ∷ parts_of beyond)
    ≡ contents_by size (segment_in version line) (contents_in version size (parts_of beyond))
    (entry_by size (end_in version line) (parts_of beyond))
contents_in-line version size line beyond =
    let some = parts_of-some beyond in contents_in-more version size line some.0 some.1 (parts_of beyond) some.2

-- whether a segment lies in core storage, from what is answered for it
pub inside_from : (inside : Bool) (segment found : Segment)
    → ◌≡◌ {A = Result Segment ImageFault} (Ok found) (if inside then Ok segment else Err Range) → (inside ≡ true)
    × (found ≡ segment)
inside_from true segment found e = (refl, cc)
inside_from false segment found e = absurd cc

pub outside_from : (inside : Bool) (segment : Segment) (fault : ImageFault)
    → ◌≡◌ {A = Result Segment ImageFault} (Err fault) (if inside then Ok segment else Err Range) → (inside ≡ false)
    × (fault ≡ Range)
outside_from true segment fault e = absurd cc
outside_from false segment fault e = (refl, cc)

-- whether a segment lies in core storage, by what is answered for it
pub inside_by : (inside : Bool) (segment : Segment) (answer : Result Segment ImageFault)
    → answer ≡ (if inside then Ok segment else Err Range) → is_err answer ≡ false → inside ≡ true
inside_by true segment answer e good = refl
inside_by false segment answer e good = absurd cc

pub outside_by : (inside : Bool) (segment : Segment) (answer : Result Segment ImageFault)
    → answer ≡ (if inside then Ok segment else Err Range) → is_err answer ≡ true → inside ≡ false
outside_by true segment answer e bad = absurd cc
outside_by false segment answer e bad = refl

image_in-more : (line first : List ℕ) (more parts : List (List ℕ)) → parts ≡ first ∷ more → image_in (line ∷ parts)
    ≡ image_by (header_in line) parts
unfolding image_in
image_in-more line first more parts e = rw e refl

-- by the header, if a line feed ends it
pub image_in-line : (line beyond : List ℕ) → image_in (line ∷ parts_of beyond)
    ≡ image_by (header_in line) (parts_of beyond)
image_in-line line beyond = let some = parts_of-some beyond in image_in-more line some.0 some.1 (parts_of beyond) some.2

-- A text that isn't read has the fault that is answered.
use Rattle.std.proofs.Common.{◌≡◌, ℕ, ◌<◌, Bool, true, false, cond, List, [], ◌∷◌, Option, Some, None, Result, Ok, Err}
use Rattle.std.proofs.Common.{refl, sym, ap, subst, ◌∙◌}
use Rattle.std.specs.Prelude.{nat_lt, if◌then◌else◌, IsOk}
use Rattle.std.specs.Result.{IfOk, IfErr}
use Rattle.std.proofs.lemmas.Bool.{ltb-true, ltb-false, false≢true}
use Rattle.machine_image.specs.declared.fault.ImageFault.{ImageFault}
use Rattle.machine_image.specs.declared.fault.ImageFault.TheVariants.{Memory, Header, BadRecord, Range, Truncated}
use Rattle.machine_image.specs.declared.image.Image.{Image}
use Rattle.machine_image.specs.declared.image.Segment.{Segment}
use Rattle.machine_image.specs.declared.version.Version.{Version}
use Rattle.machine_image.specs.Image.{is_inside}
use Rattle.machine_image.specs.ImageText.{HasTexts, IsTextOf, IsOrMemory}
use Rattle.machine_image.specs.Reading.{segment_in, end_in, header_in, parts_of, is_done, Contents, with_segments}
use Rattle.machine_image.specs.Reading.{entry_alone, entry_by, contents_by, contents_in, image_of, image_by, image_in}
use Rattle.machine_image.specs.Reading.{Gives}
use Rattle.machine_image.specs.Refusal.{IsNoRecord, HasFault, unfinished, no_record, segment_outside, entry_outside}
use Rattle.machine_image.specs.Refusal.{beyond_the_end, further_on, HasTextFault, no_header_yet, no_header}
use Rattle.machine_image.specs.Refusal.{beyond_the_header, IsRefused}
use Rattle.machine_image.proofs.LineLemmas.{parts_of-some}
use Rattle.machine_image.proofs.RecordLemmas.{header_takes, header_again, segment_takes, segment_again, end_takes}
use Rattle.machine_image.proofs.RecordLemmas.{end_small, end_again}
use Rattle.machine_image.proofs.TextLemmas.{same_Ok_image, image_takes, image_again, has_texts}

missed : {A : Type 0} (found : Option A) (x : A) → found ≡ None → found ≡ Some x → ⊥
missed found x none some = cc

same_fault : {A : Type 0} (x y : ImageFault) → ◌≡◌ {A = Result A ImageFault} (Err x) (Err y) → x ≡ y
same_fault x y h = cc

-- what is read as nothing is no line of an image
is_no_record : (version : Version) (line : List ℕ) → segment_in version line ≡ None → end_in version line ≡ None
    → IsNoRecord version line
is_no_record version line no_segment no_end = record {
  segment =
      λ segment good small e. missed (segment_in version line) segment no_segment (ap (segment_in version) e
      ∙ segment_again version segment good small);
  end =
      λ start small e. missed (end_in version line) start no_end (ap (end_in version) e
      ∙ end_again version start small);
}

-- by the bytes after the last line
by_rest : (version : Version) (size : ℕ) (line next : List ℕ) (parts : List (List ℕ)) (start : ℕ) (done : Bool)
    (fault : ImageFault) → end_in version line ≡ Some start → start < size
    → is_done (next ∷ parts) ≡ done → cond {A = Result ℕ ImageFault} done (Ok start) (Err BadRecord) ≡ Err fault
    → HasFault version size (line ∷ next ∷ parts) fault
by_rest version size line next parts start true fault e inside d h = absurd cc
by_rest version size line next parts start false fault e inside d h =
    subst (HasFault version size (line ∷ next
    ∷ parts)) (same_fault BadRecord fault h)
    (beyond_the_end version size line next parts start (end_takes version line start e) inside d)

by_bound : (version : Version) (size : ℕ) (line next : List ℕ) (parts : List (List ℕ)) (start : ℕ) (inside : Bool)
    (fault : ImageFault) → end_in version line ≡ Some start
    → nat_lt start size ≡ inside
    → cond {A = Result ℕ ImageFault} inside (if is_done (next ∷ parts) then Ok start else Err BadRecord) (Err Range)
    ≡ Err fault → HasFault version size (line ∷ next ∷ parts) fault
by_bound version size line next parts start true fault e lies h =
    by_rest version size line next parts start (is_done (next ∷ parts)) fault e (ltb-true _ _ lies) refl h
by_bound version size line next parts start false fault e lies h =
    subst (HasFault version size (line ∷ next
    ∷ parts)) (same_fault Range fault h)
    (entry_outside version size line next parts start (end_takes version line start e) (end_small version line start e)
    (ltb-false _ _ lies))

by_entry : (version : Version) (size : ℕ) (line next : List ℕ) (parts : List (List ℕ)) (entry : Option ℕ)
    (fault : ImageFault) → segment_in version line ≡ None → end_in version line ≡ entry
    → entry_by size entry (next ∷ parts) ≡ Err fault → HasFault version size (line ∷ next ∷ parts) fault
by_entry version size line next parts None fault none e h =
    subst (HasFault version size (line ∷ next
    ∷ parts)) (same_fault BadRecord fault h) (no_record version size line next parts (is_no_record version line none e))
by_entry version size line next parts (Some start) fault none e h =
    by_bound version size line next parts start (nat_lt start size) fault e refl h

entry_fault : (entry : Result ℕ ImageFault) (fault : ImageFault) → entry_alone entry ≡ Err fault → entry ≡ Err fault
entry_fault (Ok start) fault h = absurd cc
entry_fault (Err why) fault h = ap Err (same_fault why fault h)

more_fault : (segment : Segment) (more : Result Contents ImageFault) (fault : ImageFault)
    → with_segments (segment ∷ []) more ≡ Err fault → more ≡ Err fault
more_fault segment (Ok contents) fault h = absurd cc
more_fault segment (Err why) fault h = ap Err (same_fault why fault h)

by_inside : (version : Version) (size : ℕ) (line next : List ℕ) (parts : List (List ℕ)) (segment : Segment)
    (inside : Bool) (more : Result Contents ImageFault) (fault : ImageFault) → segment_in version line ≡ Some segment
    → is_inside size segment ≡ inside
    → cond {A = Result Contents ImageFault} inside (with_segments (segment ∷ []) more) (Err Range) ≡ Err fault
    → ((why : ImageFault) → more ≡ Err why → HasFault version size (next ∷ parts) why)
    → HasFault version size (line ∷ next ∷ parts) fault
by_inside version size line next parts segment true more fault e lies h others =
    let taken = segment_takes version line segment e in
    further_on version size line next parts segment fault taken.line_is taken.cells taken.address lies
    (others fault (more_fault segment more fault h))
by_inside version size line next parts segment false more fault e lies h others =
    let taken = segment_takes version line segment e in
    subst (HasFault version size (line ∷ next
    ∷ parts)) (same_fault Range fault h)
    (segment_outside version size line next parts segment taken.line_is taken.cells taken.address lies)

by_segment : (version : Version) (size : ℕ) (line next : List ℕ) (parts : List (List ℕ)) (segment : Option Segment)
    (more : Result Contents ImageFault) (fault : ImageFault) → segment_in version line ≡ segment
    → contents_by size segment more (entry_by size (end_in version line) (next ∷ parts)) ≡ Err fault
    → ((why : ImageFault) → more ≡ Err why → HasFault version size (next ∷ parts) why)
    → HasFault version size (line ∷ next ∷ parts) fault
by_segment version size line next parts None more fault e h others =
    by_entry version size line next parts (end_in version line) fault e refl (entry_fault _ fault h)
by_segment version size line next parts (Some segment) more fault e h others =
    by_inside version size line next parts segment (is_inside size segment) more fault e refl h others

contents_fault : (version : Version) (size : ℕ) (parts : List (List ℕ)) (line : List ℕ) (fault : ImageFault)
    → contents_in version size (line ∷ parts) ≡ Err fault → HasFault version size (line ∷ parts) fault
unfolding contents_in
contents_fault version size [] line fault h =
    subst (HasFault version size (line ∷ [])) (same_fault Truncated fault h) (unfinished version size line)
contents_fault version size (next ∷ parts) line fault h =
    by_segment version size line next parts (segment_in version line) (contents_in version size (next
    ∷ parts)) fault refl h (λ why e. contents_fault version size parts next why e)

size_fault : (size : ℕ) (contents : Result Contents ImageFault) (fault : ImageFault) → image_of size contents
    ≡ Err fault → contents ≡ Err fault
size_fault size (Ok contents) fault h = absurd cc
size_fault size (Err why) fault h = ap Err (same_fault why fault h)

by_header : (line next : List ℕ) (parts : List (List ℕ)) (header : Option (Version × ℕ)) (fault : ImageFault)
    → header_in line ≡ header → image_by header (next ∷ parts) ≡ Err fault → HasTextFault (line ∷ next ∷ parts) fault
by_header line next parts None fault e h =
    subst (HasTextFault (line ∷ next ∷ parts)) (same_fault Header fault h)
    (no_header line next parts (λ version size good is. missed (header_in line) (version, size) e (ap header_in is
    ∙ header_again version size good)))
by_header line next parts (Some header) fault e h =
    let first = header_takes line header.0 header.1 e in
    beyond_the_header line next parts header.0 header.1 fault first.0 first.1
    (contents_fault header.0 header.1 parts next fault (size_fault header.1 _ fault h))

parts_fault : (parts : List (List ℕ)) (line : List ℕ) (fault : ImageFault) → image_in (line ∷ parts) ≡ Err fault
    → HasTextFault (line ∷ parts) fault
unfolding image_in
parts_fault [] line fault h = subst (HasTextFault (line ∷ [])) (same_fault Truncated fault h) (no_header_yet line)
parts_fault (next ∷ parts) line fault h = by_header line next parts (header_in line) fault refl h

-- a text that is read as no image has that fault
text_fault : (text : List ℕ) (fault : ImageFault) → image_in (parts_of text) ≡ Err fault
    → HasTextFault (parts_of text) fault
text_fault text fault h =
    let some = parts_of-some text in
    subst (λ (parts : List (List ℕ)). HasTextFault parts fault) (sym some.2)
    (parts_fault some.1 some.0 fault (ap image_in (sym some.2) ∙ h))

-- if an image is read, the text is an image's
is_text : (text : List ℕ) (read : Result Image ImageFault) → image_in (parts_of text) ≡ read → IsOk read
    → IsRefused text Memory
is_text text (Ok image) e h = (image, image_takes text image e)
is_text text (Err fault) e h = absurd (false≢true h)

-- ---- the clauses of a call that gives what is read

pub is_refused : (text : List ℕ) (result : Result Image ImageFault) → Gives result (image_in (parts_of text))
    → IfErr result (IsRefused text)
is_refused text (Ok image) h = tt
is_refused text (Err Memory) h = is_text text (image_in (parts_of text)) refl h
is_refused text (Err Header) h = text_fault text Header h
is_refused text (Err BadRecord) h = text_fault text BadRecord h
is_refused text (Err Range) h = text_fault text Range h
is_refused text (Err Truncated) h = text_fault text Truncated h

pub is_found : (text : List ℕ) (result : Result Image ImageFault) → Gives result (image_in (parts_of text))
    → IfOk result (IsTextOf text)
is_found text (Ok image) h = image_takes text image h
is_found text (Err fault) h = tt

pub has_versions : (text : List ℕ) (result : Result Image ImageFault) → Gives result (image_in (parts_of text))
    → IfOk result HasTexts
has_versions text (Ok image) h = let of = image_takes text image h in has_texts of.version image of.has_text
has_versions text (Err fault) h = tt

pub is_again : (text : List ℕ) (result : Result Image ImageFault) (image : Image)
    → Gives result (image_in (parts_of text)) → IsTextOf text image → IsOrMemory result image
is_again text result image h of =
    by_result result (subst (Gives result) (ap (λ each. image_in (parts_of each)) of.text_is
    ∙ image_again of.version image of.has_text) h) where
      by_result : (result : Result Image ImageFault) → Gives result (Ok image) → IsOrMemory result image
      by_result (Ok found) h = sym (same_Ok_image image found h)
      by_result (Err Memory) h = tt
      by_result (Err Header) h = absurd cc
      by_result (Err BadRecord) h = absurd cc
      by_result (Err Range) h = absurd cc
      by_result (Err Truncated) h = absurd cc

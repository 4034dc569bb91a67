-- The lines of an image, written and read.
use Rattle.std.proofs.Common.{◌≡◌, ℕ, ◌^◌, ◌<◌, ◌≤◌, ◌==◌, ◌&&◌, Bool, true, false, cond, List, [], ◌∷◌, ◌++◌, length}
use Rattle.std.proofs.Common.{Option, Some, None, refl, sym, ap, subst, ◌∙◌, arith}
use Rattle.std.specs.Prelude.{codes, nat_le}
use Rattle.std.specs.Option.{option_or}
use Rattle.std.specs.List.{list_all}
use Rattle.std.proofs.lemmas.Bool.{and_from, and_parts, eqb-true, eq-eqb, leb-true}
use Rattle.std.proofs.lemmas.Bool.Decides.{nat_tests}
use Rattle.std.proofs.lemmas.List.{append-nil, append_assoc, nil_from_length}
use Rattle.std.proofs.lemmas.Option.{cond_some, same_Some}
use Rattle.bcd_1401.specs.declared.cell.Cell.{Cell}
use Rattle.core_1401.specs.Storage.{is_core_size}
use Rattle.machine_notation.specs.Prefix.{after_prefix}
use Rattle.machine_notation.proofs.PrefixLemmas.{after_prefix_takes, after_prefix_again}
use Rattle.machine_image.specs.declared.image.Segment.{Segment}
use Rattle.machine_image.specs.declared.version.Version.{Version}
use Rattle.machine_image.specs.declared.version.Version.TheVariants.{One, Two}
use Rattle.machine_image.specs.Version.{name_of, address_digits, has_size}
use Rattle.machine_notation.specs.Cells.{cells_text}
use Rattle.machine_notation.specs.Digits.{digits_in, number_in}
use Rattle.machine_image.specs.ImageText.{header_text, segment_text, end_text, is_character}
use Rattle.machine_image.specs.ImageText.{is_segment}
use Rattle.machine_image.specs.Reading.{◌>>=◌, number_at, few_cells_in, header_with}
use Rattle.machine_image.specs.Reading.{in_version, header_in, segment_in, end_in}
use Rattle.machine_image.proofs.NumberLemmas.{Takes, number_takes, number_again}
use Rattle.machine_image.proofs.SpellingLemmas.{few_cells_takes, few_cells_again}

-- the value of a step that wasn't missed
pub record Step {A B : Type 0} (o : Option A) (f : A → Option B) (y : B) : Type 0 where
  pub value : A
  pub is : o ≡ Some value
  pub then_is : f value ≡ Some y

step : {A B : Type 0} (o : Option A) (f : A → Option B) (y : B) → (o >>= f) ≡ Some y → Step o f y
step None f y h = absurd cc
step (Some x) f y h = record { value = x; is = refl; then_is = h }

-- a size has no more digits than the version writes
pub size_bound : (version : Version) (size : ℕ) → has_size version size ≡ true → size < 10 ^ address_digits version
size_bound One size h = let most : size ≤ 4000 = leb-true _ _ (and_parts (is_core_size size) _ h).1 in omega arith
size_bound Two size h = grind (arith, nat_tests)

-- so a number of a version is written in some digits, and read
pub some_digits : (version : Version) → 0 < address_digits version
some_digits One = omega arith
some_digits Two = omega arith

pub few_digits : (version : Version) → address_digits version ≤ 8
few_digits One = omega arith
few_digits Two = omega arith

number_of_takes : (version : Version) (text : List ℕ) (found : ℕ × List ℕ)
    → number_at (address_digits version) text ≡ Some found → Takes (address_digits version) text found
number_of_takes version text found h =
    number_takes (address_digits version) text found (some_digits version) (few_digits version) h

number_of_again : (version : Version) (number : ℕ) (rest : List ℕ) → number < 10 ^ address_digits version
    → number_at (address_digits version) (digits_in (address_digits version) number ++ rest) ≡ Some (number, rest)
number_of_again version number rest small =
    number_again (address_digits version) number rest (some_digits version) (few_digits version) small

-- a header
header_with_takes : (version : Version) (line : List ℕ) (size : ℕ) → header_with version line ≡ Some size
    → (line ≡ header_text version size) × (has_size version size ≡ true)
unfolding header_with header_text
header_with_takes version line size h =
    let name = step (after_prefix (name_of version) line) _ size h in
    let number = step (number_at (address_digits version) name.value) _ size name.then_is in
    let good =
    cond_some (nat_le (length number.value.1) 0
    && has_size version number.value.0) number.value.0 size number.then_is in
    let named = after_prefix_takes (name_of version) line name.value name.is in
    let digits = number_of_takes version name.value number.value number.is in
    let done : number.value.1
    ≡ [] =
    nil_from_length number.value.1
    (let few : length number.value.1 ≤ 0 = leb-true _ _ (and_parts _ _ good.0).0 in omega arith) in
    let whole : name.value ≡ digits_in (address_digits version) size = digits.parts
    ∙ (ap (λ (rest : List ℕ). digits_in (address_digits version) number.value.0 ++ rest) done
    ∙ (append-nil _ ∙ ap (digits_in (address_digits version)) good.1)) in (
      named ∙ ap (λ (rest : List ℕ). name_of version ++ rest) whole,
      ap (has_size version) (sym good.1)
          ∙ (and_parts _ _ good.0).1,
    )

-- a number that nothing follows
number_alone : (version : Version) (number : ℕ) → number < 10 ^ address_digits version
    → number_at (address_digits version) (digits_in (address_digits version) number) ≡ Some (number, [])
number_alone version number small =
    ap (number_at (address_digits version)) (sym (append-nil (digits_in (address_digits version) number)))
    ∙ number_of_again version number [] small

header_with_again : (version : Version) (size : ℕ) → has_size version size ≡ true
    → header_with version (header_text version size) ≡ Some size
unfolding header_with header_text
header_with_again version size h =
    let digits = address_digits version in
    rw (
      after_prefix_again (name_of version) (digits_in digits size),
      number_alone version size (size_bound version size h),
      h,
    )

-- the versions' headers begin with other bytes
header_with_other : (size : ℕ) → header_with One (header_text Two size) ≡ None
unfolding header_with header_text
header_with_other size = refl

-- what was read in one version
in_version_takes : (tried : Version) (found : Option ℕ) (line : List ℕ) (version : Version) (size : ℕ)
    → header_with tried line ≡ found → in_version tried found ≡ Some (version, size)
    → (line ≡ header_text version size) × (has_size version size ≡ true)
in_version_takes tried None line version size e h = absurd cc
in_version_takes tried (Some number) line version size e h =
    let pair : (tried, number) ≡ (version, size) = same_Some (tried, number) (version, size) h in
    let same : tried ≡ version = ap (λ (p : Version × ℕ). p.0) pair in
    let found : header_with version line ≡ Some size =
    ap (λ v. header_with v line) (sym same) ∙ e ∙ ap (λ (p : Version × ℕ). Some p.1) pair in
    header_with_takes version line size found

pub header_takes : (line : List ℕ) (version : Version) (size : ℕ) → header_in line ≡ Some (version, size)
    → (line ≡ header_text version size) × (has_size version size ≡ true)
unfolding header_in
header_takes line version size h = by_one (header_with One line) refl h where
  by_one : (found : Option ℕ) → header_with One line ≡ found
      → option_or (in_version One found) (in_version Two (header_with Two line)) ≡ Some (version, size)
      → (line ≡ header_text version size) × (has_size version size ≡ true)
  by_one None e h = in_version_takes Two (header_with Two line) line version size refl h
  by_one (Some number) e h = in_version_takes One (Some number) line version size e h

pub header_again : (version : Version) (size : ℕ) → has_size version size ≡ true → header_in (header_text version size)
    ≡ Some (version, size)
unfolding header_in
header_again One size h = rw (header_with_again One size h) refl
header_again Two size h = rw (header_with_other size, header_with_again Two size h) refl

-- the last line
pub end_takes : (version : Version) (line : List ℕ) (start : ℕ) → end_in version line ≡ Some start → line
    ≡ end_text version start
unfolding end_in end_text
end_takes version line start h =
    let name = step (after_prefix (codes "END ") line) _ start h in
    let number = step (number_at (address_digits version) name.value) _ start name.then_is in
    let good = cond_some (nat_le (length number.value.1) 0) number.value.0 start number.then_is in
    let named = after_prefix_takes (codes "END ") line name.value name.is in
    let digits = number_of_takes version name.value number.value number.is in
    let done : number.value.1
    ≡ [] =
    nil_from_length number.value.1 (let few : length number.value.1 ≤ 0 = leb-true _ _ good.0 in omega arith) in
    let whole : name.value ≡ digits_in (address_digits version) start = digits.parts
    ∙ (ap (λ (rest : List ℕ). digits_in (address_digits version) number.value.0 ++ rest) done
    ∙ (append-nil _ ∙ ap (digits_in (address_digits version)) good.1)) in
    named ∙ ap (λ (rest : List ℕ). codes "END " ++ rest) whole

pub end_small : (version : Version) (line : List ℕ) (start : ℕ) → end_in version line ≡ Some start
    → start < 10 ^ address_digits version
unfolding end_in
end_small version line start h =
    let name = step (after_prefix (codes "END ") line) _ start h in
    let number = step (number_at (address_digits version) name.value) _ start name.then_is in
    let good = cond_some (nat_le (length number.value.1) 0) number.value.0 start number.then_is in
    let digits = number_of_takes version name.value number.value number.is in
    subst (λ k. k < 10 ^ address_digits version) good.1 digits.small

pub end_again : (version : Version) (start : ℕ) → start < 10 ^ address_digits version
    → end_in version (end_text version start) ≡ Some start
unfolding end_in end_text
end_again version start small = rw (number_alone version start small)

-- nothing is found in a text, whether it is long enough or not
missed : {A B : Type 0} (long : Bool) (f : A → Option B) → (cond {A = Option A} long None None >>= f) ≡ None
missed true f = refl
missed false f = refl

-- the last line is no segment
pub end_is_no_segment : (version : Version) (start : ℕ) → segment_in version (end_text version start) ≡ None
unfolding segment_in end_text number_at number_in
end_is_no_segment One start = missed (nat_le 4 (length (end_text One start))) _
end_is_no_segment Two start = missed (nat_le 5 (length (end_text Two start))) _

-- what a segment's line says
pub record IsSegmentLine (version : Version) (line : List ℕ) (segment : Segment) : Type 0 where
  pub line_is : line ≡ segment_text version segment
  pub cells : is_segment segment ≡ true
  pub address : segment.address < 10 ^ address_digits version

made_segment : (same : Bool) (address : ℕ) (cells : List Cell) (segment : Segment)
    → cond {A = Option Segment} same (Some (record { address = address; cells = cells })) None ≡ Some segment
    → (same ≡ true) × (address ≡ segment.address) × (cells ≡ segment.cells)
made_segment true address cells segment h =
    let made : Segment = record { address = address; cells = cells } in
    let one : made ≡ segment = same_Some made segment h in
    (refl, ap (λ (each : Segment). each.address) one, ap (λ (each : Segment). each.cells) one)
made_segment false address cells segment h = absurd cc

-- the parts of a segment's line, one after the other
regroup : (address count cells : List ℕ) → address ++ (32 ∷ (count ++ (32 ∷ cells))) ≡ address ++ codes " " ++ count
    ++ codes " " ++ cells
regroup address count cells = simp append_assoc

pub segment_takes : (version : Version) (line : List ℕ) (segment : Segment) → segment_in version line ≡ Some segment
    → IsSegmentLine version line segment
unfolding segment_in segment_text
segment_takes version line segment h =
    let digits = address_digits version in
    let a = step (number_at digits line) _ segment h in
    let b = step (after_prefix (codes " ") a.value.1) _ segment a.then_is in
    let n = step (number_at 2 b.value) _ segment b.then_is in
    let d = step (after_prefix (codes " ") n.value.1) _ segment n.then_is in
    let e = step (few_cells_in d.value) _ segment d.then_is in
    let good = made_segment (length e.value == n.value.0) a.value.0 e.value segment e.then_is in
    let cells_are : e.value ≡ segment.cells = good.2 in
    let found = few_cells_takes d.value e.value e.is in
    let count : n.value.0 ≡ length segment.cells = sym (eqb-true _ _ good.0) ∙ ap length good.2 in
    let front = number_of_takes version line a.value a.is in
    let middle = number_takes 2 b.value n.value (omega arith) (omega arith) n.is in
    let cells_text_is : d.value ≡ cells_text segment.cells = found.spells.text_is ∙ ap cells_text cells_are in
    let last : n.value.1 ≡ 32 ∷ cells_text segment.cells = after_prefix_takes (codes " ") n.value.1 d.value d.is
    ∙ ap (λ (rest : List ℕ). 32 ∷ rest) cells_text_is in
    let third : b.value ≡ digits_in 2 (length segment.cells) ++ (32 ∷ cells_text segment.cells) = middle.parts
    ∙ (ap (λ k. digits_in 2 k ++ n.value.1) count
    ∙ ap (λ (rest : List ℕ). digits_in 2 (length segment.cells) ++ rest) last) in
    let second : a.value.1 ≡ 32
    ∷ (digits_in 2 (length segment.cells) ++ (32 ∷ cells_text segment.cells)) =
    after_prefix_takes (codes " ") a.value.1 b.value b.is ∙ ap (λ (rest : List ℕ). 32 ∷ rest) third in
    let whole : line ≡ digits_in digits segment.address
    ++ (32 ∷ (digits_in 2 (length segment.cells) ++ (32 ∷ cells_text segment.cells))) =
    front.parts
    ∙ (ap (λ k. digits_in digits k ++ a.value.1) good.1
    ∙ ap (λ (rest : List ℕ). digits_in digits segment.address ++ rest) second) in
    record {
      line_is =
          whole ∙ regroup (digits_in digits segment.address) (digits_in 2 (length segment.cells))
          (cells_text segment.cells);
      cells =
          subst (λ (cells : List Cell). nat_le 1 (length cells) && nat_le (length cells) 40
          && list_all is_character cells ≡ true) cells_are (and_from _ _ found.few found.spells.own);
      address = subst (λ k. k < 10 ^ digits) good.1 front.small;
    }

few_bound : (cells : List Cell) → nat_le 1 (length cells) && nat_le (length cells) 40 ≡ true → length cells < 10 ^ 2
few_bound cells few =
    let most : length cells ≤ 40 = leb-true _ _ (and_parts (nat_le 1 (length cells)) _ few).1 in omega arith

-- a segment's line that is written is read again
pub segment_again : (version : Version) (segment : Segment) → is_segment segment ≡ true
    → segment.address < 10 ^ address_digits version → segment_in version (segment_text version segment) ≡ Some segment
unfolding segment_in segment_text
segment_again version segment good small =
    let digits = address_digits version in
    let count = length segment.cells in
    let few = (and_parts _ (list_all is_character segment.cells) good).0 in
    let own = (and_parts (nat_le 1 count && nat_le count 40) _ good).1 in
    let cells = cells_text segment.cells in
    let beyond_address : List ℕ = 32 ∷ (digits_in 2 count ++ (32 ∷ cells)) in
    let line_is = regroup (digits_in digits segment.address) (digits_in 2 count) cells in
    let address : number_at digits (digits_in digits segment.address ++ codes " " ++ digits_in 2 count ++ codes " "
    ++ cells) ≡ Some (segment.address, beyond_address) =
    ap (number_at digits) (sym line_is) ∙ number_of_again version segment.address beyond_address small in
    rw (
      address,
      number_again 2 count (32 ∷ cells) (omega arith) (omega arith) (few_bound segment.cells few),
      few_cells_again segment.cells few own,
      eq-eqb count count refl,
    )

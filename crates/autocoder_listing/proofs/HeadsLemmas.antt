-- What is written by the heads of lines is their listing.
use Rattle.std.proofs.Common.{◌≡◌, ℕ, ◌+◌, ◌<◌, ◌==◌, Bool, true, false, cond, List, [], ◌∷◌, ◌++◌, length, take, drop}
use Rattle.std.proofs.Common.{ℤ, Option, None, Some, refl, sym, ap, ◌∙◌, arith, append_assoc}
use Rattle.std.proofs.lemmas.Bool.Decides.{nat_tests}
use Rattle.std.proofs.lemmas.List.Concat.{flat_map-append, flat_map-cons}
use Rattle.std.specs.Bool.{⊤}
use Rattle.std.specs.List.{flat_map}
use Rattle.std.specs.Prelude.{codes}
use Rattle.autocoder_statements.specs.Description.{describe}
use Rattle.autocoder_statements.specs.declared.description.Contents.TheVariants as contents
use Rattle.autocoder_statements.specs.declared.description.Next.TheVariants as next
use Rattle.autocoder_statements.specs.declared.statement.Body.{Body}
use Rattle.autocoder_statements.specs.declared.statement.Body.TheVariants as bodies
use Rattle.autocoder_statements.specs.declared.statement.Line.{Line}
use Rattle.autocoder_statements.specs.declared.statement.Statement.{Statement}
use Rattle.autocoder_placing.specs.Cells.{contents_cells}
use Rattle.autocoder_placing.specs.Placement.{Placement, placed_after, start_of}
use Rattle.autocoder_listing.specs.Heads.{literals_text, headed, heads_at, heads_from, literals_from, front_text, front_of}
use Rattle.autocoder_listing.specs.Heads.{listed_line, head_at, heads_after, literals_after, written_for}
use Rattle.autocoder_listing.specs.Heads.{written}
use Rattle.autocoder_listing.specs.Listing.{address_shown, address_at, cells_at, characters_text, listing_line, line_for}
use Rattle.autocoder_listing.specs.Listing.{line_text, listing_from, listing_text, literal_lines, literals_by, literals_in}
use Rattle.autocoder_listing.specs.Rows.{row_with}
use Rattle.autocoder_listing.specs.declared.heads.Head.{Head}

-- a remark places nothing
record PlacesNothing (body : Body) : Type 0 where
  contents : (describe body).contents ≡ contents.Nothing
  literals : (describe body).next ≡ next.Beyond

remark_places_nothing : (body : Body) → (describe body).is_remark ≡ true → PlacesNothing body
remark_places_nothing bodies.Unknown is = absurd cc
remark_places_nothing (bodies.Instruction instruction of) is = absurd cc
remark_places_nothing (bodies.MarkedConstant constant) is = absurd cc
remark_places_nothing (bodies.Constant constant) is = absurd cc
remark_places_nothing (bodies.Space places) is = absurd cc
remark_places_nothing (bodies.Areas made) is = absurd cc
remark_places_nothing (bodies.Blanks places) is = absurd cc
remark_places_nothing (bodies.PlacedConstant placed) is = absurd cc
remark_places_nothing (bodies.Field span) is = absurd cc
remark_places_nothing (bodies.WideField span) is = absurd cc
remark_places_nothing (bodies.Equate of) is = absurd cc
remark_places_nothing (bodies.WideEquate of) is = record { contents = refl; literals = refl }
remark_places_nothing (bodies.Origin of) is = absurd cc
remark_places_nothing (bodies.LabelledOrigin of) is = absurd cc
remark_places_nothing (bodies.LiteralOrigin of) is = absurd cc
remark_places_nothing (bodies.Execute of) is = absurd cc
remark_places_nothing (bodies.WideExecute of) is = absurd cc
remark_places_nothing (bodies.End of) is = absurd cc
remark_places_nothing (bodies.WideEnd of) is = absurd cc
remark_places_nothing (bodies.Heading is_well_formed) is = record { contents = refl; literals = refl }
remark_places_nothing (bodies.Control size) is = record { contents = refl; literals = refl }
remark_places_nothing bodies.SecondControl is = record { contents = refl; literals = refl }
remark_places_nothing (bodies.Suffix suffix) is = record { contents = refl; literals = refl }
remark_places_nothing (bodies.Transfer of) is = absurd cc
remark_places_nothing (bodies.Chain chain) is = absurd cc
remark_places_nothing (bodies.AddressConstant constant) is = absurd cc

-- the first of these heads is of a line after this one
abbrev pub AreLater : ℕ → List Head → Type 0
AreLater number [] = ⊤
AreLater number (head ∷ heads) = number < head.row.number

later_with : (n number literals : ℕ) (address : Option ℤ) (characters : List ℕ) (rest : List Head) → n < number
    → AreLater n rest → AreLater n (headed literals (row_with number address characters) ++ rest)
later_with n number literals None characters rest low more = more
later_with n number literals (Some address) characters rest low more = low

later_at : (all this : Placement) (n number : ℕ) (statement : Option Statement) (lines : List Line) (rest : List Head)
    → n < number → AreLater n rest → AreLater n (heads_at all this number statement lines ++ rest)
later_at all this n number None lines rest low more = more
later_at all this n number (Some statement) lines rest low more =
    later_with n number (length (literals_text all this (Some statement))) (address_shown all this statement.body)
    (characters_text (cells_at all this statement.body lines)) rest low more

-- lines have later heads than one above them
are_later : (all this : Placement) (n number : ℕ) (lines : List Line) → n < number
    → AreLater n (heads_from all this number lines)
are_later all this n number [] low = tt
are_later all this n number (line ∷ lines) low =
    later_at all this n number line.statement lines (heads_from all (placed_after this line) (number + 1) lines) low
    (are_later all (placed_after this line) n (number + 1) lines (omega (arith, low)))

-- a line before the first of these has no head among them
none_at : (number : ℕ) (heads : List Head) → AreLater number heads → head_at number heads ≡ None
none_at number [] later = refl
none_at number (head ∷ heads) later =
    let other : (head.row.number == number) ≡ false = grind (arith, nat_tests, later) in
    ap (λ (b : Bool). cond b (Some head) None) other

same_number : (number : ℕ) → (number == number) ≡ true
same_number number = grind (arith, nat_tests)

-- what is written for a line by the head that it has, if it has one, is what is written with it
abbrev Continues : ℕ → List Head → List ℕ → List Head → List ℕ → List ℕ → List ℕ → Type 0
Continues number all text heads literals source whole =
    (sources : List (List ℕ)) → written number all text (source ∷ sources)
    ≡ whole ++ written (number + 1) heads literals sources

without_head : (number : ℕ) (heads : List Head) (literals source : List ℕ) → AreLater number heads
    → Continues number heads literals heads literals source (listed_line (front_text number None (codes "        ")) source)
without_head number heads literals source later = λ sources.
    ap (λ (head : Option Head). written_for number head literals source
    ++ written (number + 1) (heads_after head heads) (literals_after head literals) sources) (none_at number heads later)

with_head : (number : ℕ) (head : Head) (text : List ℕ) (heads : List Head) (literals source : List ℕ)
    → head.row.number ≡ number → head.literals ≡ length text
    → Continues number (head ∷ heads) (text ++ literals) heads literals source
    (text ++ listed_line (front_of number (Some head)) source)
with_head number head text heads literals source is count = λ sources.
    let same : head_at number (head ∷ heads) ≡ Some head =
    ap (λ (b : Bool). cond b (Some head) None) (ap (λ n. n == number) is ∙ same_number number) in
    let first : take head.literals (text ++ literals) ≡ text =
    ap (λ n. take n (text ++ literals)) count ∙ take_front text literals in
    let more : drop head.literals (text ++ literals) ≡ literals =
    ap (λ n. drop n (text ++ literals)) count ∙ drop_front text literals in
    ap (λ (found : Option Head). written_for number found (text ++ literals) source
    ++ written (number + 1) (heads_after found (head ∷ heads)) (literals_after found (text ++ literals)) sources) same
    ∙ ap (λ (before : List ℕ). (before ++ listed_line (front_of number (Some head)) source)
    ++ written (number + 1) heads (drop head.literals (text ++ literals)) sources) first
    ∙ ap (λ (left : List ℕ). (text ++ listed_line (front_of number (Some head)) source)
    ++ written (number + 1) heads left sources) more
  where
    take_front : (xs ys : List ℕ) → take (length xs) (xs ++ ys) ≡ xs
    take_front [] ys = refl
    take_front (x ∷ xs) ys = ap (λ rest. x ∷ rest) (take_front xs ys)

    drop_front : (xs ys : List ℕ) → drop (length xs) (xs ++ ys) ≡ ys
    drop_front [] ys = refl
    drop_front (x ∷ xs) ys = drop_front xs ys

-- the same of a row, if a line without one places no literals and shows no characters
with_row : (number : ℕ) (address : Option ℤ) (characters text : List ℕ) (heads : List Head) (literals source : List ℕ)
    → AreLater number heads → (address ≡ None → (text ≡ []) × (characters ≡ codes "        "))
    → Continues number (headed (length text) (row_with number address characters) ++ heads) (text ++ literals) heads
    literals source (text ++ listed_line (front_text number address characters) source)
with_row number None characters text heads literals source later nothing = λ sources.
    let is = nothing refl in
    ap (λ (before : List ℕ). written number heads (before ++ literals) (source ∷ sources)) is.0
    ∙ without_head number heads literals source later sources
    ∙ ap (λ (shown : List ℕ). listed_line (front_text number None shown) source
    ++ written (number + 1) heads literals sources) (sym is.1)
    ∙ ap (λ (before : List ℕ). (before ++ listed_line (front_text number None characters) source)
    ++ written (number + 1) heads literals sources) (sym is.0)
with_row number (Some address) characters text heads literals source later nothing =
    with_head number _ text heads literals source refl refl

-- a statement whose line shows no address places nothing
no_address : (all this : Placement) (body : Body) → address_shown all this body ≡ None → (describe body).is_remark ≡ true
no_address all this body none = by (describe body).is_remark refl
  where
    by : (b : Bool) → (describe body).is_remark ≡ b → (describe body).is_remark ≡ true
    by true is = is
    by false is =
        absurd (some (ap (λ (b : Bool). cond b None (Some (address_at all this body))) (sym is) ∙ none))
      where
        some : ◌≡◌ {A = Option ℤ} (Some (address_at all this body)) None → ⊥
        some e = cc

shows_nothing : (all this : Placement) (statement : Statement) (lines : List Line)
    → address_shown all this statement.body ≡ None
    → (literals_text all this (Some statement) ≡ [])
    × (characters_text (cells_at all this statement.body lines) ≡ codes "        ")
unfolding characters_text
shows_nothing all this statement lines none =
    let places = remark_places_nothing statement.body (no_address all this statement.body none) in (
      ap (λ next. flat_map line_text (literal_lines all (start_of this (Some statement)) (literals_by this next)))
          places.literals,
      ap (λ what. characters_text (contents_cells all this what lines)) places.contents,
    )

-- what is written for a line is its part of the listing
for_line : (all this : Placement) (number : ℕ) (statement : Option Statement) (lines : List Line) (heads : List Head)
    (literals source : List ℕ) → AreLater number heads
    → Continues number (heads_at all this number statement lines ++ heads)
    (literals_text all this statement ++ literals) heads literals source
    (literals_text all this statement ++ line_text (line_for all this number source statement lines))
unfolding listing_line characters_text
for_line all this number None lines heads literals source later =
    without_head number heads literals source later
for_line all this number (Some statement) lines heads literals source later =
    with_row number (address_shown all this statement.body) (characters_text (cells_at all this statement.body lines))
    (literals_text all this (Some statement)) heads literals source later (shows_nothing all this statement lines)

-- what is written for lines by their heads is their listing
written_is : (all this : Placement) (number : ℕ) (lines : List Line) (sources : List (List ℕ))
    → length lines ≡ length sources
    → written number (heads_from all this number lines) (literals_from all this lines) sources
    ≡ flat_map line_text (listing_from all this number lines sources)
written_is all this number [] [] same = refl
written_is all this number [] (source ∷ sources) same = absurd (omega (arith, same))
written_is all this number (line ∷ lines) [] same = absurd (omega (arith, same))
written_is all this number (line ∷ lines) (source ∷ sources) same =
    let after = placed_after this line in
    let text : List ℕ = literals_text all this line.statement in
    let own : List ℕ = line_for all this number source line.statement lines in
    let rest : List (List ℕ) = listing_from all after (number + 1) lines sources in
    let above : List (List ℕ) = literal_lines all (start_of this line.statement) (literals_in this line.statement) in
    for_line all this number line.statement lines (heads_from all after (number + 1) lines) (literals_from all after lines)
    source (are_later all after number (number + 1) lines (omega arith)) sources
    ∙ ap (λ (more : List ℕ). (text ++ line_text own) ++ more)
    (written_is all after (number + 1) lines sources (omega (arith, same)))
    ∙ append_assoc text (line_text own) (flat_map line_text rest)
    ∙ ap (λ (more : List ℕ). text ++ more) (sym (flat_map-cons line_text own rest))
    ∙ sym (flat_map-append line_text above (own ∷ rest))

-- what is written by the heads of all lines of a source is the text of its listing
pub text_is : (all this : Placement) (lines : List Line) (sources : List (List ℕ)) (heads : List Head) (literals : List ℕ)
    → length lines ≡ length sources → heads ≡ heads_from all this 1 lines → literals ≡ literals_from all this lines
    → written 1 heads literals sources ≡ listing_text (listing_from all this 1 lines sources)
unfolding listing_text
text_is all this lines sources heads literals same heads_are literals_are =
    ap (λ (own : List Head). written 1 own literals sources) heads_are
    ∙ ap (λ (own : List ℕ). written 1 (heads_from all this 1 lines) own sources) literals_are
    ∙ written_is all this 1 lines sources same

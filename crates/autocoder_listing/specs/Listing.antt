-- The lines of a listing (Autocoder, "Assembler Control"; their columns own).
use Rattle.std.specs.Prelude.{ℕ, ◌+◌, ◌-◌, Bool, List, [], ◌∷◌, ◌++◌, length, map, take, drop, slice_index, ℤ, pos}
use Rattle.std.specs.Prelude.{false, nat_abs, int_lt, if◌then◌else◌, Option, Some, None, codes}
use Rattle.std.specs.Ordering.{int_eq}
use Rattle.std.specs.List.{flat_map, suffix_len}
use Rattle.bcd_1401.specs.Graphic.{graphics}
use Rattle.bcd_1401.specs.declared.cell.Cell.{Cell}
use Rattle.machine_notation.specs.Digits.{digits_in}
use Rattle.autocoder_statements.specs.Constant.{bytes_of}
use Rattle.autocoder_statements.specs.SourceLine.{padded, is_blank}
use Rattle.autocoder_statements.specs.Context.{lines_said}
use Rattle.autocoder_statements.specs.Description.{describe}
use Rattle.autocoder_statements.specs.declared.address.Base.{Base}
use Rattle.autocoder_statements.specs.declared.address.Base.TheVariants as bases
use Rattle.autocoder_statements.specs.declared.constant.Constant.{Constant}
use Rattle.autocoder_statements.specs.declared.constant.Constant.TheVariants as constants
use Rattle.autocoder_statements.specs.declared.description.Addressing.{Addressing}
use Rattle.autocoder_statements.specs.declared.description.Addressing.TheVariants as addressing
use Rattle.autocoder_statements.specs.declared.description.Next.{Next}
use Rattle.autocoder_statements.specs.declared.description.Next.TheVariants as next
use Rattle.autocoder_statements.specs.declared.language.Language.{Language}
use Rattle.autocoder_statements.specs.declared.literal.Literal.{Literal}
use Rattle.autocoder_statements.specs.declared.literal.Literal.TheVariants as literals
use Rattle.autocoder_statements.specs.declared.statement.Body.{Body}
use Rattle.autocoder_statements.specs.declared.statement.Statement.{Statement}
use Rattle.autocoder_statements.specs.declared.statement.Line.{Line}
use Rattle.autocoder_placing.specs.Cells.{contents_cells, literal_cells}
use Rattle.autocoder_placing.specs.Literals.{key_of}
use Rattle.autocoder_placing.specs.Placement.{Placement, point_value, beyond_literal, start_of, placed_after, unplaced}
use Rattle.autocoder_placing.specs.Placement.{placed}

-- the most digits that a number of the machine this runs on has
abbrev pub most_digits : ℕ
most_digits = 20

-- the number of a line in at least four digits; four blanks for a line that isn't in the source
unfoldable pub number_text : Option ℕ → List ℕ
number_text None = codes "    "
number_text (Some number) = digits_in 4 number

-- an address in five digits; five blanks if a line has none
unfoldable pub address_text : Option ℤ → List ℕ
address_text None = codes "     "
address_text (Some address) = digits_in 5 (nat_abs address)

-- a cell by its graphic, whether it has a word mark or not
abbrev pub graphic_of : Cell → ℕ
graphic_of cell = slice_index graphics cell.char

-- a blank without a word mark
abbrev pub blank : Cell
blank = record { char = 0; mark = false }

-- the first eight cells, with blanks after them if there are fewer
unfoldable pub characters_text : List Cell → List ℕ
characters_text cells = padded 8 (map graphic_of (take 8 cells))

-- a text without the blanks at its end
unfoldable pub without_last_blanks : List ℕ → List ℕ
without_last_blanks text = take (length text - suffix_len is_blank text) text

-- a line of the listing: the number of a line of the source, an address, cells, and the line itself
unfoldable pub listing_line : Option ℕ → Option ℤ → List Cell → List ℕ → List ℕ
listing_line number address cells source =
    without_last_blanks
    (number_text number ++ codes " " ++ address_text address ++ codes " " ++ characters_text cells ++ codes " "
    ++ source)

-- a constant as a source writes it
unfoldable pub spelling : Constant → List ℕ
spelling (constants.Text text) = codes "@" ++ bytes_of text ++ codes "@"
spelling (constants.Number digits) = bytes_of digits
spelling (constants.Plus digits) = codes "+" ++ bytes_of digits
spelling (constants.Minus digits) = codes "-" ++ bytes_of digits
spelling (constants.Blanks count) = codes "#" ++ digits_in 1 count

-- what an address is counted from, as a source writes it
unfoldable pub base_spelling : Base → List ℕ
base_spelling (bases.Number number) = digits_in 1 number
base_spelling (bases.Symbol label) = without_last_blanks label.text
base_spelling bases.Here = codes "*"
base_spelling (bases.Register number) = codes "X" ++ digits_in 1 number
base_spelling bases.NextHundred = codes "*+X00"

abbrev pub sign_spelling : Bool → List ℕ
sign_spelling is_negative = if is_negative then codes "-" else codes "+"

-- an adjustment, but for 0
unfoldable pub adjustment_spelling : ℤ → List ℕ
adjustment_spelling adjustment =
    if int_eq adjustment (pos 0) then []
    else sign_spelling (int_lt adjustment (pos 0)) ++ digits_in 1 (nat_abs adjustment)

-- an index register, or +X0, if it is named
unfoldable pub index_spelling : Option ℕ → List ℕ
index_spelling None = []
index_spelling (Some index) = codes "+X" ++ digits_in 1 index

-- a literal as a source writes it
unfoldable pub literal_spelling : Literal → List ℕ
literal_spelling (literals.Constant constant) = spelling constant
literal_spelling (literals.Address literal) =
    sign_spelling literal.is_negative ++ base_spelling literal.address.base
    ++ adjustment_spelling literal.address.adjustment
    ++ index_spelling literal.address.index
literal_spelling (literals.Area literal) =
    without_last_blanks literal.label.text ++ codes "#" ++ digits_in 1 literal.places

-- the lines of literals that are placed one after the other, each as it was first written, with all that is placed
abbrev pub literal_lines : Placement → ℤ → List Literal → List (List ℕ)
literal_lines all from [] = []
literal_lines all from (literal ∷ literals) =
    listing_line None (Some from) (literal_cells all (key_of literal)) (literal_spelling literal)
    ∷ literal_lines all (beyond_literal from (key_of literal)) literals

-- how the literals were first written that a body places
abbrev pub literals_by : Placement → Next → List Literal
literals_by this next.Beyond = []
literals_by this next.Literals = drop (length this.addresses) this.spellings
literals_by this next.Value = []
literals_by this next.LiteralsAtValue = drop (length this.addresses) this.spellings
literals_by this next.Elsewhere = []

abbrev pub literals_at : Placement → Body → List Literal
literals_at this body = literals_by this (describe body).next

-- what is placed by the lines whose labels an operand may name: some name the labels before them alone, the others all
abbrev pub placed_for : Placement → Placement → Addressing → Placement
placed_for all this addressing.Nothing = this
placed_for all this (addressing.Addresses of) = this
placed_for all this (addressing.EarlierValue of) = this
placed_for all this (addressing.Equal of) = all
placed_for all this (addressing.Value of) = all
placed_for all this (addressing.Entry of) = all

-- the address of a body: its first place, that of a field in the first area; the value of EQU, ORG, LTORG, EX and
-- END
abbrev pub address_at : Placement → Placement → Body → ℤ
address_at all this body =
    let row = describe body in point_value (placed_for all this row.addressing) this row row.shows

-- the address that the line of a body shows; a remark, as a heading is, has none
abbrev pub address_shown : Placement → Placement → Body → Option ℤ
address_shown all this body = if (describe body).is_remark then None else Some (address_at all this body)

-- the cells that the line of a body shows: those of an instruction, a constant or areas
abbrev pub cells_at : Placement → Placement → Body → List Line → List Cell
cells_at all this body lines = contents_cells all this (describe body).contents lines

-- how the literals were first written that a line places: before EX, END and LTORG each has a line of its
-- own
abbrev pub literals_in : Placement → Option Statement → List Literal
literals_in this None = []
literals_in this (Some statement) = literals_at this statement.body

-- the line for a line of the source, with these lines after it; a comment has no address
abbrev pub line_for : Placement → Placement → ℕ → List ℕ → Option Statement → List Line → List ℕ
line_for all this number source None lines = listing_line (Some number) None [] source
line_for all this number source (Some statement) lines =
    listing_line (Some number) (address_shown all this statement.body)
    (cells_at all this statement.body lines) source

-- the listing of lines, which have these texts, counting them from this number
abbrev pub listing_from : Placement → Placement → ℕ → List Line → List (List ℕ) → List (List ℕ)
listing_from all this number [] sources = []
listing_from all this number (line ∷ lines) [] = []
listing_from all this number (line ∷ lines) (source ∷ sources) =
    literal_lines all (start_of this line.statement) (literals_in this line.statement)
    ++ line_for all this number source line.statement lines
    ∷ listing_from all (placed_after this line) (number + 1) lines sources

-- the listing of lines, each with its text
abbrev pub listing_with : List Line → List (List ℕ) → List (List ℕ)
listing_with lines sources = listing_from (placed lines) (unplaced (placed lines)) 1 lines sources

-- a line of a listing with its line feed
abbrev pub line_text : List ℕ → List ℕ
line_text line = line ++ codes "\n"

-- the lines of a listing, each with its line feed
unfoldable pub listing_text : List (List ℕ) → List ℕ
listing_text lines = flat_map line_text lines

-- the listing of a source's lines in this language
abbrev pub listing_of : Language → List (List ℕ) → List (List ℕ)
listing_of language sources = listing_with (lines_said language sources) sources

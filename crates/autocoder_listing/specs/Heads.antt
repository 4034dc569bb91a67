-- What the lines of a listing have besides the lines of the source, made before the first of them is written (own).
use Rattle.std.specs.Prelude.{ℕ, ◌+◌, ◌==◌, if◌then◌else◌, List, [], ◌∷◌, ◌++◌, length, take, drop, ℤ, Option, None, Some}
use Rattle.std.specs.Prelude.{codes}
use Rattle.std.specs.List.{flat_map}
use Rattle.autocoder_statements.specs.declared.statement.Line.{Line}
use Rattle.autocoder_statements.specs.declared.statement.Statement.{Statement}
use Rattle.autocoder_placing.specs.Placement.{Placement, start_of, placed_after}
use Rattle.autocoder_listing.specs.Listing.{number_text, address_text, without_last_blanks, line_text}
use Rattle.autocoder_listing.specs.Listing.{literal_lines, literals_in}
use Rattle.autocoder_listing.specs.Rows.{row_of}
use Rattle.autocoder_listing.specs.declared.heads.Head.{Head}
use Rattle.autocoder_listing.specs.declared.rows.Row.{Row}

-- the lines of the literals that a line places, each with its line feed
abbrev pub literals_text : Placement → Placement → Option Statement → List ℕ
literals_text all this statement = flat_map line_text (literal_lines all (start_of this statement) (literals_in this statement))

-- a row with how many bytes the lines of the literals before it have, if there is a row
abbrev pub headed : ℕ → Option Row → List Head
headed literals None = []
headed literals (Some row) = record { row = row; literals = literals } ∷ []

-- the head of the line of this number, with these lines after it; a comment has none
abbrev pub heads_at : Placement → Placement → ℕ → Option Statement → List Line → List Head
heads_at all this number statement lines =
    headed (length (literals_text all this statement)) (row_of all this number statement lines)

-- the heads of lines, counting them from this number
abbrev pub heads_from : Placement → Placement → ℕ → List Line → List Head
heads_from all this number [] = []
heads_from all this number (line ∷ lines) =
    heads_at all this number line.statement lines ++ heads_from all (placed_after this line) (number + 1) lines

-- the lines of all literals that lines place
abbrev pub literals_from : Placement → Placement → List Line → List ℕ
literals_from all this [] = []
literals_from all this (line ∷ lines) =
    literals_text all this line.statement ++ literals_from all (placed_after this line) lines

-- what precedes the line of the source on its line of the listing
abbrev pub front_text : ℕ → Option ℤ → List ℕ → List ℕ
front_text number address characters =
    number_text (Some number) ++ codes " " ++ address_text address ++ codes " " ++ characters ++ codes " "

abbrev pub front_of : ℕ → Option Head → List ℕ
front_of number None = front_text number None (codes "        ")
front_of number (Some head) = front_text number (Some head.row.address) head.row.characters

-- a line of the listing with its line feed
abbrev pub listed_line : List ℕ → List ℕ → List ℕ
listed_line front source = line_text (without_last_blanks (front ++ source))

-- the head of the line of this number, if the first of these is it
abbrev pub head_at : ℕ → List Head → Option Head
head_at number [] = None
head_at number (head ∷ heads) = if head.row.number == number then Some head else None

-- the heads that are left after a line
abbrev pub heads_after : Option Head → List Head → List Head
heads_after None heads = heads
heads_after (Some head) heads = drop 1 heads

-- the lines of the literals before a line, and those that are left after it
abbrev pub literals_before : Option Head → List ℕ → List ℕ
literals_before None literals = []
literals_before (Some head) literals = take head.literals literals

abbrev pub literals_after : Option Head → List ℕ → List ℕ
literals_after None literals = literals
literals_after (Some head) literals = drop head.literals literals

-- what is written for a line of the source: the lines of the literals before it, and its own
abbrev pub written_for : ℕ → Option Head → List ℕ → List ℕ → List ℕ
written_for number head literals source = literals_before head literals ++ listed_line (front_of number head) source

-- what is written for lines of a source, counting them from this number, by their heads and the lines of literals
abbrev pub written : ℕ → List Head → List ℕ → List (List ℕ) → List ℕ
written number heads literals [] = []
written number heads literals (source ∷ sources) =
    let head = head_at number heads in
    written_for number head literals source
    ++ written (number + 1) (heads_after head heads) (literals_after head literals) sources
